use Rattle.std.proofs.Common.{◌≡◌, take}
use Rattle.camel_rows.specs.TdpRow.{items_at}
use Rattle.camel_rows.proofs.csi.Csi.of_received.Given as goal

-- the rows that were kept so far are those of the detection points among the ones before
abbrev pub invariant-loop-row : goal.invariant-loop-row
invariant-loop-row g l = l.csi ≡ items_at (λ row. row.dp) g.K.Entry.CriteriaEntry.points (take l.row-index l.fn.received)
