use Rattle.std.proofs.Common.{◌≡◌, ◌≤◌, ◌+◌, ◌==◌, drop, length}
use Rattle.std.specs.List.{position_or_len}
use Rattle.camel_rows.proofs.csi.place_of.Given as goal

-- the place is that among the rows from `at` on
abbrev pub invariant-loop-at : goal.invariant-loop-at
invariant-loop-at l = (l.place + l.at ≤ length l.rows) × (l.place ≡ position_or_len (λ row. row.dp == l.fn.dp) (drop l.at l.rows))

abbrev pub decreases-loop-at : goal.decreases-loop-at
decreases-loop-at l = l.at
