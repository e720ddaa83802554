use Rattle.std.proofs.Common.{◌≡◌, ℕ, List, take}
use Rattle.std.specs.List.{sum_by}
use Rattle.camel_table.specs.ByImsi.{times_listed, times_stored}
use Rattle.camel_table.proofs.table.Table.imsis.Given as goal

-- each IMSI is listed as often as the buckets so far have it
abbrev pub invariant-loop-at : goal.invariant-loop-at
invariant-loop-at g l = (q : List ℕ) → times_listed q l.imsis.items ≡ sum_by (times_stored q) (take l.at l.self-inside.buckets)
