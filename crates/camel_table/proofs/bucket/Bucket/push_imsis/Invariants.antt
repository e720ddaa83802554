use Rattle.std.proofs.Common.{◌≡◌, ◌++◌, take}
use Rattle.camel_table.specs.ByImsi.{keys_of}
use Rattle.camel_table.proofs.bucket.Bucket.push_imsis.Given as goal

-- the IMSIs of the entries so far are listed
abbrev pub invariant-loop-at : goal.invariant-loop-at
invariant-loop-at g l = l.imsis.items ≡ l.fn.imsis.items ++ keys_of (take l.at l.self-inside.entries.items)
