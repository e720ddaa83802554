use Rattle.camel_table.specs.Buckets.{AreTagged}
use Rattle.std.proofs.Common.{take}
use Rattle.camel_table.specs.ByImsi.{keys_of}
use Rattle.camel_table.proofs.bucket.tags_of.Given as goal

-- the entries so far have their tags
abbrev pub invariant-loop-at : goal.invariant-loop-at
invariant-loop-at g l = AreTagged l.tags (keys_of (take l.at l.fn.entries))
