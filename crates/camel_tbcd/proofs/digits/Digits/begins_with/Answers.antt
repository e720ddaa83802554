use Rattle.std.proofs.lemmas.Bool.Decides.{same_from_decides}
use Rattle.camel_tbcd.proofs.DigitLemmas.{starts_with-IsPrefix}
use Rattle.camel_tbcd.proofs.digits.Digits.begins_with.Goals as goal

pub returns-clause-tested : goal.returns-clause-tested
returns-clause-tested c = same_from_decides _ _ c.has_front.ensures (starts_with-IsPrefix _ _)
