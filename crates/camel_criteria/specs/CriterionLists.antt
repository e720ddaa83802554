-- A destination number criterion, wherever its lists are kept.
use Rattle.std.specs.Prelude.{[]}
use Rattle.camel_criteria.specs.Criteria.{NumberCriterionData}
use Rattle.camel_criteria.specs.declared.criteria.MatchType.TheVariants.{Enabling, Inhibiting}
use Rattle.camel_criteria.specs.declared.criterion_lists.CriterionLists.{CriterionLists}
use Rattle.camel_criteria.specs.declared.criterion_lists.CriterionLists.TheVariants.{FewEnabling, FewInhibiting, Short, Apart}

-- the criterion of these lists: few numbers come without lengths
abbrev pub criterion_of : CriterionLists → NumberCriterionData
criterion_of (FewEnabling numbers) = record { match_type = Enabling; numbers = numbers; lengths = [] }
criterion_of (FewInhibiting numbers) = record { match_type = Inhibiting; numbers = numbers; lengths = [] }
criterion_of (Short lists) = lists
criterion_of (Apart lists) = lists.value
