-- An entry of the criteria of the O-CSI, wherever its criteria are kept.
use Rattle.std.specs.Prelude.{[], None, Some}
use Rattle.camel_criteria.specs.Criteria.{OCriteriaData}
use Rattle.camel_criteria.specs.declared.held_criteria.HeldCriteria.{HeldCriteria}
use Rattle.camel_criteria.specs.declared.held_criteria.HeldCriteria.TheVariants.{Nothing, Number, Apart}

-- the entry of these criteria
abbrev pub entry_of : HeldCriteria → OCriteriaData
entry_of (Nothing dp) = record { dp = dp; number = None; basic = []; call_type = None; causes = [] }
entry_of (Number dp number) = record { dp = dp; number = Some number; basic = []; call_type = None; causes = [] }
entry_of (Apart dp criteria) = record {
  dp = dp;
  number = criteria.value.number;
  basic = criteria.value.basic;
  call_type = criteria.value.call_type;
  causes = criteria.value.causes;
}
