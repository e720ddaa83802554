-- Which criterion of an entry an event doesn't meet, for those who ask why no service is triggered. The order is that
-- in which TS 29.002 has the criteria of an entry.
use Rattle.std.specs.Prelude.{Bool, true, not, [], ◌∷◌, Option, find}
use Rattle.camel_tbcd.specs.declared.profile.Profile.{Profile}
use Rattle.camel_criteria.specs.Criteria.{OCriteriaData, TCriteriaData}
use Rattle.camel_criteria.specs.Met.{OEventData, basic_met, cause_met, held_number_met, type_met}
use Rattle.camel_criteria.specs.declared.event.TEvent.{TEvent}
use Rattle.camel_criteria.specs.declared.unmet.Criterion.{Criterion}
use Rattle.camel_criteria.specs.declared.unmet.Criterion.TheVariants.{DestinationNumber, BasicService, CallType, Cause}

-- an event meets this criterion of an entry of the O-CSI
abbrev pub o_criterion_met : Profile → OCriteriaData → OEventData → Criterion → Bool
o_criterion_met profile entry event DestinationNumber = held_number_met profile entry.number event.destination
o_criterion_met profile entry event BasicService = basic_met entry.basic event.basic
o_criterion_met profile entry event CallType = type_met entry.call_type event.forwarded
o_criterion_met profile entry event Cause = cause_met entry.causes event.cause

-- an event meets this criterion of an entry of the VT-CSI, which has none of the number and of the call type
abbrev pub t_criterion_met : TCriteriaData → TEvent → Criterion → Bool
t_criterion_met entry event DestinationNumber = true
t_criterion_met entry event BasicService = basic_met entry.basic event.basic
t_criterion_met entry event CallType = true
t_criterion_met entry event Cause = cause_met entry.causes event.cause

-- the first criterion that is not met
abbrev pub first_unmet : (Criterion → Bool) → Option Criterion
first_unmet is_met = find (λ criterion. not (is_met criterion)) (DestinationNumber ∷ BasicService ∷ CallType ∷ Cause ∷ [])
