-- When the triggering criteria of a detection point are met (TS 23.078): what is computed, and what it means in the
-- words of the standard.
use Rattle.std.specs.Prelude.{ℕ, Bool, List, Option, true, false, not, ◌==◌, ◌&&◌, ◌||◌, [], ◌∷◌, Some, None, length}
use Rattle.std.specs.Prelude.{nat_eq, ◌≡◌, ◌⊎◌, ⊤, IsTrue, Any, Contains}
use Rattle.std.specs.List.{list_any, starts_with}
use mathlib.Core.List.{IsPrefix}
use Rattle.camel_tbcd.specs.Address.{octets}
use Rattle.camel_criteria.specs.declared.basic_service.BasicService.{BasicService}
use Rattle.camel_criteria.specs.declared.event.OEvent.{OEvent}
use Rattle.camel_tbcd.specs.AddressString.{digits, agrees, Agree}
use Rattle.camel_tbcd.specs.declared.profile.Profile.{Profile}
use Rattle.camel_criteria.specs.BasicService.{covers}
use Rattle.camel_criteria.specs.Criteria.{NumberCriterionData, OCriteriaData, TCriteriaData}
use Rattle.camel_criteria.specs.declared.event.TEvent.{TEvent}
use Rattle.camel_criteria.specs.declared.criteria.CallType.{CallType}
use Rattle.camel_criteria.specs.declared.criteria.CallType.TheVariants.{Forwarded, NotForwarded}
use Rattle.camel_criteria.specs.declared.criteria.MatchType.{MatchType}
use Rattle.camel_criteria.specs.declared.criteria.MatchType.TheVariants.{Inhibiting, Enabling}

-- What a call shows to the criteria of the O-CSI, as plain data.

-- the octets of its destination, its basic service, whether it is forwarded, and the cause of its release
pub record OEventData : Type 0 where
  pub destination : List ℕ
  pub basic : BasicService
  pub forwarded : Bool
  pub cause : Option ℕ

-- what an event with a borrowed destination shows
abbrev pub o_event_data : OEvent → OEventData
o_event_data event = record { destination = octets event.destination; basic = event.basic; forwarded = event.forwarded; cause = event.cause }

-- When the triggering criteria of a detection point are met (TS 23.078). That all criteria of an entry are to be met at
-- whichever detection point it is, and that an entry which holds none is met, is profile 1's own. `Means` says the same
-- in the words of the standard.

-- a listed number agrees with the destination, and its digits are the first ones of the destination
abbrev pub number_matches : Profile → List ℕ → List ℕ → Bool
number_matches profile listed destination = agrees profile listed destination && starts_with nat_eq (digits destination) (digits listed)

-- some listed number matches, or the count of digits is a listed length
abbrev pub is_listed : Profile → NumberCriterionData → List ℕ → Bool
is_listed profile criterion destination =
    list_any (λ listed. number_matches profile listed destination) criterion.numbers
    || list_any (λ listed. listed == length (digits destination)) criterion.lengths

abbrev pub met_by : MatchType → Bool → Bool
met_by Enabling listed = listed
met_by Inhibiting listed = not listed

abbrev pub number_met : Profile → NumberCriterionData → List ℕ → Bool
number_met profile criterion destination = met_by criterion.match_type (is_listed profile criterion destination)

-- a criterion that an entry does not hold is met by every event
abbrev pub held_number_met : Profile → Option NumberCriterionData → List ℕ → Bool
held_number_met profile None destination = true
held_number_met profile (Some criterion) destination = number_met profile criterion destination

-- a listed code covers that of the call; an empty list is no criterion
abbrev pub basic_met : List BasicService → BasicService → Bool
basic_met [] call = true
basic_met (first ∷ more) call = list_any (λ listed. covers listed call) (first ∷ more)

abbrev pub type_met : Option CallType → Bool → Bool
type_met None forwarded = true
type_met (Some Forwarded) forwarded = forwarded
type_met (Some NotForwarded) forwarded = not forwarded

-- the event has a cause, and it is listed; an empty list is no criterion
abbrev pub cause_met : List ℕ → Option ℕ → Bool
cause_met [] cause = true
cause_met (first ∷ more) None = false
cause_met (first ∷ more) (Some cause) = list_any (λ listed. listed == cause) (first ∷ more)

-- an event meets an entry if it meets each criterion that the entry holds
abbrev pub o_met : Profile → OCriteriaData → OEventData → Bool
o_met profile entry event =
    held_number_met profile entry.number event.destination
    && (basic_met entry.basic event.basic && (type_met entry.call_type event.forwarded && cause_met entry.causes event.cause))

abbrev pub t_met : TCriteriaData → TEvent → Bool
t_met entry event = basic_met entry.basic event.basic && cause_met entry.causes event.cause

-- What `Met` computes, in the words of the standard (TS 23.078).

-- a listed number agrees with the destination in what the profile compares of octet 1, and its digits are a prefix of
-- the destination's
abbrev pub NumberMatches : Profile → List ℕ → List ℕ → Type 0
NumberMatches profile destination listed = Agree profile listed destination × IsPrefix (digits listed) (digits destination)

-- an enabling criterion is met if some listed number matches or the length is listed, and an inhibiting one if none
-- matches and it is not
abbrev pub NumberMetBy : Profile → MatchType → NumberCriterionData → List ℕ → Type 0
NumberMetBy profile Enabling criterion destination =
    Any (NumberMatches profile destination) criterion.numbers ⊎ Contains criterion.lengths (length (digits destination))
NumberMetBy profile Inhibiting criterion destination =
    (¬ (Any (NumberMatches profile destination) criterion.numbers)) × (¬ (Contains criterion.lengths (length (digits destination))))

abbrev pub HeldNumberMet : Profile → Option NumberCriterionData → List ℕ → Type 0
HeldNumberMet profile None destination = ⊤
HeldNumberMet profile (Some criterion) destination = NumberMetBy profile criterion.match_type criterion destination

-- no code is listed, or one that covers the call's is
abbrev pub BasicMet : List BasicService → BasicService → Type 0
BasicMet listed call = (listed ≡ []) ⊎ Any (λ code. IsTrue (covers code call)) listed

abbrev pub TypeMet : Option CallType → Bool → Type 0
TypeMet None forwarded = ⊤
TypeMet (Some Forwarded) forwarded = IsTrue forwarded
TypeMet (Some NotForwarded) forwarded = ¬ (IsTrue forwarded)

-- no cause is listed, or the event has one that is
abbrev pub CauseMet : List ℕ → Option ℕ → Type 0
CauseMet listed cause = (listed ≡ []) ⊎ ((value : ℕ) × (cause ≡ Some value) × Contains listed value)

-- an event meets an entry of the O-CSI if it meets each criterion
pub record OMet (profile : Profile) (entry : OCriteriaData) (event : OEventData) : Type 0 where
  pub number : HeldNumberMet profile entry.number event.destination
  pub basic : BasicMet entry.basic event.basic
  pub call_type : TypeMet entry.call_type event.forwarded
  pub cause : CauseMet entry.causes event.cause

-- an event meets an entry of the VT-CSI if it meets each criterion
pub record TMet (entry : TCriteriaData) (event : TEvent) : Type 0 where
  pub basic : BasicMet entry.basic event.basic
  pub cause : CauseMet entry.causes event.cause
