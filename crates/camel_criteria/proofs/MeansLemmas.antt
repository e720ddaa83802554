-- What the tests of criteria mean.
use Rattle.std.proofs.Common.{◌≡◌, ◌↔◌, ◌⊎◌, ℕ, Bool, ◌==◌, IsTrue, List, [], ◌∷◌, Option, Some, None, Any, Contains}
use Rattle.std.proofs.Common.{length, slice_index_or, refl, subst, inl, inr, ⊎_elim}
use Rattle.std.proofs.lemmas.Bool.{eq-eqb, eqb-true}
use Rattle.std.proofs.lemmas.Bool.Decides.{Decides-and, Decides-not, Decides-or}
use Rattle.std.proofs.lemmas.List.Folds.{Any-from_list_any, list_any-from_Any}
use Rattle.std.specs.Bool.{Decides}
use Rattle.std.specs.List.{list_any}
use Rattle.camel_tbcd.proofs.DigitLemmas.{starts_with-IsPrefix}
use Rattle.camel_tbcd.proofs.ProfileLemmas.{agrees_decides}
use Rattle.camel_tbcd.specs.AddressString.{digits}
use Rattle.camel_tbcd.specs.declared.profile.Profile.{Profile}
use Rattle.camel_criteria.specs.BasicService.{covers}
use Rattle.camel_criteria.specs.Criteria.{NumberCriterionData, OCriteriaData, TCriteriaData}
use Rattle.camel_criteria.specs.Met.{OEventData, BasicMet, CauseMet, HeldNumberMet, NumberMatches, NumberMetBy, OMet}
use Rattle.camel_criteria.specs.Met.{TMet, TypeMet, basic_met, cause_met, held_number_met, is_listed, met_by}
use Rattle.camel_criteria.specs.Met.{number_matches, number_met, o_met, t_met, type_met}
use Rattle.camel_criteria.specs.declared.basic_service.BasicService.{BasicService}
use Rattle.camel_criteria.specs.declared.criteria.CallType.{CallType}
use Rattle.camel_criteria.specs.declared.criteria.CallType.TheVariants.{Forwarded, NotForwarded}
use Rattle.camel_criteria.specs.declared.criteria.MatchType.{MatchType}
use Rattle.camel_criteria.specs.declared.criteria.MatchType.TheVariants.{Inhibiting, Enabling}
use Rattle.camel_criteria.specs.declared.event.TEvent.{TEvent}

Any-weaker : {X : Type 0} (P Q : X → Type 0) → ((x : X) → P x → Q x) → (xs : List X) → Any P xs → Any Q xs
Any-weaker P Q weaker xs some = (some.0, some.1, some.2, some.3, weaker some.1 some.4)

any_decides : {X : Type 0} (test : X → Bool) (P : X → Type 0) → ((x : X) → Decides (test x) (P x)) → (xs : List X) → Decides (list_any test xs) (Any P xs)
any_decides test P each xs =
    (λ e. Any-weaker _ P (λ x. (each x).0) xs (Any-from_list_any test xs e), λ some. list_any-from_Any test xs (Any-weaker P _ (λ x. (each x).1) xs some))

-- a test of each item against a number tells whether the number is among them
contains_decides : (xs : List ℕ) (n : ℕ) → Decides (list_any (λ x. x == n) xs) (Contains xs n)
contains_decides xs n = (
  λ e. let some = Any-from_list_any (λ x. x == n) xs e in (some.0, some.2, subst (λ x. slice_index_or xs some.0 x ≡ x) (eqb-true some.1 n some.4) some.3),
  λ here. list_any-from_Any (λ x. x == n) xs (here.0, n, here.1, here.2, eq-eqb n n refl),
)

number_decides : (profile : Profile) (destination listed : List ℕ)
    → Decides (number_matches profile listed destination) (NumberMatches profile destination listed)
number_decides profile destination listed =
    Decides-and _ _ (agrees_decides profile listed destination) (starts_with-IsPrefix (digits destination) (digits listed))

-- some listed number matches, or the length is listed
abbrev IsListed : Profile → NumberCriterionData → List ℕ → Type 0
IsListed profile criterion destination = Any (NumberMatches profile destination) criterion.numbers ⊎ Contains criterion.lengths (length (digits destination))

listed_decides : (profile : Profile) (criterion : NumberCriterionData) (destination : List ℕ)
    → Decides (is_listed profile criterion destination) (IsListed profile criterion destination)
listed_decides profile criterion destination =
    Decides-or _ _
    (any_decides (λ listed. number_matches profile listed destination) (NumberMatches profile destination)
    (number_decides profile destination) criterion.numbers)
    (contains_decides criterion.lengths (length (digits destination)))

number_met_by : (profile : Profile) (match_type : MatchType) (criterion : NumberCriterionData) (destination : List ℕ)
    → IsTrue (met_by match_type (is_listed profile criterion destination)) ↔ NumberMetBy profile match_type criterion destination
number_met_by profile Enabling criterion destination = listed_decides profile criterion destination
number_met_by profile Inhibiting criterion destination =
    let none = Decides-not _ (listed_decides profile criterion destination) in (
      λ e. (λ number. none.0 e (inl number), λ count. none.0 e (inr count)),
      λ absent. none.1 (⊎_elim absent.0 absent.1),
    )

pub number_means : (profile : Profile) (criterion : NumberCriterionData) (destination : List ℕ)
    → IsTrue (number_met profile criterion destination) ↔ NumberMetBy profile criterion.match_type criterion destination
number_means profile criterion destination = number_met_by profile criterion.match_type criterion destination

held_number_means : (profile : Profile) (criterion : Option NumberCriterionData) (destination : List ℕ)
    → IsTrue (held_number_met profile criterion destination) ↔ HeldNumberMet profile criterion destination
held_number_means profile None destination = (λ _. tt, λ _. refl)
held_number_means profile (Some criterion) destination = number_means profile criterion destination

basic_means : (listed : List BasicService) (call : BasicService) → IsTrue (basic_met listed call) ↔ BasicMet listed call
basic_means [] call = (λ _. inl refl, λ _. refl)
basic_means (first ∷ more) call = (
  λ e. inr (Any-from_list_any (λ code. covers code call) (first ∷ more) e),
  λ met. elim met [ inl none ↦ absurd (let wrong = none in cc) | inr some ↦ list_any-from_Any _ (first ∷ more) some ],
)

type_means : (call_type : Option CallType) (forwarded : Bool) → IsTrue (type_met call_type forwarded) ↔ TypeMet call_type forwarded
type_means None forwarded = (λ _. tt, λ _. refl)
type_means (Some Forwarded) forwarded = (λ e. e, λ e. e)
type_means (Some NotForwarded) forwarded = Decides-not forwarded (λ e. e, λ e. e)

cause_means : (listed : List ℕ) (cause : Option ℕ) → IsTrue (cause_met listed cause) ↔ CauseMet listed cause
cause_means [] cause = (λ _. inl refl, λ _. refl)
cause_means (first ∷ more) None = (
  λ e. absurd (cc),
  λ met. absurd (elim met [ inl none ↦ let wrong = none in cc | inr some ↦ let wrong = some.1 in cc ]),
)
cause_means (first ∷ more) (Some cause) =
    let told = contains_decides (first ∷ more) cause in (
      λ e. inr (cause, refl, told.0 e),
      λ met. elim met as (λ _. IsTrue (cause_met (first ∷ more) (Some cause))) [
        | inl none ↦ absurd (let wrong = none in cc)
        | inr some ↦ (let same : cause ≡ some.0 = cc some.1 in told.1 (rw same some.2))
      ],
    )

pub o_means : (profile : Profile) (entry : OCriteriaData) (event : OEventData) → IsTrue (o_met profile entry event) ↔ OMet profile entry event
o_means profile entry event =
    let type_and_cause = Decides-and _ _ (type_means entry.call_type event.forwarded) (cause_means entry.causes event.cause) in
    let told =
    Decides-and _ _ (held_number_means profile entry.number event.destination) (Decides-and _ _ (basic_means entry.basic event.basic) type_and_cause) in (
      λ e. let parts = told.0 e in record { number = parts.0; basic = parts.1.0; call_type = parts.1.1.0; cause = parts.1.1.1 },
      λ met. told.1 (met.number, (met.basic, (met.call_type, met.cause))),
    )

pub t_means : (entry : TCriteriaData) (event : TEvent) → IsTrue (t_met entry event) ↔ TMet entry event
t_means entry event =
    let told = Decides-and _ _ (basic_means entry.basic event.basic) (cause_means entry.causes event.cause) in (
      λ e. let parts = told.0 e in record { basic = parts.0; cause = parts.1 },
      λ met. told.1 (met.basic, met.cause),
    )
