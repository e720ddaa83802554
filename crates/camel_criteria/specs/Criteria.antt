-- The triggering criteria of a detection point (TS 23.078), as clauses see them: O-BcsmCamelTDP-Criteria
-- and T-BCSM-CAMEL-TDP-Criteria of TS 29.002. An empty list of codes or causes is no criterion.
use Rattle.std.specs.Prelude.{◌≡◌, ℕ, Bool, not, ◌==◌, ◌&&◌, ◌||◌, nat_le, List, [], length, Option, None, Result, Ok, Err, if◌then◌else◌}
use Rattle.std.specs.List.{list_all}
use Rattle.camel_criteria.specs.Cause.{max_cause}
use Rattle.camel_criteria.specs.declared.basic_service.BasicService.{BasicService}
use Rattle.camel_criteria.specs.declared.criteria.CallType.{CallType}
use Rattle.camel_criteria.specs.declared.criteria.MatchType.{MatchType}
use Rattle.camel_criteria.specs.declared.refusal.Refusal.{Refusal}
use Rattle.camel_criteria.specs.declared.refusal.Refusal.TheVariants.{DataMissing, UnexpectedDataValue}

-- a destination number criterion: listed numbers, each as its octets, and listed lengths
pub record NumberCriterionData : Type 0 where
  pub match_type : MatchType
  pub numbers : List (List ℕ)
  pub lengths : List ℕ

-- an entry of the criteria of the O-CSI
pub record OCriteriaData : Type 0 where
  pub dp : ℕ
  pub number : Option NumberCriterionData
  pub basic : List BasicService
  pub call_type : Option CallType
  pub causes : List ℕ

-- an entry holds no criterion but that of the number
pub record HoldsNoOther (entry : OCriteriaData) : Type 0 where
  pub basic : entry.basic ≡ []
  pub call_type : entry.call_type ≡ None
  pub causes : entry.causes ≡ []

-- an entry of the criteria of the VT-CSI
pub record TCriteriaData : Type 0 where
  pub dp : ℕ
  pub basic : List BasicService
  pub causes : List ℕ

-- a length is 1 to 15 digits
abbrev pub is_length : ℕ → Bool
is_length count = nat_le 1 count && nat_le count 15

-- the criterion of up to 10 numbers and up to 3 lengths, of which one list is present
abbrev pub number_criterion_of : MatchType → List (List ℕ) → List ℕ → Result NumberCriterionData Refusal
number_criterion_of match_type numbers lengths =
    if length numbers == 0 && length lengths == 0 then Err DataMissing
    else if nat_le (length numbers) 10 && (nat_le (length lengths) 3 && list_all is_length lengths)
    then Ok (record { match_type = match_type; numbers = numbers; lengths = lengths })
    else Err UnexpectedDataValue

-- up to 5 causes, each 0 to 127, and none at the detection point that comes before any release (profile 1's own)
abbrev pub are_causes_at : ℕ → ℕ → List ℕ → Bool
are_causes_at without_release dp causes =
    nat_le (length causes) 5 && (list_all (λ cause. nat_le cause max_cause) causes && (not (dp == without_release) || length causes == 0))

-- the entry of up to 5 codes and of causes, none of them at DP 2
abbrev pub o_criteria_of : ℕ → Option NumberCriterionData → List BasicService → Option CallType → List ℕ → Result OCriteriaData Refusal
o_criteria_of dp number basic call_type causes =
    if nat_le (length basic) 5 && are_causes_at 2 dp causes
    then Ok (record { dp = dp; number = number; basic = basic; call_type = call_type; causes = causes })
    else Err UnexpectedDataValue

-- the entry of up to 5 codes and of causes, none of them at DP 12
abbrev pub t_criteria_of : ℕ → List BasicService → List ℕ → Result TCriteriaData Refusal
t_criteria_of dp basic causes =
    if nat_le (length basic) 5 && are_causes_at 12 dp causes
    then Ok (record { dp = dp; basic = basic; causes = causes })
    else Err UnexpectedDataValue
