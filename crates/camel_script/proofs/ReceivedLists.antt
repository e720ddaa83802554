-- A received list is refused by the detection points of its items.
use Rattle.std.proofs.Common.{◌≡◌, ◌∙◌, ℕ, suc, ◌+◌, ◌==◌, Bool, true, false, cond, not, nat_le, List, [], ◌∷◌, ◌++◌}
use Rattle.std.proofs.Common.{map, length, count_by, Option, Some, None, refl, sym, ap, ap₂, arith, length-append}
use Rattle.std.specs.Prelude.{◌&&◌}
use Rattle.std.specs.Result.{result_err}
use Rattle.std.proofs.lemmas.Bool.Decides.{nat_tests}
use Rattle.std.proofs.lemmas.Grind.{common_steps}
use Rattle.std.proofs.lemmas.List.{length-map}
use Rattle.std.proofs.lemmas.List.Sums.{sum_by-append, sum_by-cons}
use Rattle.camel_criteria.specs.DetectionPoint.{is_among, o_detection_points, vt_detection_points}
use Rattle.camel_criteria.specs.declared.refusal.Refusal.{Refusal}
use Rattle.camel_criteria.specs.declared.refusal.Refusal.TheVariants.{UnexpectedDataValue}
use Rattle.camel_rows.specs.TdpRow.{has_no_two, kept_of, kept_unless, list_refusal, TdpRowData}
use Rattle.camel_script.specs.Record.{refusal_of, InsertList, ORows, OCriteria, VtRows, TCriteria, refusal_in}
use Rattle.camel_criteria.specs.Criteria.{OCriteriaData, TCriteriaData}
use Rattle.camel_script.specs.Item.{ItemsData, no_items}

-- A received list is refused by the detection points of its items; and so is one that is taken, with an item more.

-- why a list of items of these detection points is refused, if it is
abbrev pub refusal_at : List ℕ → List ℕ → Option Refusal
refusal_at points dps = refusal_of (kept_of points (λ dp. dp)) dps

-- why a list that is taken is refused with an item of a detection point more, if it is
abbrev pub refusal_with : List ℕ → List ℕ → ℕ → Option Refusal
refusal_with points dps dp =
    cond (nat_le 10 (length dps)) (Some UnexpectedDataValue) (cond (is_among points dp && is_among dps dp) (Some UnexpectedDataValue) None)

as_refused : {Item : Type 0} (why : Option Refusal) (items : List Item) → result_err (kept_unless why items) ≡ why
as_refused None items = refl
as_refused (Some why) items = refl

module _ {Item : Type 0} (dp_of : Item → ℕ) where
  count-dps : (items : List Item) (point : ℕ) → count_by (λ dp. dp == point) (map dp_of items) ≡ count_by (λ item. dp_of item == point) items
  count-dps [] point = refl
  count-dps (item ∷ items) point =
      sum_by-cons (λ dp. cond (dp == point) 1 0) (dp_of item) (map dp_of items)
      ∙ ap (λ n. cond (dp_of item == point) 1 0 + n) (count-dps items point)
      ∙ sym (sum_by-cons (λ item. cond (dp_of item == point) 1 0) item items)

  no_two-dps : (points : List ℕ) (items : List Item) → has_no_two (λ dp. dp) points (map dp_of items) ≡ has_no_two dp_of points items
  no_two-dps [] items = refl
  no_two-dps (point ∷ points) items = ap₂ (λ n rest. nat_le n 1 && rest) (count-dps items point) (no_two-dps points items)

  pub by_dps : (points : List ℕ) (items : List Item) → refusal_of (kept_of points dp_of) items ≡ refusal_at points (map dp_of items)
  by_dps points [] = refl
  by_dps points (item ∷ items) =
      as_refused _ _ ∙ ap₂ list_refusal (sym (length-map (item ∷ items) dp_of)) (sym (no_two-dps points (item ∷ items))) ∙ sym (as_refused _ _)

among_counts : (dps : List ℕ) (dp : ℕ) → is_among dps dp ≡ nat_le 1 (count_by (λ other. other == dp) dps)
among_counts [] dp = refl
among_counts (other ∷ dps) dp =
    let rest = among_counts dps dp in
    let more = sum_by-cons (λ other. cond (other == dp) 1 0) other dps in
    grind (arith, common_steps, nat_tests)

no_two-more : (points dps : List ℕ) (dp : ℕ) → has_no_two (λ dp. dp) points dps ≡ true
    → has_no_two (λ dp. dp) points (dps ++ dp ∷ []) ≡ not (is_among points dp && is_among dps dp)
no_two-more [] dps dp single = refl
no_two-more (point ∷ points) dps dp single =
    let rest = no_two-more points dps dp in
    let among = among_counts dps dp in
    let more = sum_by-append (λ other. cond (other == point) 1 0) dps (dp ∷ []) in
    grind (arith, common_steps, nat_tests)

no_two-none : (points : List ℕ) → has_no_two (λ (dp : ℕ). dp) points [] ≡ true
no_two-none [] = refl
no_two-none (point ∷ points) = no_two-none points

no_two-taken : (points dps : List ℕ) → refusal_at points dps ≡ None → has_no_two (λ dp. dp) points dps ≡ true
no_two-taken points [] taken = no_two-none points
no_two-taken points (dp ∷ dps) taken =
    single (length (dp ∷ dps)) _ (sym (as_refused _ _) ∙ taken)
  where
    single : (count : ℕ) (b : Bool) → list_refusal count b ≡ None → b ≡ true
    single count true taken = refl
    single count false taken = grind (arith, common_steps, nat_tests)

one_more : (count : ℕ) (b : Bool)
    → list_refusal (count + 1) (not b) ≡ cond (nat_le 10 count) (Some UnexpectedDataValue) (cond b (Some UnexpectedDataValue) None)
one_more count true = grind (arith, common_steps, nat_tests)
one_more count false = grind (arith, common_steps, nat_tests)

some_more : (points dps : List ℕ) (dp : ℕ)
    → refusal_at points (dps ++ dp ∷ []) ≡ list_refusal (length (dps ++ dp ∷ [])) (has_no_two (λ dp. dp) points (dps ++ dp ∷ []))
some_more points [] dp = as_refused _ _
some_more points (first ∷ dps) dp = as_refused _ _

pub refused_with : (points dps : List ℕ) (dp : ℕ) → refusal_at points dps ≡ None → refusal_at points (dps ++ dp ∷ []) ≡ refusal_with points dps dp
refused_with points dps dp taken =
    some_more points dps dp ∙ ap₂ list_refusal (length-append dps (dp ∷ [])) (no_two-more points dps dp (no_two-taken points dps taken))
    ∙ one_more (length dps) (is_among points dp && is_among dps dp)

-- a list with items is refused as unexpected data
pub refused_as : (points dps : List ℕ) (why : Refusal) → refusal_at points dps ≡ Some why → why ≡ UnexpectedDataValue
refused_as points [] why refused = absurd (cc)
refused_as points (dp ∷ dps) why refused =
    unexpected (length dps) (has_no_two (λ dp. dp) points (dp ∷ dps)) (sym (as_refused _ _) ∙ refused)
  where
    unexpected : (count : ℕ) (single : Bool) → list_refusal (suc count) single ≡ Some why → why ≡ UnexpectedDataValue
    unexpected count single refused = grind (arith, common_steps, nat_tests)

-- The detection points of the items of a list, by which it is taken or refused.

-- the detection points of the items of a list
abbrev pub dps_in : InsertList → ItemsData → List ℕ
dps_in ORows items = map (λ (row : TdpRowData). row.dp) items.o
dps_in OCriteria items = map (λ (entry : OCriteriaData). entry.dp) items.o_criteria
dps_in VtRows items = map (λ (row : TdpRowData). row.dp) items.vt
dps_in TCriteria items = map (λ (entry : TCriteriaData). entry.dp) items.t_criteria

-- the detection points that count for a list
abbrev pub points_of : InsertList → List ℕ
points_of ORows = o_detection_points
points_of OCriteria = o_detection_points
points_of VtRows = vt_detection_points
points_of TCriteria = vt_detection_points

pub by_dps_in : (list : InsertList) (items : ItemsData) → refusal_in items list ≡ refusal_at (points_of list) (dps_in list items)
by_dps_in ORows items = by_dps (λ (row : TdpRowData). row.dp) o_detection_points items.o
by_dps_in OCriteria items = by_dps (λ (entry : OCriteriaData). entry.dp) o_detection_points items.o_criteria
by_dps_in VtRows items = by_dps (λ (row : TdpRowData). row.dp) vt_detection_points items.vt
by_dps_in TCriteria items = by_dps (λ (entry : TCriteriaData). entry.dp) vt_detection_points items.t_criteria

pub none_refused : (list : InsertList) → (refusal_in no_items list ≡ None) × (dps_in list no_items ≡ [])
none_refused ORows = (refl, refl)
none_refused OCriteria = (refl, refl)
none_refused VtRows = (refl, refl)
none_refused TCriteria = (refl, refl)
