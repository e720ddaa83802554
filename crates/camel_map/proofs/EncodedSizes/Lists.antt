-- How long the encodings of rows, entries and lists of them are at most.
use Rattle.std.proofs.Common.{◌+◌, ◌*◌, List, [], ◌∷◌, length, get_or, All, arith, ◌≡◌, ℕ, ◌≤◌, ◌&&◌, true, leb, map}
use Rattle.std.proofs.Common.{inl, inr, subst, sym, mul-le-mul_right}
use Rattle.std.proofs.lemmas.List.Elements.{All-weaker, All-cons, All-nil}
use Rattle.std.proofs.lemmas.Bool.{and_parts, leb-true}
use Rattle.std.proofs.lemmas.Option.{IfSome_then}
use Rattle.camel_criteria.specs.Criteria.{NumberCriterionData, OCriteriaData, TCriteriaData, are_causes_at}
use Rattle.camel_rows.specs.TdpRow.{TdpRowData, items_at, kept_of}
use Rattle.camel_tbcd.specs.AddressString.{IsAddress, max_isdn_address_length}
use Rattle.camel_map.specs.Encoding.{handling_number, item_element, leaf, match_type_number, number_element}
use Rattle.camel_map.specs.Encoding.{number_octets, row_fields, IsNumberCriterion, IsRow, call_type_number}
use Rattle.camel_map.specs.Encoding.{cause_element, if_some, service_element, o_entry_fields, t_entry_fields, IsOEntry}
use Rattle.camel_map.specs.Encoding.{IsTEntry, csi_element, list_element, sent, IsKeptList}
use Rattle.camel_map.specs.Reading.{constructed, enumerated, integer, octet_string, primitive, sequence}
use Rattle.camel_map.proofs.EncodedSizes.Bounds.{IsMost, leaf_most, more_most, none_most, number_most, octet_most}
use Rattle.camel_map.proofs.EncodedSizes.Bounds.{parent_most, append_most, some_most, within, AreMost, any_most}
use Rattle.camel_map.proofs.EncodedSizes.Bounds.{map_most}
use Rattle.camel_map.proofs.EncodedLists.Entries.{length_element, call_type_element, if_some_all}
use Rattle.camel_map.proofs.Encoded.Values.{few_listed, passed}
use Rattle.camel_criteria.specs.declared.basic_service.BasicService.{BasicService}
use Rattle.camel_criteria.specs.declared.basic_service.BasicService.TheVariants.{Bearer, Tele}
use Rattle.camel_ber.specs.Elements.{ElementData}
use Rattle.camel_rows.proofs.RowLemmas.{few-from_taken}
use Rattle.camel_map.proofs.Joined.Refusals.{unless_kept}

-- How long the encodings of a row and of a destination number criterion are at most.

-- what holds of each value holds of those of a list
pub every : {A : Type 0} (xs : List A) (P : A → Type 0) → ((x : A) → P x) → All P xs
every xs P all k d within = all (get_or xs k d)

-- a row
pub row_most : (row : TdpRowData) → IsRow row → IsMost 48 (item_element row_fields row)
row_most row is =
    let handling = octet_most (primitive 1) (handling_number row.handling) in
    parent_most sequence _ 42
    (more_most (leaf enumerated (number_octets row.dp)) _ 10 32 (number_most enumerated row.dp)
    (more_most (leaf integer (number_octets row.key)) _ 10 22 (number_most integer row.key)
    (more_most (leaf (primitive 0) row.scf) _ 15 7 (leaf_most (primitive 0) row.scf 9 is.scf.few)
    (more_most (leaf (primitive 1) (handling_number row.handling ∷ [])) [] 7 0 handling none_most))))

-- a destination number criterion
pub number_criterion_most : (criterion : NumberCriterionData) → IsNumberCriterion criterion
    → IsMost 196 (number_element criterion)
number_criterion_most criterion is =
    let numbers = criterion.numbers in
    let lengths = criterion.lengths in
    let few = few_listed criterion is in
    let number = some_most (leaf octet_string) 15 (constructed 1) numbers
    (All-weaker (IsAddress max_isdn_address_length) (λ octets. IsMost 15 (leaf octet_string octets))
    (λ octets is. leaf_most octet_string octets 9 is.few) numbers is.1) in
    let count = some_most length_element 7 (constructed 2) lengths (every lengths _ (octet_most integer)) in
    parent_most (constructed 0) _ 190
    (more_most (leaf (primitive 0) (match_type_number criterion.match_type ∷ [])) _ 7 183
    (octet_most (primitive 0) (match_type_number criterion.match_type))
    (append_most _ _ 156 27 (within _ (length numbers * 15 + 6) 156 number (omega arith))
    (within _ (length lengths * 7 + 6) 27 count (omega arith))))

-- How long the encodings of criteria entries are at most.

service_most : (service : BasicService) → IsMost 7 (service_element service)
service_most (Bearer octet) = octet_most (primitive 2) octet
service_most (Tele octet) = octet_most (primitive 3) octet

basic_most : (octet : ℕ) (services : List BasicService) → length services ≤ 5
    → AreMost 41 (if_some octet service_element services)
basic_most octet services few =
    let all = some_most service_element 7 octet services (every services _ service_most) in
    within _ (length services * 7 + 6) 41 all (omega arith)

causes_most : (octet : ℕ) (causes : List ℕ) → length causes ≤ 5 → AreMost 41 (if_some octet cause_element causes)
causes_most octet causes few =
    let all = some_most cause_element 7 octet causes (every causes _ (octet_most octet_string)) in
    within _ (length causes * 7 + 6) 41 all (omega arith)

-- codes and causes that are taken are five at most
counts : (without_release dp : ℕ) (basic : List BasicService) (causes : List ℕ)
    → (leb (length basic) 5 && are_causes_at without_release dp causes) ≡ true
    → (length basic ≤ 5) × (length causes ≤ 5)
counts without_release dp basic causes tests =
    let parts = and_parts (leb (length basic) 5) _ tests in
    (leb-true _ _ parts.0, leb-true _ _ (and_parts (leb (length causes) 5) _ parts.1).0)

-- an entry of the O-CSI
pub o_entry_most : (entry : OCriteriaData) → IsOEntry entry → IsMost 301 (item_element o_entry_fields entry)
o_entry_most entry is =
    let few = counts 2 entry.dp entry.basic entry.causes (passed _ _ entry _ is.whole) in
    let number = any_most number_element 196 entry.number (IfSome_then entry.number is.number number_criterion_most) in
    let basic = basic_most (constructed 1) entry.basic few.0 in
    let call_type = any_most call_type_element 7 entry.call_type
    (if_some_all entry.call_type _ (λ call_type. octet_most (primitive 2) (call_type_number call_type))) in
    let causes = causes_most (constructed 3) entry.causes few.1 in
    let fields = append_most _ _ 244 41 (append_most _ _ 237 7 (append_most _ _ 196 41 number basic) call_type) causes in
    let dp = leaf enumerated (number_octets entry.dp) in
    parent_most sequence _ 295 (more_most dp _ 10 285 (number_most enumerated entry.dp) fields)

-- an entry of the VT-CSI
pub t_entry_most : (entry : TCriteriaData) → IsTEntry entry → IsMost 98 (item_element t_entry_fields entry)
t_entry_most entry is =
    let few = counts 12 entry.dp entry.basic entry.causes (passed _ _ entry _ is.whole) in
    let basic = basic_most (constructed 0) entry.basic few.0 in
    let causes = causes_most (constructed 1) entry.causes few.1 in
    let fields = append_most _ _ 41 41 basic causes in
    let dp = leaf enumerated (number_octets entry.dp) in
    parent_most sequence _ 92 (more_most dp _ 10 82 (number_most enumerated entry.dp) fields)

-- How long the encodings of lists that are kept are at most.

module _ {Item : Type 0} (fields_of : Item → List ElementData) (most : ℕ) (Is : Item → Type 0)
    (is_most : (x : Item) → Is x → IsMost most (item_element fields_of x)) (ignored : Item) (is_ignored : Is ignored)
    (dp_of : Item → ℕ) (points : List ℕ) (some : 1 ≤ length points) where
  few_most : (x : Item) (xs : List Item) → All Is (x ∷ xs) → length (x ∷ xs) ≤ length points
      → AreMost (length points * most) (map (item_element fields_of) (x ∷ xs))
  few_most x xs is few =
      within (map (item_element fields_of) (x ∷ xs)) (length (x ∷ xs) * most) (length points * most)
      (map_most (item_element fields_of) most (x ∷ xs)
      (All-weaker Is (λ x. IsMost most (item_element fields_of x)) is_most (x ∷ xs) is))
      (mul-le-mul_right most few)

  -- the items of a list that is sent: one of each detection point at most
  sent_most : (items : List Item) → IsKeptList Is (λ items. kept_of points dp_of items) items
      → AreMost (length points * most) (map (item_element fields_of) (sent ignored items))
  sent_most [] kept = few_most ignored [] (All-cons Is ignored [] is_ignored (All-nil Is)) (omega arith)
  sent_most (x ∷ xs) kept =
      elim kept.1 [
        | inl none ↦ absurd cc
        | inr whole ↦
            let taken = unless_kept _ (items_at dp_of points (x ∷ xs)) (x ∷ xs) whole in
            few_most x xs kept.0
            (subst (λ (kept : List Item). length kept ≤ length points) (sym taken.1) (few-from_taken dp_of points (x ∷ xs) taken.0))
      ]

  pub list_most : (octet : ℕ) (items : List Item) → IsKeptList Is (λ items. kept_of points dp_of items) items
      → IsMost (length points * most + 6) (list_element fields_of ignored octet items)
  list_most octet items kept =
      parent_most octet (map (item_element fields_of) (sent ignored items)) (length points * most) (sent_most items kept)

pub csi_most : (ignored : TdpRowData) → IsRow ignored → (octet : ℕ) (points : List ℕ) (some : 1 ≤ length points) (rows : List TdpRowData)
    → IsKeptList IsRow (λ items. kept_of points (λ row. row.dp) items) rows
    → IsMost (length points * 48 + 12) (csi_element ignored octet rows)
csi_most ignored is octet points some rows kept =
    let most = length points * 48 + 6 in
    let list = list_element row_fields ignored sequence rows in
    let all = list_most row_fields 48 IsRow row_most ignored is (λ row. row.dp) points some sequence rows kept in
    let few = parent_most octet (list ∷ []) most
    (within _ (most + 0) most (more_most list [] most 0 all none_most) (omega arith)) in
    omega (arith, few)
