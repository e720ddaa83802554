-- An encoded entry of criteria is read as itself.
use Rattle.std.proofs.Common.{ℕ, ◌≤◌, List, [], ◌∷◌, refl, ap, ◌≡◌, leb, length, All, IfSome, Option, Some, None, Ok}
use Rattle.std.proofs.Common.{arith}
use Rattle.std.proofs.lemmas.List.Elements.{All-weaker}
use Rattle.std.proofs.lemmas.Bool.{and_parts}
use Rattle.std.proofs.lemmas.Option.{IfSome_then}
use Rattle.camel_ber.specs.Elements.{ElementData, PlacedData}
use Rattle.camel_criteria.specs.Criteria.{NumberCriterionData, OCriteriaData, TCriteriaData}
use Rattle.camel_tbcd.specs.AddressString.{IsAddress, max_isdn_address_length}
use Rattle.camel_map.specs.Csi.{number_criterion_in, o_entry_of_fields, t_entry_of_fields}
use Rattle.camel_map.specs.Encoding.{leaf, match_type_number, number_element, IsNumberCriterion, call_type_number}
use Rattle.camel_map.specs.Encoding.{cause_element, ignored_o_entry, item_element, number_octets, o_entry_fields}
use Rattle.camel_map.specs.Encoding.{service_element, IsOEntry, ignored_t_entry, t_entry_fields, IsTEntry}
use Rattle.camel_map.specs.Reading.{constructed, integer, octet_string, primitive, or_refused_at, length_in}
use Rattle.camel_map.specs.Reading.{match_type_in, number_in, enumerated, item_in, basic_service_in, call_type_in}
use Rattle.camel_map.specs.Reading.{cause_in, detection_point_in}
use Rattle.camel_map.proofs.Encoded.Series.{mandatory_read, Decodes, at, one_octet, parts_read, optional_read, AreRead}
use Rattle.camel_map.proofs.Encoded.Values.{listed_read, few_listed, length_read, match_type_read, number_read}
use Rattle.camel_map.proofs.Encoded.Values.{item_read, detection_point, causes_most, passed, call_type_read, cause_read}
use Rattle.camel_map.proofs.Encoded.Values.{service_identified, services_decoded}
use Rattle.camel_map.proofs.Encoded.Parts.{Part, found, identified, joined, some_part, any_part}
use Rattle.camel_criteria.specs.declared.criteria.CallType.{CallType}

-- An encoded destination number criterion is read as itself.

-- a listed length
abbrev pub length_element : ℕ → ElementData
length_element count = leaf integer (count ∷ [])

module _ (criterion : NumberCriterionData) where
  abbrev match_type_parts : List ElementData
  match_type_parts = leaf (primitive 0) (match_type_number criterion.match_type ∷ []) ∷ []

  abbrev listed : List Part
  listed =
      some_part (constructed 1) (leaf octet_string) criterion.numbers (refl, refl)
      ∷ some_part (constructed 2) length_element criterion.lengths (refl, refl)
      ∷ []

  -- the fields of a criterion
  abbrev number_parts : List ElementData
  number_parts = joined match_type_parts listed

  -- a criterion is read as itself
  pub criterion_read : IsNumberCriterion criterion → Decodes number_criterion_in (number_element criterion) criterion
  unfolding number_criterion_in
  criterion_read is short place end =
      let item = at (number_element criterion) place end in
      let all = identified match_type_parts listed (one_octet (primitive 0) (refl, refl), tt) in
      let parts = parts_read (constructed 0) number_parts place end all short in
      let fields = parts.0 in
      let match_type = mandatory_read match_type_in (primitive 0) fields number_parts item _ criterion.match_type refl parts.2
      (found (primitive 0) match_type_parts listed) (match_type_read (primitive 0) criterion.match_type) in
      let numbers = listed_read number_in (leaf octet_string) (constructed 1) fields number_parts criterion.numbers
      (λ x. one_octet octet_string (refl, refl)) parts.2 (found (constructed 1) match_type_parts listed)
      (All-weaker (IsAddress max_isdn_address_length) _ number_read criterion.numbers is.1) in
      let lengths = listed_read length_in length_element (constructed 2) fields number_parts criterion.lengths
      (λ x. one_octet integer (refl, refl)) parts.2 (found (constructed 2) match_type_parts listed)
      (All-weaker (λ (count : ℕ). count ≤ 15) _ length_read criterion.lengths (few_listed criterion is).digits) in
      rw (parts.1, match_type, numbers, lengths) (ap (or_refused_at place) is.0)

-- An encoded criteria entry of the O-CSI is read as itself.

-- what holds of each value holds of one that may be there
pub if_some_all : {A : Type 0} (o : Option A) (P : A → Type 0) → ((x : A) → P x) → IfSome o P
if_some_all None P all = tt
if_some_all (Some x) P all = all x

-- CallTypeCriteria
abbrev pub call_type_element : CallType → ElementData
call_type_element call_type = leaf (primitive 2) (call_type_number call_type ∷ [])

module _ (entry : OCriteriaData) where
  abbrev dp_parts : List ElementData
  dp_parts = leaf enumerated (number_octets entry.dp) ∷ []

  abbrev o_fields : List Part
  o_fields =
      any_part (constructed 0) number_element entry.number (λ x. refl) (refl, refl)
      ∷ some_part (constructed 1) service_element entry.basic (refl, refl)
      ∷ any_part (primitive 2) call_type_element entry.call_type (λ x. refl) (refl, refl)
      ∷ some_part (constructed 3) cause_element entry.causes (refl, refl)
      ∷ []

  -- the fields of an entry of the O-CSI
  abbrev o_parts : List ElementData
  o_parts = joined dp_parts o_fields

  fields_read : IsOEntry entry → (item : PlacedData) (fields : List PlacedData) → AreRead fields o_parts
      → o_entry_of_fields item fields ≡ Ok entry
  unfolding o_entry_of_fields
  fields_read is item fields read =
      let tests = passed _ _ entry _ is.whole in
      let few : All (λ (cause : ℕ). cause ≤ 127) entry.causes =
      causes_most 2 entry.dp entry.causes (and_parts (leb (length entry.basic) 5) _ tests).1 in
      let dp = mandatory_read detection_point_in enumerated fields o_parts item _ entry.dp refl read
      (found enumerated dp_parts o_fields) (detection_point enumerated entry.dp is.dp) in
      let number = optional_read number_criterion_in (constructed 0) fields o_parts number_element entry.number (λ x. refl) read
      (found (constructed 0) dp_parts o_fields) (IfSome_then entry.number is.number criterion_read) in
      let basic = listed_read basic_service_in service_element (constructed 1) fields o_parts entry.basic service_identified read
      (found (constructed 1) dp_parts o_fields) (services_decoded entry.basic) in
      let call_type = optional_read call_type_in (primitive 2) fields o_parts call_type_element entry.call_type (λ x. refl) read
      (found (primitive 2) dp_parts o_fields)
      (if_some_all entry.call_type (λ x. Decodes call_type_in (call_type_element x) x) (call_type_read (primitive 2))) in
      let causes = listed_read cause_in cause_element (constructed 3) fields o_parts entry.causes
      (λ x. one_octet octet_string (refl, refl)) read (found (constructed 3) dp_parts o_fields)
      (All-weaker (λ (cause : ℕ). cause ≤ 127) _ cause_read entry.causes few) in
      rw (dp, number, basic, call_type, causes) (ap (or_refused_at item.place) is.whole)

  -- an entry of the O-CSI is read as itself
  pub o_entry_read : IsOEntry entry → Decodes (item_in o_entry_of_fields) (item_element o_entry_fields entry) entry
  o_entry_read is =
      item_read o_entry_of_fields o_entry_fields entry
      (identified dp_parts o_fields (one_octet enumerated (refl, refl), tt)) (fields_read is)

pub is_ignored_o_entry : IsOEntry ignored_o_entry
is_ignored_o_entry = record { dp = omega arith; number = tt; whole = refl }

-- An encoded criteria entry of the VT-CSI is read as itself.

module _ (entry : TCriteriaData) where
  abbrev t_dp_parts : List ElementData
  t_dp_parts = leaf enumerated (number_octets entry.dp) ∷ []

  abbrev t_fields : List Part
  t_fields =
      some_part (constructed 0) service_element entry.basic (refl, refl)
      ∷ some_part (constructed 1) cause_element entry.causes (refl, refl)
      ∷ []

  -- the fields of an entry of the VT-CSI
  abbrev t_parts : List ElementData
  t_parts = joined t_dp_parts t_fields

  t_fields_read : IsTEntry entry → (item : PlacedData) (fields : List PlacedData) → AreRead fields t_parts
      → t_entry_of_fields item fields ≡ Ok entry
  unfolding t_entry_of_fields
  t_fields_read is item fields read =
      let tests = passed _ _ entry _ is.whole in
      let few : All (λ (cause : ℕ). cause ≤ 127) entry.causes =
      causes_most 12 entry.dp entry.causes (and_parts (leb (length entry.basic) 5) _ tests).1 in
      let dp = mandatory_read detection_point_in enumerated fields t_parts item _ entry.dp refl read
      (found enumerated t_dp_parts t_fields) (detection_point enumerated entry.dp is.dp) in
      let basic = listed_read basic_service_in service_element (constructed 0) fields t_parts entry.basic service_identified read
      (found (constructed 0) t_dp_parts t_fields) (services_decoded entry.basic) in
      let causes = listed_read cause_in cause_element (constructed 1) fields t_parts entry.causes
      (λ x. one_octet octet_string (refl, refl)) read (found (constructed 1) t_dp_parts t_fields)
      (All-weaker (λ (cause : ℕ). cause ≤ 127) _ cause_read entry.causes few) in
      rw (dp, basic, causes) (ap (or_refused_at item.place) is.whole)

  -- an entry of the VT-CSI is read as itself
  pub t_entry_read : IsTEntry entry → Decodes (item_in t_entry_of_fields) (item_element t_entry_fields entry) entry
  t_entry_read is =
      item_read t_entry_of_fields t_entry_fields entry
      (identified t_dp_parts t_fields (one_octet enumerated (refl, refl), tt)) (t_fields_read is)

pub is_ignored_t_entry : IsTEntry ignored_t_entry
is_ignored_t_entry = record { dp = omega arith; whole = refl }
