-- Encoded numbers, items and values of criteria are read as they are.
use Rattle.std.proofs.Common.{◌≡◌, ℕ, ◌≤◌, ◌&&◌, ◌||◌, Bool, true, false, not, cond, eqb, leb, List, length, All, Ok}
use Rattle.std.proofs.Common.{Err, refl, ◌/◌, ◌%◌, ◌<◌, [], ◌∷◌, slice_index, ap, arith, ◌∙◌, map, Result, min}
use Rattle.std.proofs.lemmas.Bool.{and_parts, leb-true, le-leb}
use Rattle.std.proofs.lemmas.List.Elements.{All-weaker, All-head, All-tail}
use Rattle.std.proofs.lemmas.List.Sums.{AllPass-from_list_all}
use Rattle.std.specs.List.{list_all}
use Rattle.std.proofs.lemmas.Bool.Decides.{nat_tests}
use Rattle.camel_criteria.specs.Cause.{max_cause}
use Rattle.camel_criteria.specs.Criteria.{NumberCriterionData, are_causes_at, is_length}
use Rattle.camel_map.specs.Encoding.{IsNumberCriterion, leaf, number_octets, if_some, item_element, parent}
use Rattle.camel_map.specs.Encoding.{call_type_number, cause_element, match_type_number, service_element}
use Rattle.camel_ber.specs.Elements.{value_of, ElementData, IsIdentifier, ◌>>=◌, PlacedData}
use Rattle.camel_map.specs.Reading.{detection_point_in, unsigned_in, field_of, if_listed, sequence, item_in, items_as}
use Rattle.camel_map.specs.Reading.{some_of, contents, elements_in, integer, octet_string, primitive, basic_service_in}
use Rattle.camel_map.specs.Reading.{call_type_in, cause_in, isdn_address_in, length_in, match_type_in, number_in}
use Rattle.camel_map.specs.Reading.{service_code_in}
use Rattle.camel_map.proofs.Encoded.Series.{chosen, Decodes, field_absent, field_there, of_tag, AreIdentified, AreRead}
use Rattle.camel_map.proofs.Encoded.Series.{at, parts_read, one_octet}
use Rattle.camel_reading.specs.Reading.{each_of}
use Rattle.camel_map.specs.declared.map_fault.MapFault.{MapFault}
use Rattle.camel_criteria.specs.declared.basic_service.BasicService.{BasicService}
use Rattle.camel_criteria.specs.declared.basic_service.BasicService.TheVariants.{Bearer, Tele}
use Rattle.camel_criteria.specs.declared.criteria.CallType.{CallType}
use Rattle.camel_criteria.specs.declared.criteria.CallType.TheVariants.{Forwarded, NotForwarded}
use Rattle.camel_criteria.specs.declared.criteria.MatchType.{MatchType}
use Rattle.camel_criteria.specs.declared.criteria.MatchType.TheVariants.{Enabling, Inhibiting}
use Rattle.camel_tbcd.specs.AddressString.{IsAddress, max_isdn_address_length}

-- The tests that a constructor's result shows to be passed.

-- a test that was passed
pub passed : {A E : Type 0} (test : Bool) (x z : A) (why : E) → cond test (Ok x) (Err why) ≡ Ok z → test ≡ true
passed true x z why is = refl
passed false x z why is = absurd cc

-- a test that was passed behind one that refuses
pub passed_next : {A E : Type 0} (refused test : Bool) (x z : A) (first why : E)
    → cond refused (Err first) (cond test (Ok x) (Err why)) ≡ Ok z → test ≡ true
passed_next true test x z first why is = absurd cc
passed_next false test x z first why is = passed test x z why is

-- causes that are taken are at most the greatest
pub causes_most : (without_release dp : ℕ) (causes : List ℕ) → are_causes_at without_release dp causes ≡ true
    → All (λ (cause : ℕ). cause ≤ 127) causes
causes_most without_release dp causes is =
    let tests = (and_parts (leb (length causes) 5) _ is).1 in
    let all = (and_parts (list_all (λ cause. leb cause max_cause) causes)
    (not (eqb dp without_release) || eqb (length causes) 0) tests).0 in
    All-weaker (λ (cause : ℕ). leb cause 127 ≡ true) (λ (cause : ℕ). cause ≤ 127) (λ cause is. leb-true _ _ is) causes
    (AllPass-from_list_all (λ cause. leb cause max_cause) causes all)

-- a criterion that is taken has ten numbers and three lengths at most, each of at most 15 digits
pub record FewListed (criterion : NumberCriterionData) : Type 0 where
  pub numbers : length criterion.numbers ≤ 10
  pub lengths : length criterion.lengths ≤ 3
  pub digits : All (λ (count : ℕ). count ≤ 15) criterion.lengths

pub few_listed : (criterion : NumberCriterionData) → IsNumberCriterion criterion → FewListed criterion
few_listed criterion is =
    let numbers = criterion.numbers in
    let lengths = criterion.lengths in
    let tests = passed_next (eqb (length numbers) 0 && eqb (length lengths) 0)
    (leb (length numbers) 10 && (leb (length lengths) 3 && list_all is_length lengths)) _ criterion _ _ is.0 in
    let first = and_parts (leb (length numbers) 10) _ tests in
    let next = and_parts (leb (length lengths) 3) _ first.1 in
    record {
      numbers = leb-true _ _ first.0;
      lengths = leb-true _ _ next.0;
      digits = All-weaker (λ (count : ℕ). is_length count ≡ true) (λ (count : ℕ). count ≤ 15)
          (λ count is. leb-true _ _ (and_parts (leb 1 count) _ is).1) lengths (AllPass-from_list_all is_length lengths next.1);
    }

-- The contents of an INTEGER or ENUMERATED are read as the number that they encode.

-- contents say a number that is not below 0
pub record Say (content : List ℕ) (number : ℕ) : Type 0 where
  pub some : eqb (length content) 0 ≡ false
  pub positive : leb 128 (slice_index content 0) ≡ false
  pub value : value_of content ≡ number

not_from_128 : (first : ℕ) → first < 128 → leb 128 first ≡ false
not_from_128 first below = grind (arith, nat_tests)

one_place : (n : ℕ) → n < 128 → Say (n ∷ []) n
one_place n below = record { some = refl; positive = not_from_128 n below; value = omega arith }

two_places : (n : ℕ) → n < 32768 → Say (n / 256 ∷ n % 256 ∷ []) n
two_places n below = record { some = refl; positive = not_from_128 (n / 256) (omega arith); value = omega arith }

three_places : (n : ℕ) → n < 8388608 → Say (n / 65536 ∷ n / 256 % 256 ∷ n % 256 ∷ []) n
three_places n below = record { some = refl; positive = not_from_128 (n / 65536) (omega arith); value = omega arith }

four_places : (n : ℕ) → n ≤ 2147483647 → Say (n / 16777216 ∷ n / 65536 % 256 ∷ n / 256 % 256 ∷ n % 256 ∷ []) n
four_places n most = record { some = refl; positive = not_from_128 (n / 16777216) (omega arith); value = omega arith }

-- the octets of a number below 2^31 say it
pub number-said : (n : ℕ) → n ≤ 2147483647 → Say (number_octets n) n
number-said n most =
    chosen (λ content. Say content n) n 128 _ _ (one_place n)
    (λ over_one. chosen (λ content. Say content n) n 32768 _ _ (two_places n)
    (λ over_two. chosen (λ content. Say content n) n 8388608 _ _ (three_places n) (λ over_three. four_places n most)))

-- contents that say a number are read as it
said_unsigned : (octet : ℕ) (content : List ℕ) (n : ℕ) → Say content n → n ≤ 2147483647
    → Decodes unsigned_in (leaf octet content) n
unfolding unsigned_in
said_unsigned octet content n say most short place end =
    rw (say.some, say.positive, say.value) (ap Ok (omega arith))

pub unsigned_number : (octet n : ℕ) → n ≤ 2147483647 → Decodes unsigned_in (leaf octet (number_octets n)) n
unsigned_number octet n most = said_unsigned octet (number_octets n) n (number-said n most) most

-- a number below 128 is its octet
pub unsigned_octet : (octet n : ℕ) → n < 128 → Decodes unsigned_in (leaf octet (n ∷ [])) n
unsigned_octet octet n below = said_unsigned octet (n ∷ []) n (one_place n below) (omega arith)

-- a detection point is read as itself
pub detection_point : (octet n : ℕ) → n ≤ 255 → Decodes detection_point_in (leaf octet (number_octets n)) n
unfolding detection_point_in
detection_point octet n most short place end =
    let say = number-said n (omega arith) in
    rw (say.some, say.positive, say.value) (ap Ok (omega arith))

-- An encoded item, and the items of an encoded list, are read as what they encode.

-- an item whose fields are read as a value is read as it
pub item_read : {A : Type 0} (of_fields : PlacedData → List PlacedData → Result A MapFault)
    (fields_of : A → List ElementData) (x : A) → AreIdentified (fields_of x)
    → ((item : PlacedData) (fields : List PlacedData) → AreRead fields (fields_of x) → of_fields item fields ≡ Ok x)
    → Decodes (item_in of_fields) (item_element fields_of x) x
unfolding item_in
item_read of_fields fields_of x identified read short place end =
    let parts = parts_read sequence (fields_of x) place end identified short in
    rw parts.1 (read (at (item_element fields_of x) place end) parts.0 parts.2)

module _ {A : Type 0} (value_of : PlacedData → Result A MapFault) (element_of : A → ElementData) where
  -- an element of each value is read as the value
  abbrev pub AreDecoded : List A → Type 0
  AreDecoded xs = All (λ (x : A). Decodes value_of (element_of x) x) xs

  identified_map : (xs : List A) → ((x : A) → IsIdentifier (element_of x).identifier) → AreIdentified (map element_of xs)
  identified_map [] is = tt
  identified_map (x ∷ xs) is = (is x, identified_map xs is)

  each_read : (ps : List PlacedData) (xs : List A) → AreRead ps (map element_of xs) → AreDecoded xs
      → each_of value_of ps ≡ Ok xs
  unfolding each_of
  each_read [] [] read decoded = refl
  each_read [] (x ∷ xs) read decoded = let same = read.same in absurd cc
  each_read (p ∷ ps) [] read decoded = let same = read.same in absurd cc
  each_read (p ∷ ps) (x ∷ xs) read decoded =
      let same = read.same in
      let it : p.element ≡ element_of x = cc in
      let here : p ≡ at (element_of x) p.place p.end = ap (λ (element : ElementData). at element p.place p.end) it in
      let is = All-head (λ (x : A). Decodes value_of (element_of x) x) x xs decoded in
      let one : value_of p ≡ Ok x = ap value_of here ∙ is read.short.0 p.place p.end in
      let more : each_of value_of ps ≡ Ok xs =
      each_read ps xs (record { same = cc; short = read.short.1 })
      (All-tail (λ (x : A). Decodes value_of (element_of x) x) x xs decoded) in
      rw (one, more) refl

  some_read : (list : PlacedData) (ps : List PlacedData) (x : A) (xs : List A) → AreRead ps (map element_of (x ∷ xs))
      → some_of list ps ≡ Ok ps
  some_read list [] x xs read = let same = read.same in absurd cc
  some_read list (p ∷ ps) x xs read = refl

  -- a list that has items is read as them
  pub items_read : (octet : ℕ) (x : A) (xs : List A) → ((x : A) → IsIdentifier (element_of x).identifier)
      → AreDecoded (x ∷ xs)
      → Decodes (items_as value_of) (parent octet (map element_of (x ∷ xs))) (x ∷ xs)
  unfolding items_as
  items_read octet x xs identified decoded short place end =
      let list = at (parent octet (map element_of (x ∷ xs))) place end in
      let items = identified_map (x ∷ xs) identified in
      let parts = parts_read octet (map element_of (x ∷ xs)) place end items short in
      let all : elements_in (contents list) ≡ Ok parts.0 = parts.1 in
      ap (λ (ps : Result (List PlacedData) MapFault). (ps >>= some_of list) >>= each_of value_of) all
      ∙ ap (λ (ps : Result (List PlacedData) MapFault). ps >>= each_of value_of) (some_read list parts.0 x xs parts.2)
      ∙ each_read parts.0 (x ∷ xs) parts.2 decoded

  -- a list that is absent if it has no items is read as them
  pub listed_read : (octet : ℕ) (ps : List PlacedData) (es : List ElementData) (xs : List A)
      → ((x : A) → IsIdentifier (element_of x).identifier) → AreRead ps es
      → of_tag octet es ≡ if_some octet element_of xs → AreDecoded xs
      → (field_of octet ps >>= if_listed (items_as value_of)) ≡ Ok xs
  listed_read octet ps es [] identified read found decoded =
      let none = field_absent octet ps es read found in rw none refl
  listed_read octet ps es (x ∷ xs) identified read found decoded =
      let field = field_there octet ps es (parent octet (map element_of (x ∷ xs))) refl read found in
      rw field.2 (items_read octet x xs identified decoded field.3 field.0 field.1)

-- The encoded values of criteria are read as they are.

pub match_type_read : (octet : ℕ) (match_type : MatchType)
    → Decodes match_type_in (leaf octet (match_type_number match_type ∷ [])) match_type
unfolding match_type_in
match_type_read octet Inhibiting short place end = let value = unsigned_octet octet 0 (omega arith) short place end in rw value refl
match_type_read octet Enabling short place end = let value = unsigned_octet octet 1 (omega arith) short place end in rw value refl

pub call_type_read : (octet : ℕ) (call_type : CallType)
    → Decodes call_type_in (leaf octet (call_type_number call_type ∷ [])) call_type
unfolding call_type_in
call_type_read octet Forwarded short place end = let value = unsigned_octet octet 0 (omega arith) short place end in rw value refl
call_type_read octet NotForwarded short place end = let value = unsigned_octet octet 1 (omega arith) short place end in rw value refl

-- an address is read as its octets
pub address_read : (octet : ℕ) (octets : List ℕ) → IsAddress max_isdn_address_length octets
    → Decodes isdn_address_in (leaf octet octets) octets
unfolding isdn_address_in
address_read octet octets is short place end =
    rw (le-leb 1 (length octets) is.some, le-leb (length octets) 9 is.few) refl

pub number_read : (octets : List ℕ) → IsAddress max_isdn_address_length octets
    → Decodes number_in (leaf octet_string octets) octets
unfolding number_in
number_read octets is short place end = address_read octet_string octets is short place end

pub length_read : (count : ℕ) → count ≤ 15 → Decodes length_in (leaf integer (count ∷ [])) count
unfolding length_in
length_read count most short place end =
    let value : unsigned_in (at (leaf integer (count ∷ [])) place end) ≡ Ok count =
    unsigned_octet integer count (omega arith) short place end in
    let small : min count 255 ≡ count = omega arith in
    ap (λ (value : Result ℕ MapFault). value >>= λ value. Ok (min value 255)) value ∙ ap Ok small

pub cause_read : (cause : ℕ) → cause ≤ 127 → Decodes cause_in (cause_element cause) cause
unfolding cause_in
cause_read cause most short place end = ap Ok (omega arith)

pub service_read : (service : BasicService) → Decodes basic_service_in (service_element service) service
unfolding basic_service_in service_code_in
service_read (Bearer octet) short place end = refl
service_read (Tele octet) short place end = refl

-- a basic service has an identifier
pub service_identified : (service : BasicService) → IsIdentifier (service_element service).identifier
service_identified (Bearer octet) = one_octet (primitive 2) (refl, refl)
service_identified (Tele octet) = one_octet (primitive 3) (refl, refl)

-- basic services are read as they are
pub services_decoded : (services : List BasicService) → AreDecoded basic_service_in service_element services
services_decoded services k d within = service_read _
