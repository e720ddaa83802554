-- The contents of an encoded element are read as the elements that they encode, and its fields are found.
use Rattle.std.proofs.Common.{◌≡◌, ℕ, ◌<◌, ◌≤◌, cond, ltb, List, length, inl, inr, refl, arith, zero, suc, ◌%◌, false}
use Rattle.std.proofs.Common.{eqb, [], ◌∷◌, ◌++◌, Result, Ok, ap, ◌∙◌, ◌&&◌, Bool, true, filter, slice_index, Some}
use Rattle.std.proofs.Common.{None, IfSome, Option, subst}
use Rattle.std.proofs.lemmas.Bool.{cond_both, ltb-false, ltb-true, eqb-false, eq-eqb}
use Rattle.std.proofs.lemmas.List.{length-append}
use Rattle.std.proofs.lemmas.Iterator.Adapters.{option_map_id}
use Rattle.std.specs.Option.{option_map}
use Rattle.camel_ber.specs.Elements.{IsLength, value_of, ElementData, IsDefinite, IsElement, IsIdentifier, IsSeries}
use Rattle.camel_ber.specs.Elements.{OctetsData, PlacedData, elements, ◌>>=◌}
use Rattle.camel_map.specs.Encoding.{length_octets, octets_of, encoding, encodings, parent, if_any}
use Rattle.camel_ber.proofs.ListLemmas.{series_read}
use Rattle.camel_map.specs.Reading.{sequence, contents, elements_in, max_depth, or_malformed, is_tagged, only_field}
use Rattle.camel_map.specs.Reading.{same_tag, field_of, if_present, mandatory}
use Rattle.camel_map.specs.declared.map_fault.MapFault.{MapFault}
use Rattle.camel_map.specs.Csi.{first_of}

-- The length octets of an encoding say its length.

-- what holds of each of two holds of the one that is chosen by whether a number is below another
pub chosen : {A : Type 0} (P : A → Type 0) (n m : ℕ) (x y : A) → (n < m → P x) → (m ≤ n → P y) → P (cond (ltb n m) x y)
chosen P n m x y low high = cond_both (ltb n m) x y P (λ below. low (ltb-true n m below)) (λ above. high (ltb-false n m above))

-- octets are one to four, and stand for a number
pub record Stand (number : ℕ) (octets : List ℕ) : Type 0 where
  pub some : 1 ≤ length octets
  pub few : length octets ≤ 4
  pub value : number ≡ value_of octets

-- the octets of a number stand for it
pub octets-stand : (n : ℕ) → Stand n (octets_of n)
octets-stand n =
    chosen (Stand n) n 256 _ _ (λ below. record { some = omega arith; few = omega arith; value = omega arith })
    (λ over_one. chosen (Stand n) n 65536 _ _ (λ below. record { some = omega arith; few = omega arith; value = omega arith })
    (λ over_two. chosen (Stand n) n 16777216 _ _ (λ below. record { some = omega arith; few = omega arith; value = omega arith })
    (λ over_three. record { some = omega arith; few = omega arith; value = omega arith })))

-- the length octets of a number say it
pub length-said : (n : ℕ) → IsLength (length_octets n) n
length-said n =
    let all = octets-stand n in
    chosen (λ octets. IsLength octets n) n 128 _ _ (λ below. inl (below, refl, refl)) (λ above. inr (refl, all.some, all.few, all.value))

-- The contents of an encoded element are read as the elements that they encode.

-- an element at a place
abbrev pub at : ElementData → ℕ → ℕ → PlacedData
at element place end = record { element = element; place = place; end = end }

-- the contents are so few that length octets say how many they are
abbrev pub IsShort : ElementData → Type 0
IsShort element = length element.content < 4294967296

abbrev pub AreShort : List ElementData → Type 0
AreShort [] = Unit {0}
AreShort (first ∷ more) = IsShort first × AreShort more

-- an element, wherever it is, is read as a value
abbrev pub Decodes : {A : Type 0} → (PlacedData → Result A MapFault) → ElementData → A → Type 0
Decodes value_of element value = IsShort element → (place end : ℕ) → value_of (at element place end) ≡ Ok value

-- each element has an identifier
abbrev pub AreIdentified : List ElementData → Type 0
AreIdentified [] = Unit {0}
AreIdentified (first ∷ more) = IsIdentifier first.identifier × AreIdentified more

-- an octet that is an identifier
pub one_octet : (octet : ℕ) → (eqb octet 0 ≡ false) × (eqb (octet % 32) 31 ≡ false) → IsIdentifier (octet ∷ [])
one_octet octet is = (eqb-false _ _ is.0, inl (eqb-false _ _ is.1, refl))

-- the octet of a SEQUENCE is an identifier
pub a_sequence : IsIdentifier (sequence ∷ [])
a_sequence = one_octet sequence (refl, refl)

-- elements that were read where these are encoded
pub record AreRead (ps : List PlacedData) (es : List ElementData) : Type 0 where
  pub same : elements ps ≡ es
  pub short : AreShort es

definite : (e : ElementData) → IsIdentifier e.identifier → IsShort e → IsDefinite e (encoding e)
definite e identified short = (length_octets (length e.content), identified, length-said (length e.content), refl)

element : (depth : ℕ) (e : ElementData) (bytes : List ℕ) → IsDefinite e bytes → IsElement depth e bytes
element zero e bytes is = is
element (suc depth) e bytes is = inl is

-- contents, and what follows them, are no longer than all is
parts_short : (identifier lengths content rest : List ℕ)
    → length ((identifier ++ (lengths ++ content)) ++ rest) < 4294967296
    → (length content < 4294967296) × (length rest < 4294967296)
parts_short identifier lengths content rest short =
    let all = simp length-append at short in
    (omega arith, omega arith)

-- no element's contents are longer than the encodings are
all_short : (es : List ElementData) → length (encodings es) < 4294967296 → AreShort es
unfolding encodings
all_short [] short = tt
all_short (e ∷ es) short =
    let parts = parts_short e.identifier (length_octets (length e.content)) e.content (encodings es) short in
    (parts.0, all_short es parts.1)

series : (depth : ℕ) (es : List ElementData) → AreIdentified es → AreShort es → IsSeries depth es (encodings es)
unfolding encodings
series depth [] identified short = refl
series depth (e ∷ es) identified short = (
  encoding e,
  encodings es,
  element depth e (encoding e) (definite e identified.0 short.0),
  series depth es identified.1 short.1,
  refl,
)

-- the contents of an element of these parts are read as the parts
pub parts_read : (octet : ℕ) (parts : List ElementData) (place end : ℕ) → AreIdentified parts
    → IsShort (parent octet parts)
    → (ps : List PlacedData) × (elements_in (contents (at (parent octet parts) place end)) ≡ Ok ps) × AreRead ps parts
parts_read octet parts place end identified short =
    let all = all_short parts short in
    let octets : OctetsData = contents (at (parent octet parts) place end) in
    let read = series_read max_depth octets parts (series max_depth parts identified all) in
    (read.0, ap or_malformed read.1, record { same = read.2; short = all })

-- The elements of a tag, where they were read.

-- the tag of an element is that of this identifier octet
abbrev pub has_tag : ℕ → ElementData → Bool
has_tag octet e = eqb (length e.identifier) 1 && same_tag (slice_index e.identifier 0) octet

-- the elements of a tag
abbrev pub of_tag : ℕ → List ElementData → List ElementData
of_tag octet es = filter (has_tag octet) es

same_filter : (octet : ℕ) (ps : List PlacedData) → elements (filter (is_tagged octet) ps) ≡ of_tag octet (elements ps)
same_filter octet [] = refl
same_filter octet (p ∷ ps) = one (is_tagged octet p) p ps (same_filter octet ps)
  where
    one : (test : Bool) (p : PlacedData) (ps : List PlacedData)
        → elements (filter (is_tagged octet) ps) ≡ of_tag octet (elements ps)
        → elements (cond test (p ∷ filter (is_tagged octet) ps) (filter (is_tagged octet) ps))
        ≡ cond test (p.element ∷ of_tag octet (elements ps)) (of_tag octet (elements ps))
    one true p ps same = ap (λ more. p.element ∷ more) same
    one false p ps same = same

short_filter : (octet : ℕ) (es : List ElementData) → AreShort es → AreShort (of_tag octet es)
short_filter octet [] short = tt
short_filter octet (e ∷ es) short = one (has_tag octet e) e (of_tag octet es) short.0 (short_filter octet es short.1)
  where
    one : (test : Bool) (e : ElementData) (es : List ElementData) → IsShort e → AreShort es
        → AreShort (cond test (e ∷ es) es)
    one true e es first more = (first, more)
    one false e es first more = more

-- the elements of a tag, where they were read
pub tagged_read : (octet : ℕ) (ps : List PlacedData) (es : List ElementData) → AreRead ps es
    → AreRead (filter (is_tagged octet) ps) (of_tag octet es)
tagged_read octet ps es read = record {
  same = same_filter octet ps ∙ ap (of_tag octet) read.same;
  short = short_filter octet es read.short;
}

-- no field has the tag
pub field_none : (octet : ℕ) (ps : List PlacedData) → AreRead ps [] → only_field octet ps ≡ Ok None
field_none octet [] read = refl
field_none octet (p ∷ ps) read = let same = read.same in absurd cc

-- a field has the identifier octet that is looked for
one_field : (octet : ℕ) (p : PlacedData) → p.element.identifier ≡ octet ∷ [] → only_field octet (p ∷ []) ≡ Ok (Some p)
one_field octet p is = let same : eqb octet octet ≡ true = eq-eqb _ _ refl in rw (is, same) refl

-- one field has the tag
pub field_one : (octet : ℕ) (e : ElementData) (ps : List PlacedData) → e.identifier ≡ octet ∷ []
    → AreRead ps (e ∷ [])
    → (place end : ℕ) × (only_field octet ps ≡ Ok (Some (at e place end)))
field_one octet e [] is read = let same = read.same in absurd cc
field_one octet e (p ∷ []) is read =
    let same = read.same in
    let it : p.element ≡ e = cc in
    let here : p ≡ at e p.place p.end = ap (λ (element : ElementData). at element p.place p.end) it in
    (p.place, p.end, ap (λ (p : PlacedData). only_field octet (p ∷ [])) here ∙ one_field octet (at e p.place p.end) is)
field_one octet e (p ∷ q ∷ ps) is read = let same = read.same in absurd cc

-- A field of an encoded element is found by its identifier octet.

-- a field is found, if none but it has its tag
pub field_there : (octet : ℕ) (ps : List PlacedData) (es : List ElementData) (e : ElementData)
    → e.identifier ≡ octet ∷ [] → AreRead ps es → of_tag octet es ≡ e ∷ []
    → (place end : ℕ) × (field_of octet ps ≡ Ok (Some (at e place end))) × IsShort e
unfolding field_of
field_there octet ps es e is read found =
    let own = subst (AreRead (filter (is_tagged octet) ps)) found (tagged_read octet ps es read) in
    let one = field_one octet e (filter (is_tagged octet) ps) is own in
    (one.0, one.1, one.2, own.short.0)

-- no field is found, if none has the tag
pub field_absent : (octet : ℕ) (ps : List PlacedData) (es : List ElementData) → AreRead ps es → of_tag octet es ≡ []
    → field_of octet ps ≡ Ok None
unfolding field_of
field_absent octet ps es read found =
    field_none octet _ (subst (AreRead (filter (is_tagged octet) ps)) found (tagged_read octet ps es read))

module _ {A : Type 0} (value_of : PlacedData → Result A MapFault) (octet : ℕ) (ps : List PlacedData)
    (es : List ElementData) where
  -- a field that must be there is read as what it encodes
  pub mandatory_read : (item : PlacedData) (e : ElementData) (x : A) → e.identifier ≡ octet ∷ [] → AreRead ps es
      → of_tag octet es ≡ e ∷ [] → Decodes value_of e x → (mandatory item octet ps >>= value_of) ≡ Ok x
  unfolding mandatory
  mandatory_read item e x is read found decodes =
      let field = field_there octet ps es e is read found in
      rw field.2 (decodes field.3 field.0 field.1)

  -- a field that may be absent is read as what comes of what it encodes
  pub came_read : {S : Type 0} (element_of : S → ElementData) (came : S → A) (o : Option S)
      → ((x : S) → (element_of x).identifier ≡ octet ∷ []) → AreRead ps es
      → of_tag octet es ≡ if_any element_of o → IfSome o (λ x. Decodes value_of (element_of x) (came x))
      → (field_of octet ps >>= if_present value_of) ≡ Ok (option_map came o)
  came_read element_of came None is read found decodes =
      let none = field_absent octet ps es read found in rw none refl
  came_read element_of came (Some x) is read found decodes =
      let field = field_there octet ps es (element_of x) (is x) read found in
      let value : value_of (at (element_of x) field.0 field.1) ≡ Ok (came x) = decodes field.3 field.0 field.1 in
      rw (field.2, value) refl

  -- a field that may be absent is read as what it encodes
  pub optional_read : (element_of : A → ElementData) (o : Option A)
      → ((x : A) → (element_of x).identifier ≡ octet ∷ []) → AreRead ps es
      → of_tag octet es ≡ if_any element_of o → IfSome o (λ x. Decodes value_of (element_of x) x)
      → (field_of octet ps >>= if_present value_of) ≡ Ok o
  optional_read element_of o is read found decodes =
      came_read element_of (λ x. x) o is read found decodes ∙ ap Ok (option_map_id o)

-- The first of the elements that were read.

-- the first part is read where it is
pub first_read : (item : PlacedData) (ps : List PlacedData) (e : ElementData) (es : List ElementData)
    → AreRead ps (e ∷ es) → (place end : ℕ) × (first_of item ps ≡ Ok (at e place end)) × IsShort e
first_read item [] e es read = let same = read.same in absurd cc
first_read item (p ∷ ps) e es read =
    let same = read.same in
    let it : p.element ≡ e = cc in
    (p.place, p.end, ap (λ (element : ElementData). Ok (at element p.place p.end)) it, read.short.0)
