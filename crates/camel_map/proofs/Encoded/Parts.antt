-- The parts of an encoding, each of one identifier octet, and those of a withdrawal.
use Rattle.std.proofs.Common.{◌≡◌, ◌∙◌, ℕ, Bool, true, false, cond, eqb, List, [], ◌∷◌, ◌++◌, ◌%◌, filter, Option, Some}
use Rattle.std.proofs.Common.{None, refl, sym, ap, subst, Ok}
use Rattle.std.proofs.lemmas.List.{append-nil}
use Rattle.std.proofs.lemmas.List.Elements.{filter-append}
use Rattle.camel_ber.specs.Elements.{ElementData, IsIdentifier, ◌>>=◌, PlacedData}
use Rattle.camel_map.specs.Encoding.{if_any, if_some, everything_parts, leaf, specific_parts}
use Rattle.camel_map.specs.Reading.{same_tag, field_of, primitive}
use Rattle.camel_map.proofs.Encoded.Series.{AreIdentified, one_octet, has_tag, of_tag, field_absent, field_there}
use Rattle.camel_map.proofs.Encoded.Series.{AreRead}
use Rattle.camel_map.specs.Update.{is_named, withdrawal_in, withdrawal_with}

-- The parts of an encoding, each of one identifier octet, and the elements of a tag among them.

-- elements of one identifier octet
abbrev pub AreOf : ℕ → List ElementData → Type 0
AreOf octet [] = Unit {0}
AreOf octet (e ∷ es) = (e.identifier ≡ octet ∷ []) × AreOf octet es

pub record Part : Type 0 where
  pub octet : ℕ
  pub elements : List ElementData
  pub are : AreOf octet elements
  pub identifier : IsIdentifier (octet ∷ [])

-- elements, and parts behind them
abbrev pub joined : List ElementData → List Part → List ElementData
joined front [] = front
joined front (part ∷ parts) = joined (front ++ part.elements) parts

-- the parts of a tag
abbrev pub parts_of : ℕ → List Part → List Part
parts_of octet parts = filter (λ (part : Part). same_tag part.octet octet) parts

-- the elements of one identifier octet are all of a tag, or none is
tagged : (octet own : ℕ) (test : Bool) (es : List ElementData) → same_tag own octet ≡ test → AreOf own es
    → of_tag octet es ≡ cond test es []
tagged octet own true [] is are = refl
tagged octet own false [] is are = refl
tagged octet own true (e ∷ es) is are = let more = tagged octet own true es is are.1 in rw (are.0, is, more) refl
tagged octet own false (e ∷ es) is are = let more = tagged octet own false es is are.1 in rw (are.0, is, more) refl

one_more : (octet : ℕ) (test : Bool) (front : List ElementData) (part : Part) (parts : List Part)
    → same_tag part.octet octet ≡ test → of_tag octet (joined (front ++ part.elements) parts)
    ≡ joined (of_tag octet (front ++ part.elements)) (parts_of octet parts)
    → of_tag octet (joined (front ++ part.elements) parts)
    ≡ joined (of_tag octet front) (cond test (part ∷ parts_of octet parts) (parts_of octet parts))
one_more octet test front part parts is all =
    all ∙ ap (λ (front : List ElementData). joined front (parts_of octet parts))
    (filter-append (has_tag octet) front part.elements
    ∙ ap (λ (own : List ElementData). of_tag octet front ++ own) (tagged octet part.octet test part.elements is part.are))
    ∙ by_test test
  where
    by_test : (test : Bool) → joined (of_tag octet front ++ cond test part.elements []) (parts_of octet parts)
        ≡ joined (of_tag octet front) (cond test (part ∷ parts_of octet parts) (parts_of octet parts))
    by_test true = refl
    by_test false = ap (λ (front : List ElementData). joined front (parts_of octet parts)) (append-nil (of_tag octet front))

-- the elements of a tag are those of its parts
pub found : (octet : ℕ) (front : List ElementData) (parts : List Part)
    → of_tag octet (joined front parts) ≡ joined (of_tag octet front) (parts_of octet parts)
found octet front [] = refl
found octet front (part ∷ parts) =
    one_more octet (same_tag part.octet octet) front part parts refl (found octet (front ++ part.elements) parts)

identified_part : (octet : ℕ) (front es : List ElementData) → AreIdentified front → AreOf octet es
    → IsIdentifier (octet ∷ []) → AreIdentified (front ++ es)
identified_part octet [] [] before are is = tt
identified_part octet [] (e ∷ es) before are is =
    (subst IsIdentifier (sym are.0) is, identified_part octet [] es tt are.1 is)
identified_part octet (e ∷ front) es before are is = (before.0, identified_part octet front es before.1 are is)

-- the elements of parts have identifiers
pub identified : (front : List ElementData) (parts : List Part) → AreIdentified front → AreIdentified (joined front parts)
identified front [] is = is
identified front (part ∷ parts) is =
    identified (front ++ part.elements) parts (identified_part part.octet front part.elements is part.are part.identifier)

-- an octet that is an identifier
abbrev pub Identifies : ℕ → Type 0
Identifies octet = (eqb octet 0 ≡ false) × (eqb (octet % 32) 31 ≡ false)

module _ {A : Type 0} (octet : ℕ) (element_of : A → ElementData) where
  pub any_are : (o : Option A) → ((x : A) → (element_of x).identifier ≡ octet ∷ []) → AreOf octet (if_any element_of o)
  any_are None own = tt
  any_are (Some x) own = (own x, tt)

  pub some_are : (xs : List A) → AreOf octet (if_some octet element_of xs)
  some_are [] = tt
  some_are (x ∷ xs) = (refl, tt)

  -- a field that may be absent
  abbrev pub any_part : (o : Option A) → ((x : A) → (element_of x).identifier ≡ octet ∷ []) → Identifies octet → Part
  any_part o own is =
      record { octet = octet; elements = if_any element_of o; are = any_are o own; identifier = one_octet octet is }

  -- a list that is absent if it has no items
  abbrev pub some_part : (xs : List A) → Identifies octet → Part
  some_part xs is =
      record { octet = octet; elements = if_some octet element_of xs; are = some_are xs; identifier = one_octet octet is }

-- What an encoded DeleteSubscriberDataArg names is read.

-- the camelSubscriptionInfoWithdraw and the specificCSI-Withdraw have their identifier octets
pub everything_are : (everything : Bool) → AreOf (primitive 9) (everything_parts everything)
everything_are false = tt
everything_are true = (refl, tt)

pub specific_are : (o vt : Bool) → AreOf (primitive 15) (specific_parts o vt)
specific_are false false = tt
specific_are true false = (refl, tt)
specific_are false true = (refl, tt)
specific_are true true = (refl, tt)

module _ (fields : List PlacedData) (es : List ElementData) (read : AreRead fields es) where
  -- everything is named, or not
  pub everything_read : (everything : Bool) → of_tag (primitive 9) es ≡ everything_parts everything
      → (field_of (primitive 9) fields >>= is_named) ≡ Ok everything
  everything_read false found = let absent = field_absent (primitive 9) fields es read found in rw absent refl
  everything_read true found =
      let field = field_there (primitive 9) fields es (leaf (primitive 9) []) refl read found in
      rw field.2 refl

  -- the CSIs that are named
  pub specific_read : (everything o vt : Bool) → of_tag (primitive 15) es ≡ specific_parts o vt
      → (field_of (primitive 15) fields >>= withdrawal_with everything)
      ≡ Ok (record { o = o; vt = vt; everything = everything })
  unfolding withdrawal_in
  specific_read everything false false found =
      let absent = field_absent (primitive 15) fields es read found in rw absent refl
  specific_read everything true false found =
      let field = field_there (primitive 15) fields es (leaf (primitive 15) (0 ∷ 0x80 ∷ [])) refl read found in
      rw field.2 refl
  specific_read everything false true found =
      let field = field_there (primitive 15) fields es (leaf (primitive 15) (0 ∷ 0x08 ∷ [])) refl read found in
      rw field.2 refl
  specific_read everything true true found =
      let field = field_there (primitive 15) fields es (leaf (primitive 15) (0 ∷ 0x88 ∷ [])) refl read found in
      rw field.2 refl
