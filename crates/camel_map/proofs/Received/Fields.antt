-- The fields of a tag, as a loop finds them.
use Rattle.std.proofs.Common.{◌≡◌, ◌∙◌, ℕ, ◌+◌, ◌≤◌, true, List, [], ◌∷◌, ◌++◌, length, drop, filter, Option, Some}
use Rattle.std.proofs.Common.{None, is_some, Result, Ok, Err, inl, inr, refl, sym, ap}
use Rattle.std.proofs.lemmas.List.{append-nil, drop_all}
use Rattle.camel_ber.specs.Elements.{◌>>=◌, PlacedData, view, views}
use Rattle.camel_ber.specs.declared.element.Element.{Element}
use Rattle.camel_map.specs.Reading.{is_tagged, field_of, only_field, IsMemory, fails_at}
use Rattle.camel_reading.specs.Reading.{ReadsAs}
use Rattle.camel_map.specs.declared.map_fault.MapFault.{MapFault}
use Rattle.camel_map.specs.declared.map_fault.MapFaultKind.TheVariants.{FieldTwice}

-- the field that was found, or none
abbrev pub found_so_far : Option Element → List PlacedData
found_so_far None = []
found_so_far (Some field) = view field ∷ []

-- the fields of the tag, at a place whose field has it
here-tagged : (octet : ℕ) (fields : List Element) (at : ℕ) (field : Element)
    → drop at fields ≡ field ∷ drop (at + 1) fields → is_tagged octet (view field) ≡ true
    → filter (is_tagged octet) (views (drop at fields))
    ≡ view field ∷ filter (is_tagged octet) (views (drop (at + 1) fields))
here-tagged octet fields at field here tagged = rw (here, tagged) refl

-- one more of the tag is there twice
pub twice : (octet : ℕ) (fields : List Element) (at : ℕ) (found : Option Element) (field : Element)
    → drop at fields ≡ field ∷ drop (at + 1) fields → is_tagged octet (view field) ≡ true
    → is_some found ≡ true
    → found_so_far found ++ filter (is_tagged octet) (views (drop at fields)) ≡ filter (is_tagged octet) (views fields)
    → field_of octet (views fields) ≡ fails_at field.place FieldTwice
unfolding field_of
twice octet fields at None field here tagged some so_far = absurd cc
twice octet fields at (Some first) field here tagged some so_far =
    ap (only_field octet) (sym so_far ∙ ap (λ left. view first ∷ left) (here-tagged octet fields at field here tagged))

-- the fields of the tag, if none are left
pub all_found : (octet : ℕ) (fields : List Element) (at : ℕ) (found : Option Element) → length fields ≤ at
    → found_so_far found ++ filter (is_tagged octet) (views (drop at fields)) ≡ filter (is_tagged octet) (views fields)
    → field_of octet (views fields) ≡ only_field octet (found_so_far found)
unfolding field_of
all_found octet fields at found le so_far =
    let none : filter (is_tagged octet) (views (drop at fields)) ≡ [] = rw (drop_all at fields le) refl in
    ap (only_field octet) (sym so_far ∙ ap (λ left. found_so_far found ++ left) none ∙ append-nil (found_so_far found))

-- a field that is there is read as its element is
pub present : {A : Type 0} (result reading : Result A MapFault) → ReadsAs IsMemory result reading
    → ReadsAs IsMemory (result >>= λ value. Ok (Some value)) (reading >>= λ value. Ok (Some value))
present (Ok value) reading is = rw is refl
present (Err fault) reading (inl memory) = inl memory
present (Err fault) reading (inr is) = inr (rw is refl)
