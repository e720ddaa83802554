-- The values of a list of items, as a loop reads them.
use Rattle.std.proofs.Common.{◌≡◌, ◌∙◌, ◌⊎◌, ℕ, suc, ◌+◌, ◌<◌, List, [], ◌∷◌, ◌++◌, length, drop, get_or, map}
use Rattle.std.proofs.Common.{Result, Ok, Err, inl, inr, refl, sym, ap, add-one, drop-cons}
use Rattle.std.proofs.lemmas.List.{append-nil, append_assoc}
use Rattle.camel_reading.specs.Reading.{◌>>=◌, each_of}

-- values, and behind them those that are left
abbrev pub behind : {A F : Type 0} → List A → Result (List A) F → Result (List A) F
behind values left = left >>= λ rest. Ok (values ++ rest)

-- the items from a place on begin with the one there
pub drop-item : {S : Type 0} (items : List S) (at : ℕ) (item : S)
    → at < length items → item ≡ get_or items at item → drop at items ≡ item ∷ drop (at + 1) items
drop-item items at item lt is =
    rw add-one (drop-cons items at item lt ∙ ap (λ (first : _). first ∷ drop (suc at) items) (sym is))

-- a value in front of those that are left is one more behind the others
behind-more : {A F : Type 0} (values : List A) (value : A) (left : Result (List A) F)
    → behind values (left >>= λ rest. Ok (value ∷ rest)) ≡ behind (values ++ value ∷ []) left
behind-more values value (Ok rest) = ap Ok (sym (append_assoc values (value ∷ []) rest))
behind-more values value (Err fault) = refl

-- the values so far, and what those that are left make in all
module _ {A S F : Type 0} (value_of : S → Result A F) {left : List S} (values : List A) (total : Result (List A) F)
    (so_far : behind values (each_of value_of left) ≡ total) where
  pub goes_on : {item : S} {more : List S} {value : A} → left ≡ item ∷ more → value_of item ≡ Ok value
      → behind (values ++ value ∷ []) (each_of value_of more) ≡ total
  unfolding each_of
  goes_on {item} {more} {value} here is =
      sym (behind-more values value (each_of value_of more)) ∙ rw (here, is) at so_far

  -- also if memory is refused
  pub fails_at : {item : S} {more : List S} {fault : F} {Memory : Type 0} → left ≡ item ∷ more
      → Memory ⊎ (value_of item ≡ Err fault) → Memory ⊎ (total ≡ Err fault)
  unfolding each_of
  fails_at here (inl memory) = inl memory
  fails_at here (inr fails) = inr (sym (rw (here, fails) at so_far))

  pub is_done : left ≡ [] → total ≡ Ok values
  unfolding each_of
  is_done none = sym (rw none at so_far) ∙ ap Ok (append-nil values)

-- items that have no faults are read as their values
pub each_of-map : {A S F : Type 0} (value_of : S → A) (items : List S)
    → each_of {F = F} (λ item. Ok (value_of item)) items ≡ Ok (map value_of items)
unfolding each_of
each_of-map value_of [] = refl
each_of-map {F = F} value_of (item ∷ more) = rw (each_of-map {F = F} value_of more) refl

-- items that are seen as others are read as those
pub each_of-seen : {A S V F : Type 0} (value_of : V → Result A F) (view : S → V) (items : List S)
    → each_of (λ item. value_of (view item)) items ≡ each_of value_of (map view items)
unfolding each_of
each_of-seen value_of view [] = refl
each_of-seen value_of view (item ∷ more) =
    ap (λ rest. value_of (view item) >>= λ value. rest >>= λ values. Ok (value ∷ values)) (each_of-seen value_of view more)
