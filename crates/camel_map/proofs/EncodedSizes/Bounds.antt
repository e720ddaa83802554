-- How long the encodings of elements and of lists of them are at most.
use Rattle.std.proofs.Common.{ℕ, ◌+◌, ◌≤◌, List, [], ◌∷◌, ◌++◌, length, arith, ◌≡◌, suc, ◌*◌, map, All, IfSome, Option}
use Rattle.std.proofs.Common.{Some, None, refl, sym, ap, subst, ◌∙◌, append_assoc, le_trans, suc-mul}
use Rattle.std.proofs.lemmas.List.{length-append}
use Rattle.std.proofs.lemmas.List.Elements.{All-head, All-tail}
use Rattle.camel_ber.specs.Elements.{ElementData}
use Rattle.camel_map.specs.Encoding.{encoding, encodings, leaf, length_octets, number_octets, parent, if_any, if_some}
use Rattle.camel_map.proofs.Encoded.Series.{chosen, octets-stand}

-- How long the encodings of single elements are at most.

-- an element takes at most so many octets
abbrev pub IsMost : ℕ → ElementData → Type 0
IsMost most e = length (encoding e) ≤ most

-- elements take at most so many octets
abbrev pub AreMost : ℕ → List ElementData → Type 0
AreMost most es = length (encodings es) ≤ most

lengths_most : (n : ℕ) → length (length_octets n) ≤ 5
lengths_most n =
    let few = (octets-stand n).few in
    chosen (λ (octets : List ℕ). length octets ≤ 5) n 128 _ _ (λ below. omega arith) (λ above. omega arith)

together : (octet : ℕ) (lengths content : List ℕ) (most : ℕ) → length lengths ≤ 5 → length content ≤ most
    → length (octet ∷ (lengths ++ content)) ≤ most + 6
together octet lengths content most some few = omega (arith, length-append lengths content)

-- an element has an identifier octet, and at most five length octets
pub leaf_most : (octet : ℕ) (content : List ℕ) (most : ℕ) → length content ≤ most
    → IsMost (most + 6) (leaf octet content)
leaf_most octet content most few =
    together octet (length_octets (length content)) content most (lengths_most (length content)) few

-- an octet
pub octet_most : (octet value : ℕ) → IsMost 7 (leaf octet (value ∷ []))
octet_most octet value = leaf_most octet (value ∷ []) 1 (omega arith)

-- a number takes at most four octets
pub number_most : (octet n : ℕ) → IsMost 10 (leaf octet (number_octets n))
number_most octet n =
    let Few : List ℕ → Type 0 = λ octets. length octets ≤ 4 in
    leaf_most octet (number_octets n) 4 (chosen Few n 128 _ _ (λ below. omega arith)
    (λ over_one. chosen Few n 32768 _ _ (λ below. omega arith)
    (λ over_two. chosen Few n 8388608 _ _ (λ below. omega arith) (λ over_three. omega arith))))

-- an element of parts
pub parent_most : (octet : ℕ) (parts : List ElementData) (most : ℕ) → AreMost most parts
    → IsMost (most + 6) (parent octet parts)
parent_most octet parts most few = leaf_most octet (encodings parts) most few

-- no elements, and one more
pub none_most : AreMost 0 []
unfolding encodings
none_most = omega arith

pub both : (xs ys : List ℕ) (first more : ℕ) → length xs ≤ first → length ys ≤ more → length (xs ++ ys) ≤ first + more
both xs ys first more few_xs few_ys = omega (arith, length-append xs ys)

pub more_most : (e : ElementData) (es : List ElementData) (first more : ℕ) → IsMost first e → AreMost more es
    → AreMost (first + more) (e ∷ es)
unfolding encodings
more_most e es first more few rest = both (encoding e) (encodings es) first more few rest

-- How long the encodings of lists of elements are at most.

encodings_append : (xs ys : List ElementData) → encodings (xs ++ ys) ≡ encodings xs ++ encodings ys
unfolding encodings
encodings_append [] ys = refl
encodings_append (x ∷ xs) ys =
    ap (λ (more : List ℕ). encoding x ++ more) (encodings_append xs ys)
    ∙ sym (append_assoc (encoding x) (encodings xs) (encodings ys))

-- elements behind others
pub append_most : (xs ys : List ElementData) (first more : ℕ) → AreMost first xs → AreMost more ys
    → AreMost (first + more) (xs ++ ys)
append_most xs ys first more few_xs few_ys =
    subst (λ (bytes : List ℕ). length bytes ≤ first + more) (sym (encodings_append xs ys))
    (both (encodings xs) (encodings ys) first more few_xs few_ys)

-- elements that take few octets take no more than many
pub within : (es : List ElementData) (few many : ℕ) → AreMost few es → few ≤ many → AreMost many es
within es few many is less = le_trans is less

one_more : (count most : ℕ) → most + count * most ≤ suc count * most
one_more count most = rw suc-mul (omega arith)

module _ {A : Type 0} (element_of : A → ElementData) (most : ℕ) where
  -- a field that may be absent
  pub any_most : (o : Option A) → IfSome o (λ x. IsMost most (element_of x)) → AreMost most (if_any element_of o)
  any_most None few = within [] 0 most none_most (omega arith)
  any_most (Some x) few =
      within (element_of x ∷ []) (most + 0) most (more_most (element_of x) [] most 0 few none_most) (omega arith)

  -- an element of each value
  pub map_most : (xs : List A) → All (λ x. IsMost most (element_of x)) xs
      → AreMost (length xs * most) (map element_of xs)
  map_most [] few = within [] 0 (0 * most) none_most (omega arith)
  map_most (x ∷ xs) few =
      let first = All-head (λ x. IsMost most (element_of x)) x xs few in
      let rest = map_most xs (All-tail (λ x. IsMost most (element_of x)) x xs few) in
      within (map element_of (x ∷ xs)) (most + length xs * most) (suc (length xs) * most)
      (more_most (element_of x) (map element_of xs) most (length xs * most) first rest) (one_more (length xs) most)

  -- a list that is absent if it has no items
  pub some_most : (octet : ℕ) (xs : List A) → All (λ x. IsMost most (element_of x)) xs
      → AreMost (length xs * most + 6) (if_some octet element_of xs)
  some_most octet [] few = within [] 0 (0 * most + 6) none_most (omega arith)
  some_most octet (x ∷ xs) few =
      let all = parent_most octet (map element_of (x ∷ xs)) (length (x ∷ xs) * most) (map_most (x ∷ xs) few) in
      within (parent octet (map element_of (x ∷ xs)) ∷ []) (length (x ∷ xs) * most + 6 + 0) (length (x ∷ xs) * most + 6)
      (more_most (parent octet (map element_of (x ∷ xs))) [] (length (x ∷ xs) * most + 6) 0 all none_most) (omega arith)
