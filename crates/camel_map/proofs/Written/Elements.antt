-- Elements and digits that are written in front of octets.
use Rattle.std.proofs.Common.{◌≡◌, ◌∙◌, ℕ, suc, ◌-◌, ◌<◌, ◌≤◌, List, [], ◌∷◌, ◌++◌, length, map, drop, get_or, refl}
use Rattle.std.proofs.Common.{sym, ap, append_assoc, arith, drop-cons, zero, ◌+◌, ◌*◌, subst}
use Rattle.std.proofs.lemmas.List.{length-append, drop_all}
use Rattle.camel_ber.specs.Elements.{ElementData}
use Rattle.camel_map.specs.Encoding.{encoding, encodings, leaf, length_octets, before, tbcd_octets}

-- Elements that are written in front of octets.

pub before_append : (xs ys : List ElementData) (rest : List ℕ) → before (xs ++ ys) rest ≡ before xs (before ys rest)
before_append [] ys rest = refl
before_append (x ∷ xs) ys rest = ap (λ (more : List ℕ). encoding x ++ more) (before_append xs ys rest)

pub before_is : (es : List ElementData) (rest : List ℕ) → before es rest ≡ encodings es ++ rest
unfolding encodings
before_is [] rest = refl
before_is (e ∷ es) rest =
    ap (λ (more : List ℕ). encoding e ++ more) (before_is es rest)
    ∙ sym (append_assoc (encoding e) (encodings es) rest)

-- how many octets stand in front of the last ones
pub in_front : (content rest : List ℕ) (behind : ℕ) → behind ≡ length rest
    → length (content ++ rest) - behind ≡ length content
in_front content rest behind same = omega (arith, length-append content rest)

-- an identifier and a length in front of contents make an element of them
pub closed : (octet : ℕ) (content rest : List ℕ)
    → octet ∷ (length_octets (length content) ++ (content ++ rest)) ≡ before (leaf octet content ∷ []) rest
closed octet content rest =
    ap (λ (more : List ℕ). octet ∷ more) (sym (append_assoc (length_octets (length content)) content rest))

-- the elements of the items from a place on begin with that of the item there
pub item_written : {A : Type 0} (element_of : A → ElementData) (items : List A) (at next : ℕ) (item : A) (rest : List ℕ)
    → at < length items → item ≡ get_or items at item → next ≡ suc at
    → encoding (element_of item) ++ before (map element_of (drop next items)) rest
    ≡ before (map element_of (drop at items)) rest
item_written element_of items at next item rest within is after =
    let left = drop-cons items at item within in rw (after, left, ← is) refl

-- octets stand behind what is written in front of them
pub behind_before : (es : List ElementData) (rest : List ℕ) → length rest ≤ length (before es rest)
behind_before [] rest = omega arith
behind_before (e ∷ es) rest =
    let more = behind_before es rest in
    omega (arith, length-append (encoding e) (before es rest))

-- TBCD octets, as they are written from the last digit on.

-- two digits at a place
pub pair_written : (digits : List ℕ) (at next : ℕ) → next ≡ suc (suc at) → next ≤ length digits
    → tbcd_octets (drop at digits)
    ≡ (get_or digits (suc at) 0 * 16 + get_or digits at 0) ∷ tbcd_octets (drop next digits)
unfolding tbcd_octets
pair_written [] at next after within = absurd (omega arith)
pair_written (x ∷ []) at next after within = absurd (omega arith)
pair_written (x ∷ y ∷ more) zero next after within = rw after refl
pair_written (x ∷ y ∷ more) (suc at) next after within =
    rw after (pair_written (y ∷ more) at (suc (suc at)) refl (omega arith))

-- the last digit of an odd number of them
pub last_written : (digits : List ℕ) (at : ℕ) → length digits ≡ suc at
    → tbcd_octets (drop at digits) ≡ (240 + get_or digits at 0) ∷ []
unfolding tbcd_octets
last_written [] at all = absurd (omega arith)
last_written (x ∷ []) zero all = refl
last_written (x ∷ y ∷ more) zero all = absurd (omega arith)
last_written (x ∷ more) (suc at) all = last_written more at (omega arith)

module _ (digits old : List ℕ) where
  -- no digit is written, and then the last one, and two more
  pub none_put : (at : ℕ) → length digits ≤ at → old ≡ tbcd_octets (drop at digits) ++ old
  unfolding tbcd_octets
  none_put at all = rw (drop_all at digits all) refl

  pub last_put : (at : ℕ) (new : List ℕ) → length digits ≡ suc at → new ≡ (240 + get_or digits at 0) ∷ old
      → new ≡ tbcd_octets (drop at digits) ++ old
  last_put at new all put = rw (last_written digits at all) put

  pub pair_put : (at second next : ℕ) (written new : List ℕ) → second ≡ suc at → next ≡ suc second
      → next ≤ length digits → written ≡ tbcd_octets (drop next digits) ++ old
      → new ≡ (get_or digits second 0 * 16 + get_or digits at 0) ∷ written
      → new ≡ tbcd_octets (drop at digits) ++ old
  pair_put at second next written new one two within so_far put =
      let pair = subst (λ (place : ℕ). new ≡ (get_or digits place 0 * 16 + get_or digits at 0) ∷ written) one put in
      rw (pair_written digits at next (two ∙ ap suc one) within)
      (pair ∙ ap (λ (more : List ℕ). (get_or digits (suc at) 0 * 16 + get_or digits at 0) ∷ more) so_far)
