-- Where the digits of an address are among its nibbles, and what numbers say of the first of these.
use Rattle.std.proofs.Common.{◌≡◌, ◌≤◌, ◌<◌, ℕ, zero, suc, ◌+◌, ◌-◌, ◌*◌, ◌/◌, ◌%◌, ◌==◌, false, true, ◌↔◌, IsTrue}
use Rattle.std.proofs.Common.{List, [], ◌∷◌, ◌++◌, length, take, drop, get_or, slice_index, min, nat_eq, refl, sym, ap}
use Rattle.std.proofs.Common.{◌∙◌, arith, below_more, replicate, ⊎_elim, ◌^◌, All, ap₂}
use Rattle.std.proofs.lemmas.Bool.{eq-eqb, ne_eqb, cases_lt, eqb-false, eqb-true}
use Rattle.std.proofs.lemmas.Grind.{get_or_after_one}
use Rattle.std.proofs.lemmas.List.{get_or-take, length-drop, length-take, length-take-le, take-append-drop}
use Rattle.std.proofs.lemmas.List.{get_or-append-add, get_or_append_left, take-append-le, take-take, length-append}
use Rattle.std.proofs.lemmas.List.{length-replicate}
use Rattle.std.proofs.lemmas.List.Sums.{position_or_len_is, fails_before_first, passes_at_first}
use Rattle.std.proofs.Math.ListN.{length-set, set}
use Rattle.std.proofs.Math.Seq.{take-append_seam, take-suc, take-suc-set}
use Rattle.std.specs.Cmp.Lexicographic.{bytes_decides}
use Rattle.std.specs.List.{position_or_len, starts_with}
use mathlib.Core.List.{IsPrefix}
use Rattle.std.proofs.Math.Nat.{mul_left_comm, one-le-pow, pow-succ'}
use Rattle.std.proofs.lemmas.List.Elements.{All-cons, All-head, All-nil, All-tail, All-append, All-drop, All-replicate}
use Rattle.std.proofs.lemmas.List.Elements.{All-take}
use Rattle.std.proofs.lemmas.Nat.{div-add-mod', mod-mul-add, mod_below}
use Rattle.camel_tbcd.specs.AddressString.{digits, nibbles, first_nibbles, packed, packed_digits}

-- Where the nibbles of octets are.

pub length-nibbles : (octets : List ℕ) → length (nibbles octets) ≡ 2 * length octets
length-nibbles [] = refl
length-nibbles (octet ∷ octets) = omega (arith, length-nibbles octets)

-- an even place holds a low nibble
low_nibble : (octets : List ℕ) (i at : ℕ) → at ≡ i + i → i < length octets → get_or (nibbles octets) at 0 ≡ get_or octets i 0 % 16
low_nibble [] i at even within = absurd (omega arith)
low_nibble (octet ∷ octets) zero at even within = let first : at ≡ 0 = omega arith in rw first refl
low_nibble (octet ∷ octets) (suc i) at even within =
    let later : at ≡ suc (suc (i + i)) = omega arith in
    rw later (low_nibble octets i (i + i) refl (omega arith))

-- an odd place holds a high nibble
high_nibble : (octets : List ℕ) (i at : ℕ) → at ≡ i + i + 1 → i < length octets → get_or (nibbles octets) at 0 ≡ get_or octets i 0 / 16
high_nibble [] i at odd within = absurd (omega arith)
high_nibble (octet ∷ octets) zero at odd within = let first : at ≡ 1 = omega arith in rw first refl
high_nibble (octet ∷ octets) (suc i) at odd within =
    let later : at ≡ suc (suc (i + i + 1)) = omega arith in
    rw later (high_nibble octets i (i + i + 1) refl (omega arith))

pub length-nibbles-drop : (octets : List ℕ) → length (nibbles (drop 1 octets)) ≡ 2 * (length octets - 1)
length-nibbles-drop octets = length-nibbles (drop 1 octets) ∙ ap (λ n. 2 * n) (length-drop 1 octets)

-- no nibble of so many is the filler
abbrev NoFiller : List ℕ → ℕ → Type 0
NoFiller octets count = (k : ℕ) → k < count → (slice_index (nibbles (drop 1 octets)) k == 15) ≡ false

-- the first filler ends the digits
pub length-digits : (octets : List ℕ) (at : ℕ) → at ≤ length (nibbles (drop 1 octets)) → NoFiller octets at
    → (at < length (nibbles (drop 1 octets)) → (slice_index (nibbles (drop 1 octets)) at == 15) ≡ true) → at ≡ length (digits octets)
length-digits octets at within none here =
    let first = position_or_len_is (λ nibble. nibble == 15) (nibbles (drop 1 octets)) at 0 within none here in
    sym (length-take-le _ (nibbles (drop 1 octets)) (rw first within) ∙ first)

-- an octet holds two digits at most
pub length-digits-le : (octets : List ℕ) → length (digits octets) ≤ 2 * (length octets - 1)
length-digits-le octets =
    let all : List ℕ = nibbles (drop 1 octets) in
    let end : ℕ = position_or_len (λ nibble. nibble == 15) all in
    let room : length (take end all) ≡ min end (length all) = length-take end all in
    omega (arith, length-nibbles-drop octets)

-- the two nibbles of an octet after octet 1
module _ (octets : List ℕ) (at : ℕ) (within : at < length octets - 1) where
  pub low_after_one : (place : ℕ) → place ≡ at + at → get_or (nibbles (drop 1 octets)) place 0 ≡ get_or octets (1 + at) 0 % 16
  low_after_one place is = low_nibble (drop 1 octets) at place is (omega (arith, length-drop 1 octets)) ∙ ap (λ n. n % 16) (get_or_after_one octets at 0)

  pub high_after_one : (place : ℕ) → place ≡ at + at + 1 → get_or (nibbles (drop 1 octets)) place 0 ≡ get_or octets (1 + at) 0 / 16
  high_after_one place is = high_nibble (drop 1 octets) at place is (omega (arith, length-drop 1 octets)) ∙ ap (λ n. n / 16) (get_or_after_one octets at 0)

  -- one nibble more, the low one
  low_more : (get_or octets (1 + at) 0 % 16 ≡ 15 → ⊥) → NoFiller octets (2 * at) → NoFiller octets (2 * at + 1)
  low_more low so_far = below_more (λ (k : ℕ). (slice_index (nibbles (drop 1 octets)) k == 15) ≡ false) (2 * at) so_far
      (ne_eqb _ _ (λ is. low (sym (low_after_one (2 * at) (omega arith)) ∙ is)))

  -- both nibbles more
  pub octet_more : (get_or octets (1 + at) 0 % 16 ≡ 15 → ⊥) → (get_or octets (1 + at) 0 / 16 ≡ 15 → ⊥) → NoFiller octets (2 * at)
      → NoFiller octets (2 * (at + 1))
  octet_more low high so_far k below =
      below_more (λ (k : ℕ). (slice_index (nibbles (drop 1 octets)) k == 15) ≡ false) (2 * at + 1) (low_more low so_far)
      (ne_eqb _ _ (λ is. high (sym (high_after_one (2 * at + 1) (omega arith)) ∙ is))) k (omega arith)

  -- a low nibble that is the filler ends the digits
  pub low_filler : get_or octets (1 + at) 0 % 16 ≡ 15 → NoFiller octets (2 * at) → 2 * at ≡ length (digits octets)
  low_filler is none =
      length-digits octets (2 * at) (omega (arith, length-nibbles-drop octets)) none (λ _. eq-eqb _ _ (low_after_one (2 * at) (omega arith) ∙ is))

  -- a high nibble that is the filler ends the digits
  pub high_filler : (get_or octets (1 + at) 0 % 16 ≡ 15 → ⊥) → get_or octets (1 + at) 0 / 16 ≡ 15 → NoFiller octets (2 * at)
      → 2 * at + 1 ≡ length (digits octets)
  high_filler low is none =
      length-digits octets (2 * at + 1) (omega (arith, length-nibbles-drop octets)) (low_more low none)
      (λ _. eq-eqb _ _ (high_after_one (2 * at + 1) (omega arith) ∙ is))

-- a digit is the nibble at its place
pub get-digits : (octets : List ℕ) (at : ℕ) → at < length (digits octets) → get_or (digits octets) at 0 ≡ get_or (nibbles (drop 1 octets)) at 0
get-digits octets at within =
    let all : List ℕ = nibbles (drop 1 octets) in
    let n : ℕ = position_or_len (λ nibble. nibble == 15) all in
    let room : length (take n all) ≡ min n (length all) = length-take n all in
    get_or-take n all at 0 (omega arith)

-- the same fronts hold the same digits
pub same_in_fronts : (all front : List ℕ) (count k : ℕ) → take count all ≡ take count front → k < count → get_or all k 0 ≡ get_or front k 0
same_in_fronts all front count k same below = sym (get_or-take count all k 0 below) ∙ ap (λ digits. get_or digits k 0) same ∙ get_or-take count front k 0 below

-- std's test of a prefix tells mathlib's fact
pub starts_with-IsPrefix : (all front : List ℕ) → IsTrue (starts_with nat_eq all front) ↔ IsPrefix front all
starts_with-IsPrefix all front = (
  λ e. (drop (length front) all, ap (λ first. first ++ drop (length front) all) ((bytes_decides front _).0 e) ∙ take-append-drop (length front) all),
  λ is. (bytes_decides front (take (length front) all)).1 (sym (take-append_seam front is.0) ∙ ap (take (length front)) is.1),
)

nibbles-push : (octets : List ℕ) (octet : ℕ) → nibbles (octets ++ octet ∷ []) ≡ (nibbles octets ++ octet % 16 ∷ []) ++ octet / 16 ∷ []
nibbles-push [] octet = refl
nibbles-push (first ∷ octets) octet = ap (λ more. first % 16 ∷ first / 16 ∷ more) (nibbles-push octets octet)

take-two_sets : (room : List ℕ) (at low high : ℕ) → suc at < length room
    → take (suc (suc at)) (set (set room at low) (suc at) high) ≡ (take at room ++ low ∷ []) ++ high ∷ []
take-two_sets room at low high within =
    take-suc-set (set room at low) (suc at) high (rw (length-set room at low) within)
    ∙ ap (λ front. front ++ high ∷ []) (take-suc-set room at low (omega arith))

-- one octet more gives two nibbles more
pub take-nibbles : (room octets : List ℕ) (i at next end more : ℕ) → at ≡ 2 * i → next ≡ suc at → end ≡ suc next → more ≡ suc i
    → next < length room → i < length octets
    → take at room ≡ nibbles (take i octets) → take end (set (set room at (get_or octets i 0 % 16)) next (get_or octets i 0 / 16)) ≡ nibbles (take more octets)
take-nibbles room octets i at next end more at_is next_is end_is more_is fits within so_far =
    rw (end_is, more_is, next_is)
    (take-two_sets room at _ _ (omega arith) ∙ ap (λ front. (front ++ get_or octets i 0 % 16 ∷ []) ++ get_or octets i 0 / 16 ∷ []) so_far
    ∙ sym (nibbles-push (take i octets) (get_or octets i 0)) ∙ ap nibbles (sym (take-suc octets i 0 within)))

-- The first nibbles of an address, and its digits.

-- the first 16 digits are in octets 2 to 9
pub first_digits : (octets : List ℕ) (count : ℕ) → count ≤ length (digits octets) → count ≤ 16 → take count (first_nibbles octets) ≡ take count (digits octets)
unfolding first_nibbles
first_digits octets count within few =
    let all : List ℕ = nibbles (drop 1 octets) in
    let end : ℕ = position_or_len (λ nibble. nibble == 15) all in
    let room : length (take end all) ≡ min end (length all) = length-take end all in
    take-take count 16 (all ++ replicate 16 15) few ∙ take-append-le count all (replicate 16 15) (omega arith) ∙ sym (take-take count end all (omega arith))

-- a filler is behind the digits
pub filler_behind : (octets : List ℕ) → length (digits octets) < 16 → get_or (first_nibbles octets) (length (digits octets)) 0 ≡ 15
unfolding first_nibbles
filler_behind octets few =
    let all : List ℕ = nibbles (drop 1 octets) in
    let end : ℕ = position_or_len (λ nibble. nibble == 15) all in
    let room : length (take end all) ≡ min end (length all) = length-take end all in
    get_or-take 16 (all ++ replicate 16 15) (length (digits octets)) 0 few
    ∙ ⊎_elim
    (λ (before : end < length all). let at : length (digits octets) ≡ end = omega arith in
    ap (λ k. get_or (all ++ replicate 16 15) k 0) at ∙ get_or_append_left all (replicate 16 15) 0 end before
    ∙ eqb-true _ _ (passes_at_first (λ nibble. nibble == 15) all 0 before))
    (λ (behind : length all ≤ end). let at : length (digits octets) ≡ length all + 0 = omega arith in
    ap (λ k. get_or (all ++ replicate 16 15) k 0) at ∙ get_or-append-add all (replicate 16 15) 0 0)
    (cases_lt end (length all))

-- a digit is no filler
pub no_filler : (octets : List ℕ) (at : ℕ) → at < length (digits octets) → get_or (digits octets) at 0 ≡ 15 → ⊥
no_filler octets at within is =
    let all : List ℕ = nibbles (drop 1 octets) in
    let end : ℕ = position_or_len (λ nibble. nibble == 15) all in
    let room : length (take end all) ≡ min end (length all) = length-take end all in
    eqb-false _ _ (fails_before_first (λ nibble. nibble == 15) all at 0 (omega arith)) (sym (get-digits octets at within) ∙ is)

-- The number of nibbles.

-- a nibble is below 16
abbrev pub IsNibble : ℕ → Type 0
IsNibble nibble = nibble < 16

-- an octet is below 256
abbrev pub IsOctet : ℕ → Type 0
IsOctet octet = octet < 256

-- octets have nibbles
pub All-nibbles : (octets : List ℕ) → All IsOctet octets → All IsNibble (nibbles octets)
All-nibbles [] few = All-nil IsNibble
All-nibbles (octet ∷ octets) few =
    let small = All-head IsOctet octet octets few in
    let rest = All-nibbles octets (All-tail IsOctet octet octets few) in
    All-cons IsNibble (octet % 16) (octet / 16 ∷ nibbles octets) (omega arith) (All-cons IsNibble (octet / 16) (nibbles octets) (omega (arith, small)) rest)

-- the lowest digit of a number is its first nibble
low_digit : (nibble number most : ℕ) → nibble < 16 → 0 < most → (nibble + 16 * number) % (16 * most) ≡ nibble + 16 * (number % most)
low_digit nibble number most small some =
    let rest : number % most < most = mod_below number most some in
    let parts : number / most * most + number % most ≡ number = div-add-mod' number most in
    let turned : number / most * (16 * most) ≡ 16 * (number / most * most) = mul_left_comm (number / most) 16 most in
    let sum : nibble + 16 * number ≡ number / most * (16 * most) + (nibble + 16 * (number % most)) = omega arith in
    rw sum (mod-mul-add (number / most) (16 * most) (nibble + 16 * (number % most)) (omega arith))

-- the lowest digits of a number are those of the first nibbles
pub packed-mod : (all : List ℕ) (count : ℕ) → All IsNibble all → packed all % 16 ^ count ≡ packed (take count all)
packed-mod all zero few = omega arith
packed-mod [] (suc count) few = omega arith
packed-mod (nibble ∷ all) (suc count) few =
    let small = All-head IsNibble nibble all few in
    rw pow-succ' (low_digit nibble (packed all) (16 ^ count) small (one-le-pow count 16 (omega arith))
    ∙ ap (λ rest. nibble + 16 * rest) (packed-mod all count (All-tail IsNibble nibble all few)))

-- as many nibbles with the same number are the same
pub same_from_packed : (some others : List ℕ) → length some ≡ length others → All IsNibble some → All IsNibble others → packed some ≡ packed others
    → some ≡ others
same_from_packed [] [] counts few fewer same = refl
same_from_packed [] (other ∷ others) counts few fewer same = absurd (omega arith)
same_from_packed (one ∷ some) [] counts few fewer same = absurd (omega arith)
same_from_packed (one ∷ some) (other ∷ others) counts few fewer same =
    let small = All-head IsNibble one some few in
    let smaller = All-head IsNibble other others fewer in
    ap₂ (λ first rest. first ∷ rest) (omega (arith, small, smaller, same))
    (same_from_packed some others (omega arith) (All-tail IsNibble one some few) (All-tail IsNibble other others fewer) (omega (arith, small, smaller, same)))

-- When two addresses have the same first nibbles, by their numbers.

-- octets 2 to 9 hold 16 nibbles, or fillers
length-first : (octets : List ℕ) → length (first_nibbles octets) ≡ 16
unfolding first_nibbles
length-first octets = length-take-le 16 _ (omega (arith, length-append (nibbles (drop 1 octets)) (replicate 16 15), length-replicate {A = ℕ} 16 15))

pub first_small : (octets : List ℕ) → All IsOctet octets → All IsNibble (first_nibbles octets)
unfolding first_nibbles
first_small octets small =
    All-take IsNibble 16 _ (All-append IsNibble _ _ (All-nibbles _ (All-drop IsOctet 1 octets small)) (All-replicate IsNibble 16 15 (omega arith)))

-- the lowest digits of the numbers of two addresses are the same exactly if their first nibbles are
pub same_first : (all others : List ℕ) (count : ℕ) → All IsOctet all → All IsOctet others → count ≤ 16
    → (packed_digits all % 16 ^ count ≡ packed_digits others % 16 ^ count) ↔ (take count (first_nibbles all) ≡ take count (first_nibbles others))
same_first all others count small smaller few =
    let mine = packed-mod (first_nibbles all) count (first_small all small) in
    let theirs = packed-mod (first_nibbles others) count (first_small others smaller) in
    let lengths = length-take-le count (first_nibbles all) (omega (arith, length-first all))
    ∙ sym (length-take-le count (first_nibbles others) (omega (arith, length-first others))) in (
      λ same. same_from_packed _ _ lengths (All-take IsNibble count _ (first_small all small)) (All-take IsNibble count _ (first_small others smaller))
          (sym mine ∙ same ∙ theirs),
      λ same. mine ∙ ap packed same ∙ sym theirs,
    )
