-- What shifts and differences of numbers say of the digits that they hold.
use Rattle.std.proofs.Common.{◌≡◌, ◌∙◌, ℕ, zero, suc, ◌+◌, ◌-◌, ◌*◌, ◌/◌, ◌%◌, ◌<◌, ◌≤◌, ◌^◌, refl, sym, ap, arith, ◌↔◌}
use Rattle.std.proofs.Common.{bit_xor, List, length, take, All, get_or, inl, inr, ◌==◌, false, [], ◌∷◌, drop, min}
use Rattle.std.proofs.Common.{slice_index}
use Rattle.std.proofs.Math.Nat.{add-mul, mul-lt-mul_of_pos_right, mul_assoc, one-le-pow, pow-succ'}
use Rattle.std.proofs.Math.Nat.{eq_of_mul-eq-mul_right, div-div-eq-div-mul, div-one}
use Rattle.std.proofs.lemmas.Nat.{div-add-mod', mod-mul-add, mod_below, pow-add, mul-mod_first, xor_mod}
use Rattle.std.proofs.lemmas.Nat.Bits.{bit_at-lt, bit_at-zero, bit_at_xor, same_from_bits}
use Rattle.std.specs.Int.{bit_at}
use Rattle.std.proofs.lemmas.Bool.{cases_lt, ne_eqb}
use Rattle.std.proofs.lemmas.List.{get_or-take, length-take, take_all}
use Rattle.std.proofs.lemmas.List.Elements.{All-head, All-tail}
use Rattle.camel_tbcd.specs.AddressString.{digits, first_nibbles, packed_digits, nibbles, IsFirstFiller, nibble_at}
use Rattle.camel_tbcd.specs.AddressString.{packed}
use Rattle.camel_tbcd.proofs.DigitLemmas.{filler_behind, first_digits, no_filler, same_first, IsOctet, get-digits}
use Rattle.camel_tbcd.proofs.DigitLemmas.{same_in_fronts, first_small, IsNibble}

-- What a shift leaves of the number of digits.

-- a factor of both stays
product-mod : (number most factor : ℕ) → 0 < most → 0 < factor → (number * factor) % (most * factor) ≡ number % most * factor
product-mod number most factor some more =
    let left : ℕ = number % most in
    let fits : left * factor < most * factor = mul-lt-mul_of_pos_right (mod_below number most some) more in
    ap (λ n. n * factor % (most * factor)) (sym (div-add-mod' number most))
    ∙ ap (λ n. n % (most * factor)) (add-mul (number / most * most) left factor ∙ ap (λ n. n + left * factor) (mul_assoc (number / most) most factor))
    ∙ mod-mul-add (number / most) (most * factor) (left * factor) fits

-- a digit in base 16 is 4 bits
pub pow-16 : (count : ℕ) → 2 ^ (4 * count) ≡ 16 ^ count
pow-16 zero = refl
pow-16 (suc count) =
    let more : 4 * suc count ≡ 4 + 4 * count = omega arith in
    rw (more, pow-succ') (pow-add 2 4 (4 * count) ∙ ap (λ n. 16 * n) (pow-16 count))

-- a shift leaves only the lowest digits
pub shifted : (number count : ℕ) → count ≤ 16 → number * 2 ^ (64 - 4 * count) % 2 ^ 64 ≡ number % 16 ^ count * 2 ^ (64 - 4 * count)
shifted number count few =
    let places : 64 ≡ 4 * count + (64 - 4 * count) = omega arith in
    let whole : 2 ^ 64 ≡ 16 ^ count * 2 ^ (64 - 4 * count) =
    ap (λ n. 2 ^ n) places ∙ pow-add 2 (4 * count) (64 - 4 * count) ∙ ap (λ n. n * 2 ^ (64 - 4 * count)) (pow-16 count) in
    ap (λ n. number * 2 ^ (64 - 4 * count) % n) whole
    ∙ product-mod number (16 ^ count) (2 ^ (64 - 4 * count)) (one-le-pow count 16 (omega arith)) (one-le-pow (64 - 4 * count) 2 (omega arith))

-- What a shifted difference of two numbers says.

even_sum : (x y : ℕ) → x < 2 → y < 2 → (x + y) % 2 ≡ 0 → x ≡ y
even_sum x y small smaller even = omega arith

twice_even : (x : ℕ) → (x + x) % 2 ≡ 0
twice_even x = omega arith

-- two numbers are the same exactly if they differ in no bit
pub no_bit_differs : (a b : ℕ) → (bit_xor a b ≡ 0) ↔ (a ≡ b)
no_bit_differs a b = (
  λ none. same_from_bits a b (λ i. even_sum _ _ (bit_at-lt a i) (bit_at-lt b i) (sym (bit_at_xor a b i) ∙ ap (λ n. bit_at n i) none ∙ bit_at-zero i)),
  λ same. ap (λ n. bit_xor n b) same ∙ same_from_bits (bit_xor b b) 0 (λ i. bit_at_xor b b i ∙ twice_even (bit_at b i) ∙ sym (bit_at-zero i)),
)

-- a number of 64 bits that is shifted twice
abbrev pub twice_shifted : ℕ → ℕ → ℕ
twice_shifted number half = number * 2 ^ half % 2 ^ 64 * 2 ^ half % 2 ^ 64

-- two shifts are one
shifted_twice : (number half : ℕ) → twice_shifted number half ≡ number * 2 ^ (half + half) % 2 ^ 64
shifted_twice number half =
    mul-mod_first (number * 2 ^ half) (2 ^ half) (2 ^ 64)
    ∙ ap (λ n. n % 2 ^ 64) (mul_assoc number (2 ^ half) (2 ^ half) ∙ ap (λ n. number * n) (sym (pow-add 2 half half)))

-- a shift that leaves only the lowest digits leaves nothing exactly if these are 0
pub none_shifted : (number half count : ℕ) → count ≤ 16 → half + 2 * count ≡ 32 → (twice_shifted number half ≡ 0) ↔ (number % 16 ^ count ≡ 0)
none_shifted number half count few is =
    let zero : 0 * 2 ^ (64 - 4 * count) ≡ 0 = omega arith in
    let both : half + half ≡ 64 - 4 * count = omega arith in
    let left : twice_shifted number half ≡ number % 16 ^ count * 2 ^ (64 - 4 * count) =
    shifted_twice number half ∙ ap (λ n. number * 2 ^ n % 2 ^ 64) both ∙ shifted number count few in (
      λ none. eq_of_mul-eq-mul_right (2 ^ (64 - 4 * count)) (one-le-pow (64 - 4 * count) 2 (omega arith)) (number % 16 ^ count) 0 (sym left ∙ none ∙ sym zero),
      λ none. left ∙ ap (λ n. n * 2 ^ (64 - 4 * count)) none ∙ zero,
    )

-- two numbers have the same lowest digits exactly if their difference has none
pub same_lowest : (a b count : ℕ) → (bit_xor a b % 16 ^ count ≡ 0) ↔ (a % 16 ^ count ≡ b % 16 ^ count)
same_lowest a b count =
    let apart : bit_xor a b % 16 ^ count ≡ bit_xor (a % 16 ^ count) (b % 16 ^ count) =
    ap (λ n. bit_xor a b % n) (sym (pow-16 count)) ∙ xor_mod a b (4 * count) ∙ ap (λ n. bit_xor (a % n) (b % n)) (pow-16 count) in
    let told = no_bit_differs (a % 16 ^ count) (b % 16 ^ count) in (λ none. told.0 (sym apart ∙ none), λ same. apart ∙ told.1 same)

-- Where two numbers of digits do not differ, the first digits are the same.

-- the first nibbles of two addresses are the same exactly if no bit of them differs
same_if_none_differs : (all others : List ℕ) (half count : ℕ) → All IsOctet all → All IsOctet others → count ≤ 16 → half + 2 * count ≡ 32
    → (twice_shifted (bit_xor (packed_digits all) (packed_digits others)) half ≡ 0) ↔ (take count (first_nibbles all) ≡ take count (first_nibbles others))
same_if_none_differs all others half count small smaller few is =
    let left = none_shifted (bit_xor (packed_digits all) (packed_digits others)) half count few is in
    let lowest = same_lowest (packed_digits all) (packed_digits others) count in
    let told = same_first all others count small smaller few in (λ none. told.0 (lowest.0 (left.0 none)), λ same. left.1 (lowest.1 (told.1 same)))

-- digits are among the first nibbles only where there are as many digits: a filler is behind these
as_many : (all front : List ℕ) → length (digits front) ≤ 16 → take (length (digits front)) (first_nibbles all) ≡ digits front
    → length (digits front) ≤ length (digits all)
as_many all front few same =
    elim (cases_lt (length (digits all)) (length (digits front))) [
      | inl fewer ↦ absurd (no_filler front _ fewer (ap (λ items. get_or items (length (digits all)) 0) (sym same)
          ∙ get_or-take _ (first_nibbles all) (length (digits all)) 0 fewer ∙ filler_behind all (omega (arith, fewer, few))))
      | inr enough ↦ enough
    ]

-- at most 16 digits are the first ones of others exactly if no bit of them differs
pub first_if_none_differs : (all front : List ℕ) (half : ℕ) → All IsOctet all → All IsOctet front → length (digits front) ≤ 16
    → half + 2 * length (digits front) ≡ 32
    → (twice_shifted (bit_xor (packed_digits all) (packed_digits front)) half ≡ 0) ↔ (digits front ≡ take (length (digits front)) (digits all))
first_if_none_differs all front half small smaller few is =
    let count : ℕ = length (digits front) in
    let whole : take count (first_nibbles front) ≡ digits front = first_digits front count (omega arith) few ∙ take_all count (digits front) (omega arith) in
    let told = same_if_none_differs all front half count small smaller few is in (
      λ none. let same = told.0 none ∙ whole in sym same ∙ first_digits all count (as_many all front few same) few,
      λ same. let within : count ≤ length (digits all) = omega (arith, ap length same, length-take count (digits all)) in
          told.1 (first_digits all count within few ∙ sym same ∙ sym whole),
    )

-- The number of digits says whether two fronts of digits are the same.

-- the numbers, shifted so that so many digits are left, are the same if these digits are
pub same_shifted : (all others : List ℕ) (count : ℕ) → All IsOctet all → All IsOctet others
    → count ≤ 16 → count ≤ length (digits all) → count ≤ length (digits others)
    → (packed_digits all * 2 ^ (64 - 4 * count) % 2 ^ 64 ≡ packed_digits others * 2 ^ (64 - 4 * count) % 2 ^ 64)
    ↔ (take count (digits all) ≡ take count (digits others))
same_shifted all others count small smaller few within inside =
    let mine = shifted (packed_digits all) count few in
    let theirs = shifted (packed_digits others) count few in
    let told = same_first all others count small smaller few in
    let my_digits = first_digits all count within few in
    let their_digits = first_digits others count inside few in (
      λ same.
          sym my_digits ∙ told.0 (eq_of_mul-eq-mul_right _ (one-le-pow (64 - 4 * count) 2 (omega arith)) _ _ (sym mine ∙ same ∙ theirs)) ∙ their_digits,
      λ same. mine ∙ ap (λ n. n * 2 ^ (64 - 4 * count)) (told.1 (my_digits ∙ same ∙ sym their_digits)) ∙ sym theirs,
    )

-- The first filler of the first nibbles of an address ends its digits.

-- the nibble at a place of the number of nibbles
nibble_packed : (all : List ℕ) (k : ℕ) → All IsNibble all → nibble_at (packed all) k ≡ get_or all k 0
nibble_packed [] k few = omega arith
nibble_packed (nibble ∷ all) zero few = ap (λ n. n % 16) (div-one (nibble + 16 * packed all)) ∙ omega (arith, All-head IsNibble nibble all few)
nibble_packed (nibble ∷ all) (suc k) few =
    let small = All-head IsNibble nibble all few in
    ap (λ n. (nibble + 16 * packed all) / n % 16) (pow-succ' 16 k)
    ∙ ap (λ n. n % 16) (sym (div-div-eq-div-mul (nibble + 16 * packed all) 16 (16 ^ k)))
    ∙ ap (λ n. n / 16 ^ k % 16) (omega (arith, small))
    ∙ nibble_packed all k (All-tail IsNibble nibble all few)

-- the first filler ends the digits
pub count_by_filler : (octets : List ℕ) (number place : ℕ) → All IsOctet octets → number ≡ packed_digits octets → IsFirstFiller number place
    → place ≡ min 16 (length (digits octets))
count_by_filler octets number place small is first =
    elim (cases_lt place (min 16 (length (digits octets)))) [
      | inl fewer ↦ absurd (among fewer)
      | inr enough ↦ elim (cases_lt (min 16 (length (digits octets))) place) [ inl more ↦ absurd (behind more) | inr all ↦ omega (arith, all, enough) ]
    ]
  where
    nibble : (k : ℕ) → nibble_at number k ≡ get_or (first_nibbles octets) k 0
    nibble k = ap (λ n. nibble_at n k) is ∙ nibble_packed (first_nibbles octets) k (first_small octets small)

    in_digits : place < min 16 (length (digits octets)) → get_or (first_nibbles octets) place 0 ≡ get_or (digits octets) place 0
    in_digits fewer =
        let front = first_digits octets (suc place) (omega (arith, fewer)) (omega (arith, fewer)) in
        same_in_fronts (first_nibbles octets) (digits octets) (suc place) place front (omega arith)

    among : place < min 16 (length (digits octets)) → ⊥
    among fewer =
        let within : place < length (digits octets) = omega (arith, fewer) in
        no_filler octets place within (sym (in_digits fewer) ∙ sym (nibble place) ∙ first.here (omega (arith, fewer)))

    behind : min 16 (length (digits octets)) < place → ⊥
    behind more =
        let few : length (digits octets) < 16 = omega (arith, more, first.most) in
        first.before (length (digits octets)) (omega (arith, more, few)) (nibble (length (digits octets)) ∙ filler_behind octets few)

-- no nibble before the end of the digits is a filler
pub none_before : (octets : List ℕ) (k : ℕ) → k < length (digits octets) → (slice_index (nibbles (drop 1 octets)) k == 15) ≡ false
none_before octets k within = ne_eqb _ _ (λ is. no_filler octets k within (get-digits octets k within ∙ is))
