-- The first filler of a number of nibbles, by its lowest bit.
use Rattle.std.proofs.Common.{◌≡◌, ◌∙◌, ℕ, zero, suc, ◌+◌, ◌*◌, ◌/◌, ◌%◌, ◌<◌, refl, sym, ap, arith, ◌^◌, ◌↔◌, min, ap₂}
use Rattle.std.proofs.Common.{inl, inr}
use Rattle.std.proofs.lemmas.Nat.Bits.{bit_at-suc, bit_at-zero, bit_at_and, bit_at-trailing_zeros}
use Rattle.std.specs.Int.{bit_at, trailing_zeros, w64}
use Rattle.std.proofs.Math.Nat.{div-div-eq-div-mul, mul_comm}
use Rattle.std.specs.Int.Bits.{bit_and}
use Rattle.std.proofs.lemmas.Bool.{cases_lt}
use Rattle.std.proofs.lemmas.Nat.{and_le_r}
use Rattle.std.specs.Int.Count.{trailing_of_zero}
use Rattle.camel_tbcd.specs.AddressString.{IsFirstFiller, nibble_at}
use Rattle.camel_tbcd.proofs.DifferenceLemmas.{pow-16}

-- The lowest bits of nibbles.

-- the lowest bit of each of so many nibbles
abbrev pub lowest_bits : ℕ → ℕ
lowest_bits zero = 0
lowest_bits (suc count) = 1 + 16 * lowest_bits count

nibble_later : (n i : ℕ) → bit_at n (suc (suc (suc (suc i)))) ≡ bit_at (n / 16) i
nibble_later n i =
    bit_at-suc n (suc (suc (suc i))) ∙ bit_at-suc (n / 2) (suc (suc i)) ∙ bit_at-suc (n / 2 / 2) (suc i) ∙ bit_at-suc (n / 2 / 2 / 2) i
    ∙ ap (λ m. bit_at m i) (omega arith)

-- they are at the fourfold places only
pub lowest_only : (count i : ℕ) → bit_at (lowest_bits count) i ≡ 1 → i % 4 ≡ 0
lowest_only zero i is = absurd (omega (arith, bit_at-zero i, is))
lowest_only (suc count) zero is = refl
lowest_only (suc count) (suc zero) is = absurd (omega (arith, is))
lowest_only (suc count) (suc (suc zero)) is = absurd (omega (arith, is))
lowest_only (suc count) (suc (suc (suc zero))) is = absurd (omega (arith, is))
lowest_only (suc count) (suc (suc (suc (suc i)))) is =
    let next : bit_at (lowest_bits (suc count)) (suc (suc (suc (suc i)))) ≡ bit_at (lowest_bits count) i =
    nibble_later (lowest_bits (suc count)) i ∙ ap (λ m. bit_at m i) (omega arith) in
    omega (arith, lowest_only count i (sym next ∙ is))

pub lowest_at : (count k : ℕ) → k < count → bit_at (lowest_bits count) (4 * k) ≡ 1
lowest_at zero k within = absurd (omega arith)
lowest_at (suc count) zero within = omega arith
lowest_at (suc count) (suc k) within =
    let place : 4 * suc k ≡ suc (suc (suc (suc (4 * k)))) = omega arith in
    ap (bit_at (lowest_bits (suc count))) place ∙ nibble_later (lowest_bits (suc count)) (4 * k)
    ∙ ap (λ m. bit_at m (4 * k)) (omega arith)
    ∙ lowest_at count k (omega arith)

-- The fillers in a number of nibbles, by its bits.

-- the bits of a number at which two ones begin, and at which four do
abbrev pub two_ones : ℕ → ℕ
two_ones number = bit_and number (number / 2)

abbrev pub four_ones : ℕ → ℕ
four_ones number = bit_and (two_ones number) (two_ones number / 4)

div_swap : (n a b : ℕ) → n / a / b ≡ n / b / a
div_swap n a b = div-div-eq-div-mul n a b ∙ ap (λ m. n / m) (mul_comm a b) ∙ sym (div-div-eq-div-mul n b a)

two_more : (n i : ℕ) → bit_at n (suc (suc i)) ≡ n / 2 ^ i / 4 % 2
two_more n i =
    bit_at-suc n (suc i) ∙ bit_at-suc (n / 2) i ∙ ap (λ m. m % 2) (div_swap (n / 2) 2 (2 ^ i) ∙ ap (λ m. m / 2) (div_swap n 2 (2 ^ i)) ∙ omega arith)

-- four ones begin at a bit exactly if the nibble that begins there is the filler
pub four_ones_at : (n i : ℕ) → (bit_at (four_ones n) i ≡ 1) ↔ (n / 2 ^ i % 16 ≡ 15)
four_ones_at n i =
    let m : ℕ = n / 2 ^ i in
    let second : bit_at (n / 2) i ≡ m / 2 % 2 = ap (λ k. k % 2) (div_swap n 2 (2 ^ i)) in
    let fourth : bit_at (n / 2) (suc (suc i)) ≡ m / 2 / 4 % 2 = two_more (n / 2) i ∙ ap (λ k. k / 4 % 2) (div_swap n 2 (2 ^ i)) in
    let front : bit_at (two_ones n) i ≡ min (m % 2) (m / 2 % 2) = bit_at_and n (n / 2) i ∙ ap (λ k. min (m % 2) k) second in
    let back : bit_at (two_ones n / 4) i ≡ min (m / 4 % 2) (m / 2 / 4 % 2) =
    ap (λ k. k / 2 ^ i % 2) (omega arith) ∙ sym (bit_at-suc (two_ones n / 2) i) ∙ sym (bit_at-suc (two_ones n) (suc i))
    ∙ bit_at_and n (n / 2) (suc (suc i)) ∙ ap₂ min (two_more n i) fourth in
    let all : bit_at (four_ones n) i ≡ min (min (m % 2) (m / 2 % 2)) (min (m / 4 % 2) (m / 2 / 4 % 2)) =
    bit_at_and (two_ones n) (two_ones n / 4) i ∙ ap₂ min front back in
    told m (bit_at (four_ones n) i) all
  where
    told : (m bit : ℕ) → bit ≡ min (min (m % 2) (m / 2 % 2)) (min (m / 4 % 2) (m / 2 / 4 % 2)) → (bit ≡ 1) ↔ (m % 16 ≡ 15)
    told m bit is = (λ one. omega (arith, is, one), λ filler. omega (arith, is, filler))

-- The first filler of a number of nibbles, by its lowest bit.

-- the lowest bits of the nibbles that are fillers
abbrev pub filler_bits : ℕ → ℕ
filler_bits number = bit_and (four_ones number) (lowest_bits 16)

nibble_of : (number k i : ℕ) → i ≡ 4 * k → number / 2 ^ i % 16 ≡ nibble_at number k
nibble_of number k i is = ap (λ n. number / n % 16) (ap (λ n. 2 ^ n) is ∙ pow-16 k)

-- where no bit is set, there is no filler
no_bit : (number k : ℕ) → k < 16 → bit_at (filler_bits number) (4 * k) ≡ 0 → nibble_at number k ≡ 15 → ⊥
no_bit number k within none filler =
    let ones = (four_ones_at number (4 * k)).1 (nibble_of number k (4 * k) refl ∙ filler) in
    omega (arith, none, bit_at_and (four_ones number) (lowest_bits 16) (4 * k), ones, lowest_at 16 k within)

some_bit : (number i : ℕ) → bit_at (filler_bits number) i ≡ 1 → (i % 4 ≡ 0) × (number / 2 ^ i % 16 ≡ 15)
some_bit number i is =
    let both = bit_at_and (four_ones number) (lowest_bits 16) i in (
      lowest_only 16 i (omega (arith, both, is)),
      (four_ones_at number i).0 (omega (arith, both, is)),
    )

pub first_filler : (number : ℕ) → IsFirstFiller number (trailing_zeros w64 (filler_bits number) / 4)
first_filler number = elim (cases_lt 0 (filler_bits number)) [ inl some ↦ lowest some | inr none ↦ nowhere (omega (arith, none)) ]
  where
    place : ℕ
    place = trailing_zeros w64 (filler_bits number)

    nowhere : filler_bits number ≡ 0 → IsFirstFiller number (place / 4)
    nowhere none =
        let end : place ≡ 64 = ap (trailing_zeros w64) none ∙ trailing_of_zero 64 in
        record {
          most = omega (arith, end);
          before = λ k earlier. no_bit number k (omega (arith, end, earlier)) (ap (λ n. bit_at n (4 * k)) none ∙ bit_at-zero (4 * k));
          here = λ within. absurd (omega (arith, end, within));
        }

    lowest : 0 < filler_bits number → IsFirstFiller number (place / 4)
    lowest some =
        let fits = and_le_r (four_ones number) (lowest_bits 16) in
        let is = bit_at-trailing_zeros w64 (filler_bits number) some (omega (arith, fits)) in
        let set = some_bit number place is.1 in
        record {
          most = omega (arith, is.0);
          before = λ k earlier. no_bit number k (omega (arith, is.0, earlier)) (is.2 (4 * k) (omega (arith, earlier)));
          here = λ within. sym (nibble_of number (place / 4) place (omega (arith, set.0))) ∙ set.1;
        }
