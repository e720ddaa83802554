-- When two addresses agree, and when one begins with the other.
use Rattle.std.proofs.Common.{◌≡◌, ℕ, ◌*◌, ◌/◌, ◌%◌, ◌↔◌, List, [], ◌∷◌, bit_and, bit_xor, slice_index, refl, sym, ap}
use Rattle.std.proofs.Common.{◌∙◌, arith, ◌+◌, ◌==◌, ◌&&◌, length, take, All, bit_or, nat_eq, ap₂}
use Rattle.std.proofs.lemmas.Bool.{eq-eqb, eqb-true}
use Rattle.std.proofs.lemmas.Bool.Decides.{Decides-and, Decides-eqb, Decides-like, same_from_decides}
use Rattle.std.proofs.lemmas.Nat.{and_mask, xor_mod, xor_shr, le_or_l, le_or_r}
use Rattle.std.proofs.lemmas.Nat.Bits.{and_high}
use Rattle.std.specs.Bool.{Decides}
use Rattle.std.specs.Cmp.Lexicographic.{bytes_decides}
use Rattle.std.specs.List.{starts_with}
use Rattle.camel_tbcd.proofs.DifferenceLemmas.{no_bit_differs, twice_shifted, first_if_none_differs}
use Rattle.camel_tbcd.specs.AddressString.{nature_of, plan_of, Agree, agrees, compared_bits, plans_agree, digits}
use Rattle.camel_tbcd.specs.AddressString.{packed_digits}
use Rattle.camel_tbcd.specs.declared.profile.Profile.{Profile}
use Rattle.camel_tbcd.specs.declared.profile.Profile.TheVariants.{One, Two}
use Rattle.camel_tbcd.proofs.DigitLemmas.{IsOctet}

-- The test of two addresses says whether they agree.

plans_decide : (profile : Profile) (first second : List ℕ) → Decides (plans_agree profile first second) (profile ≡ Two → plan_of first ≡ plan_of second)
plans_decide One first second = (λ _ two. absurd (cc two), λ _. refl)
plans_decide Two first second = (λ e _. eqb-true (plan_of first) (plan_of second) e, λ same. eq-eqb (plan_of first) (plan_of second) (same refl))

pub agrees_decides : (profile : Profile) (first second : List ℕ) → Decides (agrees profile first second) (Agree profile first second)
agrees_decides profile first second =
    let told = Decides-and _ _ (Decides-eqb (nature_of first) (nature_of second)) (plans_decide profile first second) in (
      λ e. let both = told.0 e in record { nature = both.0; plan = both.1 },
      λ are. told.1 (are.nature, are.plan),
    )

-- octets 1 that differ in none of the bits that the profile compares are those of addresses that agree
pub agree_by_bits : (profile : Profile) (first other : ℕ)
    → (bit_and (bit_xor first other) (compared_bits profile) ≡ 0) ↔ Agree profile (first ∷ []) (other ∷ [])
agree_by_bits One first other =
    let masked : bit_and (bit_xor first other) 0x70 ≡ bit_xor first other / 16 % 8 * 16 = and_high (bit_xor first other) 3 4 in
    let apart : bit_xor first other / 16 % 8 ≡ bit_xor (first / 16 % 8) (other / 16 % 8) =
    ap (λ n. n % 8) (xor_shr first other 4) ∙ xor_mod (first / 16) (other / 16) 3 in
    let told = no_bit_differs (first / 16 % 8) (other / 16 % 8) in (
      λ none. record { nature = told.0 (omega (arith, none)); plan = λ two. absurd (cc two) },
      λ are. omega (arith, told.1 are.nature),
    )
agree_by_bits Two first other =
    let apart : bit_and (bit_xor first other) 0x7f ≡ bit_xor (first % 128) (other % 128) = and_mask (bit_xor first other) 7 ∙ xor_mod first other 7 in
    let told = no_bit_differs (first % 128) (other % 128) in (
      λ none. let same = told.0 (sym apart ∙ none) in record { nature = omega (arith, same); plan = λ two. omega (arith, same) },
      λ are. apart ∙ told.1 (omega (arith, are.nature, are.plan refl)),
    )

-- addresses agree exactly if addresses of no more than their octets 1 do
pub agree_by_firsts : (profile : Profile) (some others : List ℕ) (first other : ℕ) → first ≡ slice_index some 0 → other ≡ slice_index others 0
    → Agree profile (first ∷ []) (other ∷ []) ↔ Agree profile some others
agree_by_firsts profile some others first other mine theirs = (
  λ are. record { nature = omega (arith, are.nature); plan = λ two. omega (arith, are.plan two) },
  λ are. record { nature = omega (arith, are.nature); plan = λ two. omega (arith, are.plan two) },
)

-- When a destination begins with a listed number.

-- two numbers have no bit together exactly if neither has one
no_bit_of_both : (a b : ℕ) → (bit_or a b ≡ 0) ↔ ((a ≡ 0) × (b ≡ 0))
no_bit_of_both a b = (
  λ none. (omega (arith, le_or_l a b), omega (arith, le_or_r a b)),
  λ both. ap₂ bit_or both.0 both.1,
)

-- `fewer` is by how many digits the listed number has fewer than 16
pub front_told : (profile : Profile) (listed destination called : List ℕ) (fewer differing : ℕ)
    → All IsOctet listed → All IsOctet called → digits called ≡ digits destination
    → fewer + length (digits listed) ≡ 16 → ((differing ≡ 0) ↔ Agree profile listed destination)
    → (bit_or (twice_shifted (bit_xor (packed_digits called) (packed_digits listed)) (2 * fewer)) differing == 0)
    ≡ (agrees profile listed destination && starts_with nat_eq (digits destination) (digits listed))
front_told profile listed destination called fewer differing small smaller same fewer_is agree =
    let count : ℕ = length (digits listed) in
    let told = first_if_none_differs called listed (2 * fewer) smaller small (omega arith) (omega arith) in
    let front : take count (digits called) ≡ take count (digits destination) = ap (take count) same in
    let none = no_bit_of_both (twice_shifted (bit_xor (packed_digits called) (packed_digits listed)) (2 * fewer)) differing in
    same_from_decides _ _
    (Decides-like _
    (λ no_bit. let apart = none.0 no_bit in (agree.0 apart.1, told.0 apart.0 ∙ front))
    (λ are. none.1 (told.1 (are.1 ∙ sym front), agree.1 are.0))
    (Decides-eqb _ _))
    (Decides-and _ _ (agrees_decides profile listed destination) (bytes_decides (digits listed) (take count (digits destination))))
