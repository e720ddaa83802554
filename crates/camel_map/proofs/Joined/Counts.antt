-- How many items two lists have.
use Rattle.std.proofs.Common.{◌≡◌, ◌≤◌, ◌==◌, ℕ, true, false, List, [], ◌∷◌, ◌++◌, length, min, refl, arith}
use Rattle.std.proofs.lemmas.Bool.Decides.{nat_tests}
use Rattle.std.proofs.lemmas.Grind.{common_steps}

-- a count that stays at the greatest number is the sum, if it is not over 10
pub sum_few : (sum count : ℕ) → count ≡ min sum 18446744073709551615 → count ≤ 10 → (sum ≤ 10) × (count ≡ sum)
sum_few sum count is few = (omega arith, omega arith)

pub some_length : (count : ℕ) → false ≡ (count == 0) → 1 ≤ count
some_length count is = grind (arith, common_steps, nat_tests)

pub no_items : {Item : Type 0} (items : List Item) (count : ℕ) → count ≡ length items → true ≡ (count == 0) → items ≡ []
no_items [] count is none = refl
no_items (item ∷ items) count is none = absurd (grind (arith, common_steps, nat_tests))

pub first_empty : {Item : Type 0} (one other : List Item) → one ++ other ≡ [] → one ≡ []
first_empty [] other is = refl
first_empty (item ∷ one) other is = absurd cc
