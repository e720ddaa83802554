-- Why a list is refused, by the number of its items.
use Rattle.std.proofs.Common.{◌≡◌, ◌≤◌, ℕ, Bool, true, false, List, Option, Some, None, Ok, refl, arith}
use Rattle.std.proofs.lemmas.Bool.Decides.{nat_tests}
use Rattle.std.proofs.lemmas.Grind.{common_steps}
use Rattle.camel_criteria.specs.declared.refusal.Refusal.{Refusal}
use Rattle.camel_rows.specs.TdpRow.{kept_unless, list_refusal}

-- lists of 1 to 10 items are refused alike
pub same_refusal : (one other : ℕ) (single : Bool) → 1 ≤ one → one ≤ 10 → 1 ≤ other → other ≤ 10
    → list_refusal one single ≡ list_refusal other single
same_refusal one other true some few some_too few_too = grind (arith, common_steps, nat_tests)
same_refusal one other false some few some_too few_too = grind (arith, common_steps, nat_tests)

pub some-from_taken : (count : ℕ) (single : Bool) → list_refusal count single ≡ None → 1 ≤ count
some-from_taken count true taken = grind (arith, common_steps, nat_tests)
some-from_taken count false taken = grind (arith, common_steps, nat_tests)

pub few_taken : (count : ℕ) → 1 ≤ count → count ≤ 10 → list_refusal count true ≡ None
few_taken count some few = grind (arith, common_steps, nat_tests)

pub unless_kept : {Item : Type 0} (why : Option Refusal) (items kept : List Item) → kept_unless why items ≡ Ok kept
    → (why ≡ None) × (kept ≡ items)
unless_kept None items kept is = (refl, cc)
unless_kept (Some why) items kept is = absurd cc
