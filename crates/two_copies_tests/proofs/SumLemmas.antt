-- A sum rises.
use Rattle.std.proofs.Common.{ℕ, ◌≤◌, List, [], ◌∷◌, arith}
use Rattle.std.specs.Prelude.{fold}
use Rattle.two_copies_tests.specs.Sum.{added}

pub fold_rises : (sum : ℕ) (operations : List ℕ) → sum ≤ fold added sum operations
fold_rises sum [] = omega arith
fold_rises sum (operation ∷ operations) = omega (arith, fold_rises (added sum operation) operations)
