-- What an operation does to a sum.
use Rattle.std.specs.Prelude.{◌≡◌, ℕ, ◌+◌, List, [], ◌∷◌, fold, max, min, refl}

-- the greatest number is not passed, and no operation makes the sum less
abbrev pub added : ℕ → ℕ → ℕ
added sum operation = max sum (min (sum + operation) 18446744073709551615)

put_back : (before : ℕ) (operations : List ℕ) → fold (λ now operation. before) before operations ≡ before
put_back before [] = refl
put_back before (operation ∷ operations) = put_back before operations

-- what operations have made of a state is put back as it was
pub all_put_back : (applied : ℕ → ℕ → ℕ) (before : ℕ) (operations : List ℕ)
    → fold (λ now operation. before) (fold applied before operations) operations ≡ before
all_put_back applied before [] = refl
all_put_back applied before (operation ∷ operations) = put_back before operations
