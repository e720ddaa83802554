-- The room that is kept for one to three numbers.
use Rattle.std.specs.Prelude.{◌≡◌, ◌≤◌, ℕ, List, [], ◌∷◌, length, take}

-- the numbers, and the first one again in the places that are left
abbrev pub filled : List (List ℕ) → List (List ℕ)
filled (first ∷ []) = first ∷ first ∷ first ∷ []
filled (first ∷ second ∷ []) = first ∷ second ∷ first ∷ []
filled numbers = numbers

-- three places keep the first `len` of them
pub record IsFew (room : List (List ℕ)) (len : ℕ) : Type 0 where
  pub three : length room ≡ 3
  pub some : 1 ≤ len
  pub few : len ≤ 3
  pub full : room ≡ filled (take len room)
  pub counted : len ≡ length (take len room)
