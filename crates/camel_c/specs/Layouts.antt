-- The sizes of the types of the header, in its order, and then of a handle.
use Rattle.std.specs.Prelude.{ℕ, List, [], ◌∷◌}

abbrev pub layout_sizes : List ℕ
layout_sizes = 16 ∷ 8 ∷ 21 ∷ 10 ∷ 2 ∷ 24 ∷ 11 ∷ 6 ∷ 106 ∷ 127 ∷ 40 ∷ 80 ∷ 3 ∷ 40 ∷ 32 ∷ 32 ∷ 720 ∷ 32 ∷ 1200 ∷ 16 ∷ []
