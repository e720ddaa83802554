-- The pieces of a line, grouped as a format string gives them and as the line's text is stated.
use Rattle.std.proofs.Common.{◌≡◌, ℕ, List, ◌++◌, append_assoc, sym}

pub five_pieces : (a b c d e : List ℕ) → a ++ (b ++ (c ++ (d ++ e))) ≡ a ++ b ++ c ++ d ++ e
five_pieces a b c d e = sym (simp append_assoc)
