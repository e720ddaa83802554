use Rattle.std.proofs.Common.{◌≡◌, ◌<◌, ◌*◌, ℕ, ◌==◌, false, drop, slice_index}
use Rattle.camel_tbcd.specs.AddressString.{nibbles}
use Rattle.camel_tbcd.proofs.digits.digit_count.Given as goal

-- no nibble so far is the filler
abbrev pub invariant-loop-at : goal.invariant-loop-at
invariant-loop-at l = (k : ℕ) → k < 2 * l.at → (slice_index (nibbles (drop 1 l.bytes)) k == 15) ≡ false
