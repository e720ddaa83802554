use Rattle.std.proofs.Common.{◌≡◌, ◌<◌, ℕ, length, slice_index}
use Rattle.camel_tbcd.specs.Address.{digit_list}
use Rattle.camel_tbcd.proofs.digits.Digits.has_front.Given as goal

-- the digits of the front so far are the same
abbrev pub invariant-loop-at : goal.invariant-loop-at
invariant-loop-at l = (k : ℕ) → k < l.at → k < length (digit_list l.front) → slice_index (digit_list l.self) k ≡ slice_index (digit_list l.front) k
