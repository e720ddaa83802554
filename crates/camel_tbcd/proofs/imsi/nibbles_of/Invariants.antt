use Rattle.std.proofs.Common.{◌≡◌, ◌*◌, length, take}
use Rattle.camel_tbcd.specs.AddressString.{nibbles}
use Rattle.camel_tbcd.proofs.imsi.nibbles_of.Given as goal

-- the nibbles of the octets so far
abbrev pub invariant-loop-at : goal.invariant-loop-at
invariant-loop-at l = record {
  room : length l.nibbles ≡ 16;
  so_far : take (2 * l.at) l.nibbles ≡ nibbles (take l.at l.octets);
}
