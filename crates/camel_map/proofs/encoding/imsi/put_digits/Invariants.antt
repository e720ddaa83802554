use Rattle.std.proofs.Common.{◌≡◌, ◌≤◌, ◌%◌, ◌++◌, drop, length}
use Rattle.camel_map.specs.Encoding.{tbcd_octets}
use Rattle.camel_map.proofs.encoding.imsi.put_digits.Given as goal

-- the digits from an even place on are written
abbrev pub invariant-loop-at : goal.invariant-loop-at
invariant-loop-at l = record {
  within : l.at ≤ length l.digits;
  even : l.at % 2 ≡ 0;
  so_far : l.writer ≡ tbcd_octets (drop l.at l.digits) ++ l.fn.writer;
}

abbrev pub decreases-loop-at : goal.decreases-loop-at
decreases-loop-at l = l.at
