use Rattle.std.proofs.Common.{◌≡◌, ◌-◌, ◌++◌, drop, length, take}
use Rattle.camel_tbcd.specs.Imsi.{last_digits}
use Rattle.camel_tbcd.proofs.imsi_digits.ImsiDigits.of_value.Given as goal

-- the digits that are left, with those that are read, are all digits
abbrev pub invariant-loop-read : goal.invariant-loop-read
invariant-loop-read l = record {
  room : length l.room ≡ 15;
  so_far : last_digits (l.count - l.read) l.rest ++ drop (l.count - l.read) (take l.count l.room) ≡ last_digits l.count l.value;
}
