use Rattle.std.proofs.Common.{◌≡◌, true, take}
use Rattle.std.specs.Char.{is_ascii_digit}
use Rattle.std.specs.List.{list_all}
use Rattle.camel_tbcd.specs.Imsi.{digit_values}
use Rattle.camel_tbcd.proofs.imsi.Imsi.from_ascii.Given as goal

-- the characters so far are digits, whose values are kept
abbrev pub invariant-loop-at : goal.invariant-loop-at
invariant-loop-at l = record {
  digits : list_all is_ascii_digit (take l.at l.characters) ≡ true;
  so_far : l.first ≡ digit_values (take l.at l.characters);
}
