use Rattle.std.proofs.Common.{◌≡◌, Ok, length, take}
use Rattle.camel_c_data.specs.Fields.{isdn_address_in}
use Rattle.camel_reading.specs.Reading.{each_of}
use Rattle.camel_c_data.proofs.number_criterion.numbers_with.Given as goal

-- the first places have the fields of the first numbers
abbrev pub invariant-loop-at : goal.invariant-loop-at
invariant-loop-at l = record {
  whole : length l.room ≡ 10;
  so_far : each_of isdn_address_in (take l.at l.room) ≡ Ok (take l.at l.numbers);
}
