-- The octets of an address, as they are held.
use Rattle.std.specs.Prelude.{ℕ, List, take}
use Rattle.camel_script.specs.declared.text.HeldOctets.{HeldOctets}
use Rattle.camel_script.specs.declared.text.HeldOctets.TheVariants.{Few, Many}

-- few octets are the first of a row, so many as are counted
abbrev pub held_octets : HeldOctets → List ℕ
held_octets (Few octets count) = take count octets
held_octets (Many octets) = octets.items
