use Rattle.std.proofs.Common.{◌≡◌, min, take}
use Rattle.camel_ber.specs.Elements.{value_of}
use Rattle.camel_map.specs.Reading.{greatest}
use Rattle.camel_map.proofs.value.magnitude.Given as goal

abbrev pub invariant-loop-octet : goal.invariant-loop-octet
invariant-loop-octet l = l.value ≡ min (value_of (take l.octet-index l.octets)) greatest
