use Rattle.std.proofs.Common.{◌∙◌, ap, arith, drop, length, sym, take}
use Rattle.camel_tbcd.specs.AddressString.{nibbles, packed, packed_digits}
use Rattle.camel_tbcd.proofs.RoomLemmas.{length-room, packed_digits-room}
use Rattle.camel_tbcd.proofs.call_address.CallAddress.lend.Goals as goal

pub room_number-number-requires : goal.room_number-number-requires
room_number-number-requires c = omega (arith, ap length c.room.ensures ∙ length-room 20 c.self.inside.octets c.self.invariant.few)

pub of_numbered-requires-clause-numbered : goal.of_numbered-requires-clause-numbered
of_numbered-requires-clause-numbered c =
    c.room_number-number.ensures
    ∙ ap (λ room. packed (nibbles (take 8 (drop 1 room)))) c.room.ensures
    ∙ packed_digits-room 20 c.self.inside.octets (omega arith) c.self.invariant.some c.self.invariant.few
    ∙ ap packed_digits (sym c.as_slice.ensures)
