use Rattle.std.proofs.Common.{◌∙◌, ap, arith, drop, length, take}
use Rattle.camel_tbcd.specs.AddressString.{nibbles, packed, room_with}
use Rattle.camel_tbcd.proofs.RoomLemmas.{length-room, packed_digits-room}
use Rattle.camel_tbcd.proofs.digits.packed_digits.Goals as goal

pub room_number-requires : goal.room_number-requires
room_number-requires c =
    let full = ap length c.room.ensures ∙ ap (λ octets. length (room_with 20 octets)) c.from_slice.ensures ∙ length-room 20 c.args.bytes.now c.requires.few in
    omega (arith, full)

pub returns : goal.returns
returns c =
    c.room_number.ensures
    ∙ ap (λ room. packed (nibbles (take 8 (drop 1 room)))) c.room.ensures
    ∙ ap (λ octets. packed (nibbles (take 8 (drop 1 (room_with 20 octets))))) c.from_slice.ensures
    ∙ packed_digits-room 20 c.args.bytes.now (omega arith) c.requires.some c.requires.few
