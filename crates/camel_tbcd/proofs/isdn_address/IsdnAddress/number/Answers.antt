use Rattle.std.proofs.Common.{◌∙◌, List, ℕ, ap, arith, drop, take}
use Rattle.camel_tbcd.specs.AddressString.{nibbles, counted_octets, packed, packed_digits}
use Rattle.camel_tbcd.proofs.RoomLemmas.{packed_digits-room}
use Rattle.camel_tbcd.proofs.isdn_address.IsdnAddress.number.Goals as goal

pub returns : goal.returns
returns c =
    let kept : List ℕ = counted_octets c.self.inside.counts c.self.inside.room in
    c.room_number.ensures
    ∙ ap (λ room. packed (nibbles (take 8 (drop 1 room)))) c.self.invariant.kept.fill
    ∙ packed_digits-room 9 kept (omega arith) c.self.invariant.address.some c.self.invariant.address.few
    ∙ ap packed_digits c.self.view_is
