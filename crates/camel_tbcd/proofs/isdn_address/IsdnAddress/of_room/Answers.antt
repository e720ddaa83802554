use Rattle.std.proofs.Common.{arith, take}
use Rattle.std.proofs.lemmas.List.{length-take-le}
use Rattle.std.proofs.lemmas.List.Elements.{All-from_get_or, All-take}
use Rattle.camel_tbcd.proofs.DigitLemmas.{length-digits-le, IsOctet}
use Rattle.camel_tbcd.proofs.isdn_address.IsdnAddress.of_room.Goals as goal

pub first_number-number-requires-clause-octets : goal.first_number-number-requires-clause-octets
first_number-number-requires-clause-octets c = All-from_get_or IsOctet c.args.room.now 0 (λ i _. c.fits-room i)

pub digit_count-fewer-requires-clause-octets : goal.digit_count-fewer-requires-clause-octets
digit_count-fewer-requires-clause-octets c =
    All-take IsOctet c.args.len c.args.room.now (All-from_get_or IsOctet c.args.room.now 0 (λ i _. c.fits-room i))

pub overflow_sub-fewer : goal.overflow_sub-fewer
overflow_sub-fewer c =
    let octets = take c.args.len c.args.room.now in
    let counted = length-take-le c.args.len c.args.room.now (omega (arith, c.requires, c.told-room)) in
    omega (arith, length-digits-le octets, counted, c.requires, c.digit_count-fewer.ensures)
