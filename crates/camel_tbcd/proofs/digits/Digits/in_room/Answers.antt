use Rattle.std.proofs.lemmas.List.Elements.{All-from_get_or}
use Rattle.camel_tbcd.proofs.DigitLemmas.{IsOctet}
use Rattle.camel_tbcd.proofs.digits.Digits.in_room.Goals as goal

pub first_number-requires-clause-octets : goal.first_number-requires-clause-octets
first_number-requires-clause-octets c = All-from_get_or IsOctet c.args.room.now 0 (λ i _. c.fits-room i)
