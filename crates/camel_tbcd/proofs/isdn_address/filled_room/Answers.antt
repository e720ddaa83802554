use Rattle.std.proofs.Common.{◌∷◌, ◌∙◌, ap, get_or, length}
use Rattle.std.proofs.lemmas.List.Elements.{All-from_get_or}
use Rattle.std.specs.Int.{to_le_bytes, w64}
use Rattle.camel_tbcd.proofs.RoomLemmas.{filled_room, one_by_one}
use Rattle.camel_tbcd.proofs.DigitLemmas.{IsOctet}
use Rattle.camel_tbcd.proofs.isdn_address.filled_room.Goals as goal

pub returns : goal.returns
returns c =
    let room = c.args.room.now in
    let digits = c.to_le_bytes-digits in
    ap (λ octets. get_or room 0 0 ∷ octets) (one_by_one digits.result (ap length digits.ensures) ∙ digits.ensures ∙ ap (to_le_bytes w64) c.requires.number)
    ∙ filled_room room c.args.len c.told-room c.requires.len.0 c.requires.len.1 (All-from_get_or IsOctet room 0 (λ i _. c.fits-room i))
