use Rattle.std.proofs.Common.{◌∙◌}
use Rattle.camel_tbcd.proofs.RoomLemmas.{from_le_bytes-room}
use Rattle.camel_tbcd.proofs.digits.room_number.Goals as goal

pub returns : goal.returns
returns c = c.from_le_bytes.ensures ∙ from_le_bytes-room c.args.room.now c.requires
