-- A session's place at a store over `left_right`. It is for the proof: no promise cites it.
use Rattle.std.specs.Prelude.{Option, Some, None}
use Rattle.left_right.specs.Sides.{view}
use Rattle.camel_vlr.specs.declared.base.left_right_seat.LeftRightSeat.{LeftRightSeat}
use Rattle.camel_vlr.specs.declared.base.left_right_seat.LeftRightSeat.TheVariants.{Idle, Reading}
use Rattle.camel_vlr.specs.declared.history.rule.Known.{Known}
use Rattle.camel_vlr.specs.declared.published_copy.PublishedCopy.{PublishedCopy}

-- what the session knows
abbrev pub known_of : LeftRightSeat → Known
known_of (Idle reader) = view reader.place
known_of (Reading reading) = view reading.place

-- the copy of a look
abbrev pub copy_of : LeftRightSeat → Option PublishedCopy
copy_of (Idle reader) = None
copy_of (Reading reading) = Some reading.part.value
