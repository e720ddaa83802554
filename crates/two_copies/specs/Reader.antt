-- What clauses see of a reader and of a look.
use Rattle.std.specs.declared.option.Option.{Option}
use Rattle.std.specs.Arc.{arc_value}
use Rattle.atomic_table.specs.Seated.{TableId}
use Rattle.two_copies.specs.Place.{known_of}
use Rattle.two_copies.specs.Slot.{value_in}
use Rattle.two_copies.specs.declared.reader.Look.{Look}
use Rattle.two_copies.specs.declared.reader.Reader.{Reader}

module _ {T F : Type 0} where
  -- which place the reader has: its table
  abbrev pub place_of : Reader T F → TableId
  place_of reader = reader.seat.table_id

  -- which place the look's reader has
  abbrev pub place_in : Look T F → TableId
  place_in look = look.seat.table_id

  -- the value that the reader saw last, or none after the end
  abbrev pub seen_by : Reader T F → Option T
  seen_by reader = value_in (known_of reader.seat.me.0)

  -- the value that the look shows
  abbrev pub shown_in : Look T F → T
  shown_in look = arc_value look.shown
