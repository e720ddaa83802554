-- What clauses see of the writer: its log, its copies and its end.
use Rattle.std.specs.Prelude.{ℕ, List, All, length, map}
use Rattle.std.specs.Arc.{arc_value}
use Rattle.atomic_table.specs.Seated.{TableId}
use Rattle.two_copies.specs.Log.{IsBroughtUp, pending_in}
use Rattle.two_copies.specs.WriterEnd.{IsFreeAt, held_in, place_at}
use Rattle.two_copies.specs.declared.apply.Apply.{Ghosts}
use Rattle.two_copies.specs.declared.copies.Copies.{Copies}
use Rattle.two_copies.specs.declared.ending.Ending.{Ending}

-- What clauses see of the writer.

module _ {T O F S : Type 0} {g : Ghosts T O S} where
  -- the value that is shown
  abbrev pub shown_by : Copies T O F S g → T
  shown_by copies = arc_value copies.shown

  -- the operations that are not published yet
  abbrev pub pending_of : Copies T O F S g → List O
  pending_of copies = pending_in copies.log

  -- the copy that is not shown has all that is pending
  abbrev pub IsReady : Copies T O F S g → Type 0
  IsReady copies = IsBroughtUp copies.log

  -- the places, in their order
  abbrev pub places_of : Copies T O F S g → List TableId
  places_of copies = map place_at copies.places.items

  -- how many places there are
  abbrev pub reader_count : Copies T O F S g → ℕ
  reader_count copies = length copies.places.items

  -- the writer has the slot for the next copy of each place
  abbrev pub IsFree : Copies T O F S g → Type 0
  IsFree copies = All IsFreeAt copies.places.items

  -- the places of which the writer lacks it: a bit for each, the lowest for the first reader
  abbrev pub held_by : Copies T O F S g → ℕ
  held_by copies = held_in copies.places.items

-- What clauses see of an end that is held up.

module _ {T F : Type 0} where
  -- the value that was shown last
  abbrev pub value_of : Ending T F → T
  value_of ending = arc_value ending.shown

  -- how many places there are, each of which is closed
  abbrev pub closed_count : Ending T F → ℕ
  closed_count ending = length ending.places.items
