-- What clauses see of the two ends of a place: the writer's end, a reader and its look.
use Rattle.std.specs.Prelude.{◌≡◌, ◌+◌, ◌*◌, ℕ, List, [], ◌∷◌, Some, not, true, IsSomeAnd, ◌<◌, ◌⊎◌, ◌++◌, HoldsAt}
use Rattle.std.specs.Prelude.{None, length, set}
use Rattle.std.specs.declared.alloc.Global.{Global}
use Rattle.std.specs.declared.option.Option.{Option}
use Rattle.std.specs.declared.sync.Arc.{Arc}
use Rattle.std.specs.Arc.{arc_value}
use Rattle.atomic_table.specs.Seated.{TableId}
use Rattle.two_copies.specs.Place.{HasClosed, known_of, number}
use Rattle.two_copies.specs.Slot.{value_in}
use Rattle.two_copies.specs.declared.place.writer_end.WriterEnd.{WriterEnd}

-- What clauses see of the writer's end of a place.

module _ {T F : Type 0} where
  -- which place it is: its table
  abbrev pub place_at : WriterEnd T F → TableId
  place_at end = end.seat.table_id

  -- the newest slot
  abbrev pub slot_at : WriterEnd T F → Option (Arc T Global)
  slot_at end = known_of end.seat.me.0

  -- the value that is shown at the place
  abbrev pub shown_at : WriterEnd T F → Option T
  shown_at end = value_in (slot_at end)

  -- the place shows this
  abbrev pub ShowsAt : T → WriterEnd T F → Type 0
  ShowsAt shown end = shown_at end ≡ Some shown

  -- the writer has the slot for the next copy
  abbrev pub IsFreeAt : WriterEnd T F → Type 0
  IsFreeAt end = end.has_other ≡ true

  -- which of the places are held, where the writer lacks that slot: a bit for each, the lowest for the first
  abbrev pub held_in : List (WriterEnd T F) → ℕ
  held_in [] = 0
  held_in (end ∷ ends) = number (not end.has_other) + 2 * held_in ends

  -- the copy that is to be shown next has this value
  abbrev pub IsNextAt : T → WriterEnd T F → Type 0
  IsNextAt next end = IsSomeAnd end.next (λ copy. arc_value copy ≡ next)

  -- the place is closed, and the writer has left no copy in it
  abbrev pub IsClosedAt : WriterEnd T F → Type 0
  IsClosedAt end = HasClosed end.seat.me

-- A list of places that gets one more.

-- one more goes behind the others, or takes the place of one; all others stay where they are
abbrev pub IsOneMore : {X : Type 0} → X → List X → List X → Type 0
IsOneMore one before after = (after ≡ before ++ one ∷ []) ⊎ ((n : ℕ) × (n < length before) × (after ≡ set before n one))

module _ {T F : Type 0} where
  -- an end goes behind the others, if no table came back, or else to the place that had this table
  abbrev pub IsPut : Option TableId → WriterEnd T F → List (WriterEnd T F) → List (WriterEnd T F) → Type 0
  IsPut None end before after = after ≡ before ++ end ∷ []
  IsPut (Some table) end before after =
      (n : ℕ) × (n < length before) × HoldsAt (λ left. place_at left ≡ table) before n × (after ≡ set before n end)
