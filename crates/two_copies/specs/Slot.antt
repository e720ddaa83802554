-- What a user's rule says of a slot, and the seat at the table of its place.
use Rattle.std.specs.Prelude.{Some, None, IsSomeAnd, ◌≡◌}
use Rattle.std.specs.declared.option.Option.{Option}
use Rattle.std.specs.declared.alloc.Global.{Global}
use Rattle.std.specs.Arc.{arc_value}
use Rattle.std.specs.declared.sync.Arc.{Arc}
use Rattle.atomic_table.specs.Seated.{TableId}

-- What a user's rule says of a slot.

module _ {T : Type 0} where
  -- the value in a slot
  abbrev pub value_in : Option (Arc T Global) → Option T
  value_in (Some copy) = Some (arc_value copy)
  value_in None = None

  -- there is a copy in the slot, and it may be shown
  abbrev pub Holds : (T → Type 0) → Option (Arc T Global) → Type 0
  Holds holds (Some copy) = holds (arc_value copy)
  Holds holds None = ⊥

  -- a copy in the later slot may be shown after the earlier one, and after nothing there is none
  abbrev pub Follows : (T → T → Type 0) → Option (Arc T Global) → Option (Arc T Global) → Type 0
  Follows follows earlier (Some later) = IsSomeAnd (value_in earlier) (λ seen. follows seen (arc_value later))
  Follows follows earlier None = Unit {0}

-- A seat at the table of its place.

-- the seat is of this table, which has the words of a place
pub record IsSeated (seat table : TableId) : Type 0 where
  pub same : seat ≡ table
  pub sized : table.words ≡ 33
