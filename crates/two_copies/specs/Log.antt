-- What clauses see of a log.
use Rattle.std.specs.Prelude.{◌≡◌, List, [], fold, length, take}
use Rattle.two_copies.specs.Restoring.{restored_from}
use Rattle.two_copies.specs.declared.log.Log.{Log}

module _ {O : Type 0} where
  -- the operations that are not published yet
  abbrev pub pending_in : Log O → List O
  pending_in log = log.pending.items

  -- the pending operations that the copy which is not shown has
  abbrev pub done_in : Log O → List O
  done_in log = take log.pending_done log.pending.items

  -- the copy which is not shown has all that is pending, and no more
  pub record IsBroughtUp (log : Log O) : Type 0 where
    pub dropped : log.dropped.items ≡ []
    pub last : log.last.items ≡ []
    pub done : log.pending_done ≡ length log.pending.items

  -- the copy which is not shown, once what was dropped is restored and the last publication is applied, is the shown one
  -- with what it has of the pending operations
  abbrev pub IsAlike : {S : Type 0} → (S → O → S) → (S → O → S → S) → S → S → Log O → Type 0
  IsAlike applied restored spare shown log =
      fold applied (restored_from restored shown spare log.dropped.items) log.last.items ≡ fold applied shown (done_in log)
