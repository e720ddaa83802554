-- The steps of the two seats at a place keep its rule.
use Rattle.std.proofs.Common.{◌≡◌, ℕ, ◌-◌, ◌^◌, ◌≤◌, Bool, true, false, not, None, List, [], ◌∷◌, ◌++◌, refl, replicate, sym, subst}
use Rattle.std.specs.Prelude.{bit_and, bit_xor, slice_index, slice_set}
use Rattle.std.specs.declared.alloc.Global.{Global}
use Rattle.std.specs.declared.sync.Arc.{Arc}
use mathlib.Core.Option as home
use lib.ListN.{get_elem?}
use Rattle.atomic_table.specs.Table.{Allows, opening, Splits, Step, step}
use Rattle.two_copies.specs.declared.place.Part.{Part}
use Rattle.two_copies.specs.declared.place.Part.TheVariants.{Whole, Idle, Looking, Leaving, Refused, HasOther, HasNone, Closed}
use Rattle.two_copies.specs.declared.rule.CopyRule.{Ghosts}
use Rattle.two_copies.specs.Place.{amid, ClosesWithNone, ClosesWithOther, Enters, fresh, index_of, known_of, Leaves}
use Rattle.two_copies.specs.Place.{PlaceData, Reclaims, RefusesLooks, SeatData, Settles, Shows, Stage, state_of}
use Rattle.two_copies.specs.Place.{writing}
use Rattle.two_copies.specs.Slot.{Follows, Holds}
use Rattle.two_copies.proofs.Plays.{Copy, IsKept, Moves, Owes, plus, plays, by_view}

module _ {F T : Type 0} (rule : Ghosts F T) where
  abbrev Seat : Type 0
  Seat = SeatData (Arc T Global)

  owed : (state : PlaceData (Arc T Global)) → IsKept rule state → (id : ℕ) (view : Part (Copy T)) → get_elem? state.views id ≡ home.some view
      → (P : PlaceData (Arc T Global) → Type 0) → ((stage : Stage (Copy T)) → Owes rule stage id view → P (state_of stage)) → P state
  owed state (stage, good, is) id view at P then =
      subst (λ (s : PlaceData (Arc T Global)). get_elem? s.views id ≡ home.some view → P s) (sym is)
      (λ e. then stage (by_view (Owes rule stage) (state_of stage).views view id e (plays rule stage good))) at

  -- a seat of which this is known makes the step that it owes
  allows : (slots id : ℕ) (me seat : Seat) (change : ℕ → ℕ) (play : Seat → ℕ → Seat → Type 0) → me ≡ seat
      → ((stage : Stage (Copy T)) → Owes rule stage id seat.0 → Moves rule (state_of stage) id seat change play)
      → Allows (IsKept rule) slots id me 16 change (play me)
  allows slots id me seat change play is then = subst (λ (m : Seat). Allows (IsKept rule) slots id m 16 change (play m)) (sym is)
      (λ state kept long at small. owed state kept id seat.0 at (λ s. Moves rule s id seat change play) then)

  pub enters : (t : Step (Copy T)) (slots id : ℕ) (me : Seat) → me ≡ (Idle (known_of me.0), me.1)
      → Allows (IsKept rule) slots id me 16 (plus 2) (Enters (Holds rule.holds) (Follows rule.follows) t me)
  enters t slots id me is = allows slots id me _ (plus 2) (Enters (Holds rule.holds) (Follows rule.follows) t) is (λ stage owes. owes me.1 t)

  pub leaves : (t : Step (Copy T)) (slots id : ℕ) (me : Seat) (slot : Bool) (y : Copy T) (others : List (ℕ × Copy T))
      → me ≡ (Looking slot y, (index_of slot, y) ∷ others) → Allows (IsKept rule) slots id me 16 (plus (2 ^ 64 - 2)) (Leaves t me)
  leaves t slots id me slot y others is = allows slots id me _ (plus (2 ^ 64 - 2)) (Leaves t) is (λ stage owes. owes others t)

  -- what the play is told of the step, which it does not read
  abbrev no_step : Step (Copy T)
  no_step = step 0 0 0 0 home.none

  -- a reader gave back a slot which is no longer the newest
  pub reports : (slots id : ℕ) (me : Seat) → me ≡ (Leaving (known_of me.0), me.1) → Allows (IsKept rule) slots id me 16 (plus 4) (Settles no_step me)
  reports slots id me is = allows slots id me _ (plus 4) (Settles no_step) is (λ stage owes. owes me.1 no_step)

  -- a reader takes the step of a refused look back
  pub withdraws : (slots id : ℕ) (me : Seat) (seen : Copy T) (own : List (ℕ × Copy T)) → me ≡ (Refused seen, own)
      → Allows (IsKept rule) slots id me 16 (plus (2 ^ 64 - 2)) (Settles no_step me)
  withdraws slots id me seen own is = allows slots id me _ (plus (2 ^ 64 - 2)) (Settles no_step) is (λ stage owes. owes own no_step)

  pub reclaims : (slots id : ℕ) (me : Seat) (newest : Bool) (t : Step (Copy T)) → me ≡ writing newest false (known_of me.0)
      → Allows (IsKept rule) slots id me 16 (λ word. bit_and word 3) (Reclaims t me)
  reclaims slots id me newest t is = allows slots id me _ (λ word. bit_and word 3) (Reclaims t) is (λ stage owes. owes.0 t)

  pub shows : (slots id : ℕ) (me : Seat) (newest : Bool) (shown next : Copy T) (t : Step (Copy T))
      → me ≡ (HasOther newest shown, (index_of (not newest), next) ∷ []) → Holds rule.holds next → Follows rule.follows shown next
      → Allows (IsKept rule) slots id me 16 (λ word. bit_xor word 1) (Shows t me)
  shows slots id me newest shown next t is held after = allows slots id me _ (λ word. bit_xor word 1) (Shows t) is (λ stage owes. owes.0 t next held after)

  pub closes_with_other : (t : Step (Copy T)) (slots id : ℕ) (me : Seat) (newest : Bool) (y : Copy T) → me ≡ writing newest true y
      → Allows (IsKept rule) slots id me 16 (plus 8) (ClosesWithOther t me)
  closes_with_other t slots id me newest y is = allows slots id me _ (plus 8) (ClosesWithOther t) is (λ stage owes. owes.1 t)

  pub closes_with_none : (t : Step (Copy T)) (slots id : ℕ) (me : Seat) (newest : Bool) (y : Copy T) → me ≡ writing newest false y
      → Allows (IsKept rule) slots id me 16 (plus 8) (ClosesWithNone t me)
  closes_with_none t slots id me newest y is = allows slots id me _ (plus 8) (ClosesWithNone t) is (λ stage owes. owes.1 t)

  -- a closed place refuses each look that begins
  pub refuses_looks : (y : Copy T) (view : Part (Copy T)) → view ≡ Closed y → RefusesLooks (Holds rule.holds) (Follows rule.follows) view
  refuses_looks y view is = record {
    refuses = λ id state kept at.
        owed state kept id view at (λ s. 8 ≤ slice_index s.words 16) (λ stage owes. subst (Owes rule stage id) is owes);
  }

  pub begins : (words : List ℕ) (slots : List (Copy T)) (first shown : Copy T) → words ≡ replicate 33 0 → slots ≡ amid 8 None (first ∷ None ∷ [])
      → shown ≡ first → Holds rule.holds first → IsKept rule (opening words slots (Whole shown))
  begins words slots first shown zeros is same held = rw (zeros, is, same) (fresh first None, held, refl)

  pub divides : (id : ℕ) (view : Part (Copy T)) → view ≡ Whole (known_of view)
      → Splits (IsKept rule) id view (HasNone false (known_of view)) (Leaving (known_of view))
  divides id view is state kept at =
      let after : PlaceData (Arc T Global) → PlaceData (Arc T Global) = λ s. record {
        words = s.words;
        homes = s.homes;
        views = slice_set s.views id (HasNone false (known_of view)) ++ Leaving (known_of view) ∷ [];
      } in
      owed state kept id view at (λ s. IsKept rule (after s)) (λ stage owes. subst (Owes rule stage id) is owes)
