-- The seats of a place: what each sees, owes and may do at each stage.
use Rattle.std.proofs.Common.{◌≡◌, ℕ, suc, List, [], ◌∷◌, Option, Some, None, arith, sym, subst, ◌∙◌, zero, ap, ◌+◌}
use Rattle.std.proofs.Common.{◌-◌, ◌%◌, ◌^◌, ◌≤◌, true, false, not, ◌++◌, ◌==◌, ◌<◌, Bool, refl}
use Rattle.std.specs.declared.alloc.Global.{Global}
use Rattle.std.specs.Arc.{arc_value}
use Rattle.std.specs.declared.sync.Arc.{Arc}
use lib.ListN.{get_elem?}
use Rattle.std.specs.Prelude.{bit_and, bit_xor, slice_index, slice_set}
use Rattle.atomic_table.specs.Table.{rest, Me, Act, Step, Valid, stepped, carried_after, keeps, takes, gives, chain}
use Rattle.two_copies.specs.Place.{AreEmpty, SeatData, ClosesWithNone, ClosesWithOther, Enters, index_of, IsGood, Kept}
use Rattle.two_copies.specs.Place.{Leaves, PlaceData, Reclaims, Settles, Shows, Stage, state_of, writing, ahead, apart}
use Rattle.two_copies.specs.Place.{back, behind, closed, fresh, leaving, looked}
use Rattle.two_copies.specs.Slot.{Follows, Holds}
use Rattle.two_copies.specs.declared.place.Part.{Part}
use Rattle.two_copies.specs.declared.place.Part.TheVariants.{Whole, Idle, Looking, Leaving, Refused, HasOther, HasNone}
use Rattle.two_copies.specs.declared.place.Part.TheVariants.{Closed}
use Rattle.two_copies.specs.declared.rule.CopyRule.{Ghosts}
use mathlib.Core.Option as home

-- The order of slots, from that of the values, and slots that are empty.

module _ {T : Type 0} (follows : T → T → Type 0) where
  pub follows_itself : ((x : T) → follows x x) → (y : Option (Arc T Global)) → Follows follows y y
  follows_itself itself (Some copy) = itself (arc_value copy)
  follows_itself itself None = tt

  pub follows_through : ((x y z : T) → follows x y → follows y z → follows x z) → (a b c : Option (Arc T Global))
      → Follows follows a b → Follows follows b c → Follows follows a c
  follows_through through a b None first second = tt
  follows_through through (Some a) (Some b) (Some c) first second = through (arc_value a) (arc_value b) (arc_value c) first second
  follows_through through None (Some b) (Some c) first second = first
  follows_through through a None (Some c) first second = absurd second

module _ {X : Type 0} where
  AreEmpty-rest : (slots : List (ℕ × Option X)) → AreEmpty slots → AreEmpty (rest slots)
  AreEmpty-rest [] empty = empty
  AreEmpty-rest (slot ∷ slots) empty = λ k d inside. empty (suc k) d (omega (arith, inside))

  -- a seat that fills a slot and then gives it back has empty ones, if it had such
  pub gives_full_slot : (me filled after : SeatData X) (slot : ℕ × Option X) (view : Part (Option X)) → AreEmpty me.1
      → filled ≡ (me.0, slot ∷ rest me.1) → after ≡ (view, rest filled.1) → AreEmpty after.1
  gives_full_slot me filled after slot view empty fills given =
      subst (λ (m : SeatData X). AreEmpty m.1) (sym (given ∙ (λ j. (view, rest (fills j).1)))) (AreEmpty-rest me.1 empty)

-- The views of the seats at a place, and the slot that a seat took last.

module _ {V : Type 0} where
  -- this is true of each view, with where it stands
  abbrev pub EachView : (ℕ → V → Type 0) → List V → Type 0
  EachView P [] = Unit {0}
  EachView P (view ∷ views) = P 0 view × EachView (λ n. P (suc n)) views

  pub by_view : (P : ℕ → V → Type 0) (views : List V) (view : V) (id : ℕ) → get_elem? views id ≡ home.some view → EachView P views → P id view
  by_view P [] view id at each = absurd (home.some-ne-none view (sym at))
  by_view P (first ∷ views) view zero at each = subst (P 0) (home.some-injective first view at) each.0
  by_view P (first ∷ views) view (suc id) at each = by_view (λ n. P (suc n)) views view id at each.1

-- the slot that a seat took last, and what is in it after an exchange
module _ {S V : Type 0} where
  pub has_slot : (me : Me S V) (view : V) (slot index : ℕ) (y : S) (others : List (ℕ × S)) → me ≡ (view, (slot, y) ∷ others) → index ≡ slot
      → me.1 ≡ (index, y) ∷ rest me.1
  has_slot me view slot index y others is same = ap (λ (m : Me S V). m.1) is ∙ (λ j. (sym same j, y) ∷ rest (sym is j).1)

  pub fills_slot : (me after : Me S V) (view : V) (slot index : ℕ) (y z : S) (others : List (ℕ × S)) → me ≡ (view, (slot, y) ∷ others)
      → index ≡ slot → after ≡ (me.0, (index, z) ∷ rest me.1) → after ≡ (view, (slot, z) ∷ others)
  fills_slot me after view slot index y z others is same e = e ∙ (λ j. ((is j).0, (same j, z) ∷ rest (is j).1))

-- What each seat of a place owes by its next step, by what it knows.

-- what may lie in a slot
abbrev pub Copy : Type 0 → Type 0
Copy T = Option (Arc T Global)

-- a step that adds to the word
abbrev pub plus : ℕ → ℕ → ℕ
plus more word = (word + more) % 2 ^ 64

module _ {F T : Type 0} (rule : Ghosts F T) where
  abbrev pub IsGoodStage : Stage (Copy T) → Type 0
  IsGoodStage = IsGood (Holds rule.holds) (Follows rule.follows)

  abbrev pub IsKept : PlaceData (Arc T Global) → Type 0
  IsKept = Kept (Holds rule.holds) (Follows rule.follows)

  -- a seat that changes the word of this state so keeps the rule, and the play is true of it
  abbrev pub Moves : PlaceData (Arc T Global) → ℕ → SeatData (Arc T Global) → (ℕ → ℕ)
      → (SeatData (Arc T Global) → ℕ → SeatData (Arc T Global) → Type 0) → Type 0
  Moves state id me change play = (view : Part (Copy T)) × (act : Act (Copy T)) × Valid state.homes me.1 act
      × IsKept (stepped state 16 (change (slice_index state.words 16)) id me.1 view act)
      × play me (slice_index state.words 16) (view, carried_after me.1 act)

  -- the first seat is divided, each later one makes its step, and the word of a closed place refuses looks
  abbrev pub Owes : Stage (Copy T) → ℕ → Part (Copy T) → Type 0
  Owes stage id (Whole shown) = IsKept record {
    words = (state_of stage).words;
    homes = (state_of stage).homes;
    views = slice_set (state_of stage).views id (HasNone false shown) ++ Leaving shown ∷ [];
  }
  Owes stage id (Idle seen) = (slots : List (ℕ × Copy T)) (t : Step (Copy T))
      → Moves (state_of stage) id (Idle seen, slots) (plus 2) (Enters (Holds rule.holds) (Follows rule.follows) t)
  Owes stage id (Looking slot seen) = (slots : List (ℕ × Copy T)) (t : Step (Copy T))
      → Moves (state_of stage) id (Looking slot seen, (index_of slot, seen) ∷ slots) (plus (2 ^ 64 - 2)) (Leaves t)
  Owes stage id (Leaving seen) = (slots : List (ℕ × Copy T)) (t : Step (Copy T))
      → Moves (state_of stage) id (Leaving seen, slots) (plus 4) (Settles t)
  Owes stage id (Refused seen) = (slots : List (ℕ × Copy T)) (t : Step (Copy T))
      → Moves (state_of stage) id (Refused seen, slots) (plus (2 ^ 64 - 2)) (Settles t)
  Owes stage id (HasOther newest shown) = ((t : Step (Copy T)) (next : Copy T) → Holds rule.holds next → Follows rule.follows shown next
      → Moves (state_of stage) id (HasOther newest shown, (index_of (not newest), next) ∷ []) (λ word. bit_xor word 1) (Shows t))
      × ((t : Step (Copy T)) → Moves (state_of stage) id (writing newest true shown) (plus 8) (ClosesWithOther t))
  Owes stage id (HasNone newest shown) =
      ((t : Step (Copy T)) → Moves (state_of stage) id (HasNone newest shown, []) (λ word. bit_and word 3) (Reclaims t))
      × ((t : Step (Copy T)) → Moves (state_of stage) id (HasNone newest shown, []) (plus 8) (ClosesWithNone t))
  Owes stage id (Closed shown) = 8 ≤ slice_index (state_of stage).words 16

-- What each seat may do at each stage of a place.

-- what the writer owes, by its two steps, and then the reader
seats : {A B C : Type 0} → A → B → C → (A × B) × (C × Unit {0})
seats a b c = ((a, b), (c, tt))

module _ {F T : Type 0} (rule : Ghosts F T) where
  itself : (y : Copy T) → Follows rule.follows y y
  itself = follows_itself rule.follows rule.follows_itself

  through : (a b c : Copy T) → Follows rule.follows a b → Follows rule.follows b c → Follows rule.follows a c
  through = follows_through rule.follows rule.follows_through

  -- what is true of a step, by the word that it finds
  finds : (t : Step (Copy T)) (word : ℕ) (y seen : Copy T) (own : List (ℕ × Copy T)) → word < 8 → Holds rule.holds y → Follows rule.follows seen y
      → Enters (Holds rule.holds) (Follows rule.follows) t (Idle seen, own) word (Looking (word % 2 == 1) y, (index_of (word % 2 == 1), y) ∷ own)
  finds t word y seen own few held on = record { takes_it = λ _. (y, held, on, refl); takes_none = λ found. absurd (omega arith) }

  finds_end : (t : Step (Copy T)) (word : ℕ) (seen : Copy T) (own : List (ℕ × Copy T)) → 8 ≤ word
      → Enters (Holds rule.holds) (Follows rule.follows) t (Idle seen, own) word (Refused None, own)
  finds_end t word seen own many = record { takes_it = λ found. absurd (omega arith); takes_none = λ _. refl }

  leaves_end : (t : Step (Copy T)) (word : ℕ) (slot : Bool) (seen : Copy T) (own : List (ℕ × Copy T)) → 10 ≤ word
      → Leaves t (Looking slot seen, own) word (Idle seen, own)
  leaves_end t word slot seen own many = record { gives_back = λ found. absurd (omega arith); keeps_it = λ _. refl }

  turn : (t : Step (Copy T)) (k : Bool) (word : ℕ) (y u : Copy T) → word < 2
      → Shows t (HasOther k y, (index_of (not k), u) ∷ []) word (HasOther (not k) u, (index_of k, y) ∷ [])
  turn t k word y u idle = record { idle = λ _. (y, refl); looking = λ found. absurd (omega arith) }

  closes_idle : (t : Step (Copy T)) (k : Bool) (word : ℕ) (y z : Copy T) → word % 4 < 2
      → ClosesWithNone t (HasNone k y, []) word (Closed y, (index_of k, y) ∷ (index_of (not k), z) ∷ [])
  closes_idle t k word y z idle =
      record { idle = λ _. (y, z, refl); with_other = λ found more. absurd (omega arith); with_newest = λ found more. absurd (omega arith) }

  closes_behind : (t : Step (Copy T)) (k : Bool) (word : ℕ) (y : Copy T) → 2 ≤ word % 4 → word < 4
      → ClosesWithNone t (HasNone k y, []) word (Closed y, (index_of k, y) ∷ [])
  closes_behind t k word y looks out =
      record { idle = λ found. absurd (omega arith); with_other = λ found more. (y, refl); with_newest = λ found more. absurd (omega arith) }

  closes_ahead : (t : Step (Copy T)) (k : Bool) (word : ℕ) (y z : Copy T) → 2 ≤ word % 4 → 4 ≤ word
      → ClosesWithNone t (HasNone k y, []) word (Closed y, (index_of (not k), z) ∷ [])
  closes_ahead t k word y z looks there =
      record { idle = λ found. absurd (omega arith); with_other = λ found more. absurd (omega arith); with_newest = λ found more. (z, refl) }

  pub plays : (stage : Stage (Copy T)) → IsGoodStage rule stage → EachView (Owes rule stage) (state_of stage).views
  plays (fresh y z) good = ((leaving false y z y, (good, itself y), refl), tt)
  plays (apart false y seen) good = seats
      (λ t u held on.
      (HasOther true u, chain gives (takes 8 y), (tt, refl), (apart true u seen, (held, through seen y u good.1 on), refl), turn t _ 0 y u (omega arith)))
      (λ t. (Closed y, takes 8 y, refl, (closed 8 y (Idle seen), omega arith, refl), record { idle = λ _. (y, refl); looking = λ found. absurd (omega arith) }))
      (λ own t. (Looking false y, takes 8 y, refl, (looked false y, good.0, refl), finds t 0 y seen own (omega arith) good.0 good.1))
  plays (looked false y) good = seats
      (λ t u held on. (HasNone true u, gives, tt, (behind true u y, (held, on), refl), record { idle = λ found. absurd (omega arith); looking = λ _. refl }))
      (λ t. (Closed y, keeps, tt, (closed 10 y (Looking false y), omega arith, refl), record { idle = λ found. absurd (omega arith); looking = λ _. refl }))
      (λ own t. (Idle y, gives, tt, (apart false y y, (good, itself y), refl), record { gives_back = λ _. refl; keeps_it = λ n. absurd (omega arith) }))
  plays (behind false y z) good = seats
      (λ t. (HasNone false y, keeps, tt, (behind false y z, good, refl), record { lay_there = λ found. absurd (omega arith); was_out = λ _. refl }))
      (λ t. (Closed y, takes 8 y, refl, (closed 10 y (Looking true z), omega arith, refl), closes_behind t false 2 y (omega arith) (omega arith)))
      (λ own t. (Leaving z, gives, tt, (leaving false y z z, good, refl), record { gives_back = λ _. refl; keeps_it = λ n. absurd (omega arith) }))
  plays (leaving false y z seen) good = seats
      (λ t. (HasNone false y, keeps, tt, (leaving false y z seen, good, refl), record { lay_there = λ found. absurd (omega arith); was_out = λ _. refl }))
      (λ t. (Closed y, chain (takes 9 z) (takes 8 y), (refl, refl), (closed 8 y (Leaving seen), omega arith, refl), closes_idle t false 0 y z (omega arith)))
      (λ own t. (Idle seen, keeps, tt, (back false y z seen, good, refl), refl))
  plays (back false y z seen) good = seats
      (λ t. (HasOther false y, takes 9 z, refl, (apart false y seen, good, refl), record { lay_there = λ _. (z, refl); was_out = λ n. absurd (omega arith) }))
      (λ t. (Closed y, chain (takes 9 z) (takes 8 y), (refl, refl), (closed 12 y (Idle seen), omega arith, refl), closes_idle t false 4 y z (omega arith)))
      (λ own t. (Looking false y, takes 8 y, refl, (ahead false y z, good.0, refl), finds t 4 y seen own (omega arith) good.0 good.1))
  plays (ahead false y z) good = seats
      (λ t. (HasOther false y, takes 9 z, refl, (looked false y, good, refl), record { lay_there = λ _. (z, refl); was_out = λ n. absurd (omega arith) }))
      (λ t. (Closed y, takes 9 z, refl, (closed 14 y (Looking false y), omega arith, refl), closes_ahead t false 6 y z (omega arith) (omega arith)))
      (λ own t. (Idle y, gives, tt, (back false y z y, (good, itself y), refl), record { gives_back = λ _. refl; keeps_it = λ n. absurd (omega arith) }))
  plays (apart true y seen) good = seats
      (λ t u held on.
      (HasOther false u, chain gives (takes 9 y), (tt, refl), (apart false u seen, (held, through seen y u good.1 on), refl), turn t _ 1 y u (omega arith)))
      (λ t. (Closed y, takes 9 y, refl, (closed 9 y (Idle seen), omega arith, refl), record { idle = λ _. (y, refl); looking = λ found. absurd (omega arith) }))
      (λ own t. (Looking true y, takes 9 y, refl, (looked true y, good.0, refl), finds t 1 y seen own (omega arith) good.0 good.1))
  plays (looked true y) good = seats
      (λ t u held on. (HasNone false u, gives, tt, (behind false u y, (held, on), refl), record { idle = λ found. absurd (omega arith); looking = λ _. refl }))
      (λ t. (Closed y, keeps, tt, (closed 11 y (Looking true y), omega arith, refl), record { idle = λ found. absurd (omega arith); looking = λ _. refl }))
      (λ own t. (Idle y, gives, tt, (apart true y y, (good, itself y), refl), record { gives_back = λ _. refl; keeps_it = λ n. absurd (omega arith) }))
  plays (behind true y z) good = seats
      (λ t. (HasNone true y, keeps, tt, (behind true y z, good, refl), record { lay_there = λ found. absurd (omega arith); was_out = λ _. refl }))
      (λ t. (Closed y, takes 9 y, refl, (closed 11 y (Looking false z), omega arith, refl), closes_behind t true 3 y (omega arith) (omega arith)))
      (λ own t. (Leaving z, gives, tt, (leaving true y z z, good, refl), record { gives_back = λ _. refl; keeps_it = λ n. absurd (omega arith) }))
  plays (leaving true y z seen) good = seats
      (λ t. (HasNone true y, keeps, tt, (leaving true y z seen, good, refl), record { lay_there = λ found. absurd (omega arith); was_out = λ _. refl }))
      (λ t. (Closed y, chain (takes 8 z) (takes 9 y), (refl, refl), (closed 9 y (Leaving seen), omega arith, refl), closes_idle t true 1 y z (omega arith)))
      (λ own t. (Idle seen, keeps, tt, (back true y z seen, good, refl), refl))
  plays (back true y z seen) good = seats
      (λ t. (HasOther true y, takes 8 z, refl, (apart true y seen, good, refl), record { lay_there = λ _. (z, refl); was_out = λ n. absurd (omega arith) }))
      (λ t. (Closed y, chain (takes 8 z) (takes 9 y), (refl, refl), (closed 13 y (Idle seen), omega arith, refl), closes_idle t true 5 y z (omega arith)))
      (λ own t. (Looking true y, takes 9 y, refl, (ahead true y z, good.0, refl), finds t 5 y seen own (omega arith) good.0 good.1))
  plays (ahead true y z) good = seats
      (λ t. (HasOther true y, takes 8 z, refl, (looked true y, good, refl), record { lay_there = λ _. (z, refl); was_out = λ n. absurd (omega arith) }))
      (λ t. (Closed y, takes 8 z, refl, (closed 15 y (Looking true y), omega arith, refl), closes_ahead t true 7 y z (omega arith) (omega arith)))
      (λ own t. (Idle y, gives, tt, (back true y z y, (good, itself y), refl), record { gives_back = λ _. refl; keeps_it = λ n. absurd (omega arith) }))
  plays (closed word y (Idle seen)) good =
      (omega arith, (λ own t. (Refused None, keeps, tt, (closed (plus 2 word) y (Refused None), omega arith, refl), finds_end t word seen own good.0), tt))
  plays (closed word y (Looking slot seen)) good =
      (omega arith, (λ own t. (Idle seen, keeps, tt, (closed (plus (2 ^ 64 - 2) word) y (Idle seen), omega arith, refl), leaves_end t word _ _ _ good.0), tt))
  plays (closed word y (Leaving seen)) good =
      (omega arith, (λ own t. (Idle seen, keeps, tt, (closed (plus 4 word) y (Idle seen), omega arith, refl), refl), tt))
  plays (closed word y (Refused seen)) good =
      (omega arith, (λ own t. (Idle seen, keeps, tt, (closed (plus (2 ^ 64 - 2) word) y (Idle seen), omega arith, refl), refl), tt))
  plays (closed word y part) good = absurd good
