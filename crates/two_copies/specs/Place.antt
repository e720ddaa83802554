-- The states of a place, and what each step at it does.
--
-- The law of a place: a slot is with the writer, with the reader, or at home; what the reader takes may be shown, and
-- follows what it saw last; and a look that begins once the place is closed takes nothing.
use Rattle.std.specs.Prelude.{◌≡◌, ℕ, ◌+◌, ◌%◌, ◌<◌, ◌≤◌, ◌==◌, Bool, true, false, not, List, [], ◌∷◌, ◌++◌, All, None, replicate, slice_index, if◌then◌else◌}
use Rattle.std.specs.declared.option.Option.{Option}
use mathlib.Core.Option as home
use lib.ListN.{get_elem?}
use Rattle.atomic_table.specs.Table.{State, Me, Step, rest}
use Rattle.two_copies.specs.declared.place.Part.{Part}
use Rattle.two_copies.specs.declared.place.Part.TheVariants.{Whole, Idle, Looking, Leaving, Refused, HasOther, HasNone, Closed}

abbrev pub number : Bool → ℕ
number false = 0
number true = 1

-- where a slot lies in its block
abbrev pub index_of : Bool → ℕ
index_of false = 8
index_of true = 9

-- whether what lies here is the second slot
abbrev pub is_second : ℕ → Bool
is_second index = index == 9

-- a slot lies here
abbrev pub IsSlotIndex : ℕ → Type 0
IsSlotIndex index = index ≡ index_of (is_second index)

-- whether the two are one slot
abbrev pub is_same : Bool → Bool → Bool
is_same false newest = not newest
is_same true newest = newest

-- items amid so many fillers on each side, which keep other places off their cache lines
abbrev pub amid : {A : Type 0} → ℕ → A → List A → List A
amid count filler items = replicate count filler ++ items ++ replicate count filler

-- two slots, of which the first named is this one
abbrev pub slots_at : {A : Type 0} → Bool → A → A → List A
slots_at false here other = here ∷ other ∷ []
slots_at true here other = other ∷ here ∷ []

module _ {S : Type 0} where
  -- what is shown, as the writer knows it, and what was seen last, as the reader does
  abbrev pub known_of : Part S → S
  known_of (Whole shown) = shown
  known_of (Idle seen) = seen
  known_of (Looking slot seen) = seen
  known_of (Leaving seen) = seen
  known_of (Refused seen) = seen
  known_of (HasOther newest shown) = shown
  known_of (HasNone newest shown) = shown
  known_of (Closed shown) = shown

  -- the newest slot, as the writer knows it
  abbrev pub newest_of : Part S → Bool
  newest_of (HasOther newest shown) = newest
  newest_of (HasNone newest shown) = newest
  newest_of part = false

  -- the slot that the reader has
  abbrev pub slot_of : Part S → Bool
  slot_of (Looking slot seen) = slot
  slot_of part = false

  -- what the reader knows once it gave its slot back, where the newest slot is this one
  abbrev pub after_look : Part S → Bool → Part S
  after_look (Looking slot seen) newest = if is_same slot newest then Idle seen else Leaving seen
  after_look part newest = part

  -- what a seat has in the slot that it took last
  abbrev pub in_hand : Me S (Part S) → S
  in_hand (part, []) = known_of part
  in_hand (part, x ∷ others) = x.1

  -- the words that a closed place may have while the reader does this: 8, and 2 more while it looks or is refused, and
  -- 4 more if it said that it gave the other slot back, which a reader that is leaving did not, and 1 more if the
  -- second slot is the newest. Each is within these bounds, and no step of the reader takes the word below 8
  abbrev pub IsClosedWord : Part S → ℕ → Type 0
  IsClosedWord (Idle seen) word = (8 ≤ word) × (word ≤ 13)
  IsClosedWord (Looking slot seen) word = (10 ≤ word) × (word ≤ 15)
  IsClosedWord (Leaving seen) word = (8 ≤ word) × (word ≤ 9)
  IsClosedWord (Refused seen) word = (10 ≤ word) × (word ≤ 15)
  IsClosedWord part word = ⊥

-- the newest slot, what is in it and in the other, and what the reader saw last
pub data Stage (S : Type 0) : Type 0 where
  -- there is one seat
  fresh : S → S → Stage S
  -- the reader looks at nothing, and the writer has the other slot
  apart : Bool → S → S → Stage S
  -- the reader has the newest slot, and the writer the other
  looked : Bool → S → Stage S
  -- the reader has the other slot
  behind : Bool → S → S → Stage S
  -- the reader gave the other slot back, and did not say so yet
  leaving : Bool → S → S → S → Stage S
  -- both slots lie there
  back : Bool → S → S → S → Stage S
  -- the reader has the newest slot, and the other lies there
  ahead : Bool → S → S → Stage S
  -- the place is closed: the word, what was shown last, and what the reader does
  closed : ℕ → S → Part S → Stage S

-- what a seat knows, and which slots it has
abbrev pub SeatData : Type 0 → Type 0
SeatData X = Me (Option X) (Part (Option X))

-- the word, the slots at home, and what each seat knows
abbrev pub PlaceData : Type 0 → Type 0
PlaceData X = State (Option X) (Part (Option X))

module _ {X : Type 0} where
  abbrev pub shared : ℕ → List (home.Option (Option X)) → Part (Option X) → Part (Option X) → PlaceData X
  shared word slots writer reader = record { words = amid 16 0 (word ∷ []); homes = amid 8 (home.some None) slots; views = writer ∷ reader ∷ [] }

  abbrev pub state_of : Stage (Option X) → PlaceData X
  state_of (fresh shown other) =
      record { words = amid 16 0 (0 ∷ []); homes = amid 8 (home.some None) (home.some shown ∷ home.some other ∷ []); views = Whole shown ∷ [] }
  state_of (apart slot shown seen) = shared (number slot) (slots_at slot (home.some shown) home.none) (HasOther slot shown) (Idle seen)
  state_of (looked slot shown) = shared (2 + number slot) (home.none ∷ home.none ∷ []) (HasOther slot shown) (Looking slot shown)
  state_of (behind slot shown other) = shared (2 + number slot) (slots_at slot (home.some shown) home.none) (HasNone slot shown) (Looking (not slot) other)
  state_of (leaving slot shown other seen) = shared (number slot) (slots_at slot (home.some shown) (home.some other)) (HasNone slot shown) (Leaving seen)
  state_of (back slot shown other seen) = shared (4 + number slot) (slots_at slot (home.some shown) (home.some other)) (HasNone slot shown) (Idle seen)
  state_of (ahead slot shown other) = shared (6 + number slot) (slots_at slot home.none (home.some other)) (HasNone slot shown) (Looking slot shown)
  state_of (closed word shown reader) = shared word (home.none ∷ home.none ∷ []) (Closed shown) reader

  -- the reader has the newest slot, of which the rule is true; at a closed place it takes nothing
  pub record Enters (holds : Option X → Type 0) (follows : Option X → Option X → Type 0)
      (step : Step (Option X)) (before : SeatData X) (found : ℕ) (after : SeatData X) : Type 0 where
    pub takes_it : found < 8 → (shown : Option X) × holds shown × follows (known_of before.0) shown
        × (after ≡ (Looking (found % 2 == 1) shown, (index_of (found % 2 == 1), shown) ∷ before.1))
    pub takes_none : 8 ≤ found → after ≡ (Refused None, before.1)

  -- the reader gave its slot back; at a closed place it keeps it
  pub record Leaves (step : Step (Option X)) (before : SeatData X) (found : ℕ) (after : SeatData X) : Type 0 where
    pub gives_back : found < 8 → after ≡ (after_look before.0 (found % 2 == 1), rest before.1)
    pub keeps_it : 8 ≤ found → after ≡ (Idle (known_of before.0), before.1)

  -- the reader looks at nothing, and knows what it knew
  abbrev pub Settles : Step (Option X) → SeatData X → ℕ → SeatData X → Type 0
  Settles step before found after = after ≡ (Idle (known_of before.0), before.1)

  -- the writer has the other slot, if that lay there
  pub record Reclaims (step : Step (Option X)) (before : SeatData X) (found : ℕ) (after : SeatData X) : Type 0 where
    pub lay_there : 4 ≤ found → (other : Option X)
        × (after ≡ (HasOther (newest_of before.0) (known_of before.0), (index_of (not (newest_of before.0)), other) ∷ []))
    pub was_out : found < 4 → after ≡ before

  -- the writer's slot is the newest, and the writer has the one that was, if the reader did not look
  pub record Shows (step : Step (Option X)) (before : SeatData X) (found : ℕ) (after : SeatData X) : Type 0 where
    pub idle : found < 2 → (other : Option X) × (after ≡ (HasOther (not (newest_of before.0)) (in_hand before), (index_of (newest_of before.0), other) ∷ []))
    pub looking : 2 ≤ found → after ≡ (HasNone (not (newest_of before.0)) (in_hand before), [])

  -- the writer, which had the other slot, closed the place, and has the newest one too if the reader did not look
  pub record ClosesWithOther (step : Step (Option X)) (before : SeatData X) (found : ℕ) (after : SeatData X) : Type 0 where
    pub idle : found < 2 → (shown : Option X) × (after ≡ (Closed (known_of before.0), (index_of (newest_of before.0), shown) ∷ before.1))
    pub looking : 2 ≤ found → after ≡ (Closed (known_of before.0), before.1)

  -- the writer, which had no slot, closed the place, and has each that was not with the reader
  pub record ClosesWithNone (step : Step (Option X)) (before : SeatData X) (found : ℕ) (after : SeatData X) : Type 0 where
    pub idle : found % 4 < 2 → (shown : Option X) × (other : Option X)
        × (after ≡ (Closed (known_of before.0), (index_of (newest_of before.0), shown) ∷ (index_of (not (newest_of before.0)), other) ∷ []))
    pub with_other : 2 ≤ found % 4 → found < 4 → (shown : Option X) × (after ≡ (Closed (known_of before.0), (index_of (newest_of before.0), shown) ∷ []))
    pub with_newest : 2 ≤ found % 4 → 4 ≤ found → (other : Option X) × (after ≡ (Closed (known_of before.0), (index_of (not (newest_of before.0)), other) ∷ []))

  -- the writer's seat, where this slot is the newest and has this, and the writer may have the other, which is empty
  abbrev pub writing : Bool → Bool → Option X → SeatData X
  writing newest true shown = (HasOther newest shown, (index_of (not newest), None) ∷ [])
  writing newest false shown = (HasNone newest shown, [])

  -- the reader's seat, which took this out of the slot that lies here, and has these others
  abbrev pub looking : ℕ → Option X → List (ℕ × Option X) → SeatData X
  looking index taken others = (Looking (is_second index) taken, (index_of (is_second index), None) ∷ others)

  -- each slot that a seat has is empty
  abbrev pub AreEmpty : List (ℕ × Option X) → Type 0
  AreEmpty slots = All (λ slot. slot.1 ≡ None) slots

  -- the writer's seat, once it has closed the place and emptied what it took
  pub record HasClosed (me : SeatData X) : Type 0 where
    pub view : me.0 ≡ Closed (known_of me.0)
    pub empty : AreEmpty me.1

  -- the writer's seat: before the place is closed, and then
  pub record IsWriterSeat (is_closed newest has_other : Bool) (me : SeatData X) : Type 0 where
    pub writes : is_closed ≡ false → me ≡ writing newest has_other (known_of me.0)
    pub closed : is_closed ≡ true → HasClosed me
    pub none : is_closed ≡ true → has_other ≡ false

  module _ (holds : Option X → Type 0) (follows : Option X → Option X → Type 0) where
    -- the rule is true of what the reader may take, and that follows what it saw last
    abbrev pub IsGood : Stage (Option X) → Type 0
    IsGood (fresh shown other) = holds shown
    IsGood (apart newest shown seen) = holds shown × follows seen shown
    IsGood (looked newest shown) = holds shown
    IsGood (behind newest shown other) = holds shown × follows other shown
    IsGood (leaving newest shown other seen) = holds shown × follows seen shown
    IsGood (back newest shown other seen) = holds shown × follows seen shown
    IsGood (ahead newest shown other) = holds shown
    IsGood (closed word shown reader) = IsClosedWord reader word

    abbrev pub Kept : PlaceData X → Type 0
    Kept state = (stage : Stage (Option X)) × IsGood stage × (state ≡ state_of stage)

    -- as long as a seat has this view, the word has the 8, so a look that begins takes nothing
    pub record RefusesLooks (view : Part (Option X)) : Type 0 where
      pub refuses : (id : ℕ) (state : PlaceData X) → Kept state → get_elem? state.views id ≡ home.some view → 8 ≤ slice_index state.words 16
