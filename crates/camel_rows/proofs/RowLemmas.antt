-- Rows in the room of a CSI.
use Rattle.std.proofs.Common.{◌≡◌, ◌≤◌, ◌<◌, ◌+◌, ◌==◌, ℕ, zero, suc, Bool, true, false, List, [], ◌∷◌, length, take}
use Rattle.std.proofs.Common.{slice_get, count_by, Some, None, refl, arith, ◌∙◌, not, cond, ap}
use Rattle.std.proofs.lemmas.Bool.Decides.{nat_tests}
use Rattle.std.proofs.lemmas.Grind.{common_steps}
use Rattle.std.specs.List.{find, position_or_len}
use Rattle.camel_criteria.specs.DetectionPoint.{is_among}
use Rattle.camel_rows.specs.TdpRow.{has_no_two, items_at, list_refusal}

-- The rows that are kept are few enough for the room of a CSI.

module _ {Item : Type 0} (dp_of : Item → ℕ) where
  length-items_at : (point : ℕ) (points : List ℕ) (items : List Item)
      → length (items_at dp_of (point ∷ points) items) ≤ count_by (λ item. dp_of item == point) items + length (items_at dp_of points items)
  length-items_at point points [] = omega arith
  length-items_at point points (item ∷ items) = let rest = length-items_at point points items in grind (arith, common_steps, nat_tests)

  items_at-none : (items : List Item) → items_at dp_of [] items ≡ []
  items_at-none [] = refl
  items_at-none (item ∷ items) = items_at-none items

  -- one item of each detection point at most
  few_at : (points : List ℕ) (items : List Item) → has_no_two dp_of points items ≡ true → length (items_at dp_of points items) ≤ length points
  few_at [] items single = rw (items_at-none items) (omega arith)
  few_at (point ∷ points) items single =
      let step = length-items_at point points items in
      let rest = few_at points items in
      grind (arith, common_steps, nat_tests)

  single-from_taken : (count : ℕ) (single : Bool) → list_refusal count single ≡ None → single ≡ true
  single-from_taken count true taken = refl
  single-from_taken count false taken = grind (arith, common_steps, nat_tests)

  pub few-from_taken : (points : List ℕ) (items : List Item) → list_refusal (length items) (has_no_two dp_of points items) ≡ None
      → length (items_at dp_of points items) ≤ length points
  few-from_taken points items taken = few_at points items (single-from_taken (length items) _ taken)

  -- an item that is kept finds room among all that are
  pub room_left : (points : List ℕ) (items : List Item) (at : ℕ) (item : Item) → slice_get items at ≡ Some item → is_among points (dp_of item) ≡ true
      → length (items_at dp_of points (take at items)) < length (items_at dp_of points items)
  room_left points [] at item there kept = absurd (cc)
  room_left points (first ∷ items) zero item there kept = grind (arith, common_steps, nat_tests)
  room_left points (first ∷ items) (suc at) item there kept =
      let rest = room_left points items at item there kept in
      grind (arith, common_steps, nat_tests)

-- A row is found at its place in the room of a CSI, whatever fills the room behind the rows.

module _ {Row : Type 0} (is : Row → Bool) where
  pub found_at_place : (len : ℕ) (room : List Row) → slice_get (take len room) (position_or_len is room) ≡ find is (take len room)
  found_at_place zero room = refl
  found_at_place (suc len) [] = refl
  found_at_place (suc len) (row ∷ room) = first (is row) (found_at_place len room)
    where
      first : (b : Bool) → slice_get (take len room) (position_or_len is room) ≡ find is (take len room)
          → slice_get (row ∷ take len room) (cond (not b) (1 + position_or_len is room) 0) ≡ cond b (Some row) (find is (take len room))
      first true further = refl
      first false further =
          let next : 1 + position_or_len is room ≡ suc (position_or_len is room) = omega arith in ap (slice_get (row ∷ take len room)) next ∙ further
