-- Items of one detection point, among those that are kept and among all.
use Rattle.std.proofs.Common.{◌≡◌, ◌==◌, ℕ, true, false, List, [], ◌∷◌, count_by, refl, arith}
use Rattle.std.proofs.lemmas.Bool.Decides.{nat_tests}
use Rattle.std.proofs.lemmas.Grind.{common_steps}
use Rattle.camel_criteria.specs.DetectionPoint.{is_among}
use Rattle.camel_rows.specs.TdpRow.{has_no_two, items_at}

here : (point : ℕ) (points : List ℕ) → is_among (point ∷ points) point ≡ true
here point points = grind (arith, common_steps, nat_tests)

behind : (point : ℕ) (points : List ℕ) (dp : ℕ) → is_among points dp ≡ true → is_among (point ∷ points) dp ≡ true
behind point points dp is = grind (arith, common_steps, nat_tests)

other_point : (points : List ℕ) (dp point : ℕ) → is_among points point ≡ true → is_among points dp ≡ false
    → (dp == point) ≡ false
other_point points dp point is not = grind (arith, common_steps, nat_tests)

module _ {Item : Type 0} (dp_of : Item → ℕ) where
  same_count : (points : List ℕ) (point : ℕ) (items : List Item) → is_among points point ≡ true
      → count_by (λ item. dp_of item == point) (items_at dp_of points items)
      ≡ count_by (λ item. dp_of item == point) items
  same_count points point [] is = refl
  same_count points point (item ∷ items) is =
      let rest = same_count points point items is in
      let other = other_point points (dp_of item) point is in
      grind (arith, common_steps, nat_tests)

  -- of the items of detection points there are two of one, if there are among all
  pub same_singles : (points some : List ℕ) (items : List Item)
      → ((dp : ℕ) → is_among some dp ≡ true → is_among points dp ≡ true)
      → has_no_two dp_of some (items_at dp_of points items) ≡ has_no_two dp_of some items
  same_singles points [] items within = refl
  same_singles points (point ∷ some) items within =
      let count = same_count points point items (within point (here point some)) in
      let rest = same_singles points some items (λ dp is. within dp (behind point some dp is)) in
      rw (count, rest) refl

  pub none_two : (points : List ℕ) → has_no_two dp_of points [] ≡ true
  none_two [] = refl
  none_two (point ∷ points) = none_two points
