-- What is kept of a list that has the items of two is told by what is kept of each.
use Rattle.std.proofs.Common.{◌≡◌, ◌∙◌, ◌≤◌, ◌+◌, ℕ, Bool, true, List, [], ◌∷◌, ◌++◌, filter, length, None, Ok, refl}
use Rattle.std.proofs.Common.{sym, ap, arith}
use Rattle.std.proofs.lemmas.Grind.{common_steps}
use Rattle.std.proofs.lemmas.List.{length-append}
use Rattle.std.proofs.lemmas.List.Elements.{filter-append}
use Rattle.std.proofs.lemmas.List.Sums.{count_by-le-length, length-filter}
use Rattle.camel_criteria.specs.DetectionPoint.{is_among}
use Rattle.camel_rows.specs.TdpRow.{has_no_two, items_at, kept_of, kept_unless, list_refusal}
use Rattle.camel_map.proofs.Joined.Counts.{first_empty}
use Rattle.camel_map.proofs.Joined.Refusals.{few_taken, same_refusal, some-from_taken, unless_kept}
use Rattle.camel_map.proofs.Joined.Singles.{none_two, same_singles}

filter_again : {Item : Type 0} (test : Item → Bool) (items : List Item) → filter test (filter test items) ≡ filter test items
filter_again test [] = refl
filter_again test (item ∷ items) = let rest = filter_again test items in grind (arith, common_steps)

module _ {Item : Type 0} (dp_of : Item → ℕ) (points : List ℕ) (earlier later one other : List Item)
    (kept : kept_of points dp_of earlier ≡ Ok one) (kept_too : kept_of points dp_of later ≡ Ok other) where
  abbrev all : List Item
  all = earlier ++ later

  of_one : (list_refusal (length earlier) (has_no_two dp_of points earlier) ≡ None) × (one ≡ items_at dp_of points earlier)
  of_one = unless_kept _ (items_at dp_of points earlier) one kept

  of_other : (list_refusal (length later) (has_no_two dp_of points later) ≡ None) × (other ≡ items_at dp_of points later)
  of_other = unless_kept _ (items_at dp_of points later) other kept_too

  -- what is kept of both is kept of the whole
  both_kept : one ++ other ≡ items_at dp_of points all
  both_kept =
      rw (of_one.1, of_other.1) (sym (filter-append (λ item. is_among points (dp_of item)) earlier later))

  same_two : has_no_two dp_of points (one ++ other) ≡ has_no_two dp_of points all
  same_two = rw both_kept (same_singles dp_of points points all (λ dp is. is))

  -- of few items all of which are ignored, none is kept
  pub none_kept : length earlier + length later ≤ 10 → one ++ other ≡ [] → kept_of points dp_of all ≡ Ok one
  none_kept few none =
      let some : 1 ≤ length all = omega (arith, length-append earlier later, some-from_taken (length earlier) _ of_one.0) in
      let short : length all ≤ 10 = omega (arith, few, length-append earlier later) in
      let single : has_no_two dp_of points all ≡ true =
      sym same_two ∙ ap (has_no_two dp_of points) none ∙ none_two dp_of points in
      let taken : list_refusal (length all) (has_no_two dp_of points all) ≡ None =
      ap (list_refusal (length all)) single ∙ few_taken (length all) some short in
      let empty : one ≡ [] = first_empty one other none in
      ap (λ why. kept_unless why (items_at dp_of points all)) taken ∙ ap Ok (sym both_kept ∙ none ∙ sym empty)

  -- of few items some of which are kept, the same is kept as of those
  pub some_kept : length earlier + length later ≤ 10 → 1 ≤ length (one ++ other)
      → kept_of points dp_of all ≡ kept_of points dp_of (one ++ other)
  some_kept few some =
      let test = λ (item : Item). is_among points (dp_of item) in
      let fewer : length (one ++ other) ≤ length all = rw (both_kept, length-filter test all) (count_by-le-length test all) in
      let short : length all ≤ 10 = omega (arith, few, length-append earlier later) in
      let refusal : list_refusal (length all) (has_no_two dp_of points all)
      ≡ list_refusal (length (one ++ other)) (has_no_two dp_of points (one ++ other)) =
      same_refusal (length all) (length (one ++ other)) _ (omega (arith, some, fewer)) short some
      (omega (arith, fewer, short))
      ∙ ap (list_refusal (length (one ++ other))) (sym same_two) in
      let again : items_at dp_of points (one ++ other) ≡ items_at dp_of points all =
      ap (items_at dp_of points) both_kept ∙ filter_again test all in
      ap (λ why. kept_unless why (items_at dp_of points all)) refusal
      ∙ ap (kept_unless (list_refusal (length (one ++ other)) (has_no_two dp_of points (one ++ other)))) (sym again)
