-- Places: which of them are held, what a change of one leaves, and their end.
use Rattle.std.proofs.Common.{◌≡◌, Bool, ◌∙◌, ℕ, ◌+◌, ◌*◌, ◌^◌, ◌-◌, ◌<◌, ◌≤◌, true, false, not, List, [], ◌∷◌, ap}
use Rattle.std.proofs.Common.{refl, arith, All, drop, length, length-drop, set, Err, IfOk, None, Ok, OnErr, Some, inl}
use Rattle.std.proofs.Common.{inr, map, option_map, slice_index_or, subst, sym}
use Rattle.std.proofs.Math.Nat.{ℕ_set, pow-le-pow_right, pow-succ'}
use Rattle.std.specs.Arc.{arc_value}
use mathlib.Core.List.{is_set}
use mathlib.Core.Sum.{⊎_set}
use mathlib.Core.HLevel.{is_prop→PathP}
use base.Stored.{Coded, Coded-set}
use Rattle.std.specs.declared.alloc.Global.{Global}
use Rattle.std.specs.declared.sync.Arc.{Arc}
use Rattle.std.proofs.lemmas.List.{drop-set, length-map, map-append, map-set, set-get_or}
use Rattle.std.proofs.lemmas.List.Elements.{All-cons, All-head, All-nil, All-tail, All-append, All-set}
use Rattle.std.specs.declared.option.Option.{Option}
use Rattle.std.specs.declared.result.Result.{Result}
use Rattle.atomic_table.specs.Seated.{table_id_coded, TableId}
use Rattle.two_copies.specs.Place.{IsWriterSeat, SeatData, number}
use Rattle.two_copies.specs.Slot.{IsSeated, value_in}
use Rattle.two_copies.specs.declared.place.writer_end.WriterEnd.{WriterEnd}
use Rattle.two_copies.specs.WriterEnd.{IsFreeAt, held_in, IsOneMore, IsPut, ShowsAt, place_at, slot_at}

-- An end that is made anew of what it was.

seat_prop : {T : Type 0} → Coded T → (is_closed newest has_other : Bool) (me : SeatData (Arc T Global)) → IsProp (IsWriterSeat is_closed newest has_other me)
seat_prop coded is_closed newest has_other me = hlevel (ℕ_set, ⊎_set, is_set, Coded-set coded)

module _ {T F : Type 0} where
  pub same_end : Coded T → (end : WriterEnd T F) (board : _) (same : board ≡ end.board)
      (seated : IsSeated end.seat.table_id (arc_value board).shared.table_id)
      (writes : IsWriterSeat end.is_closed end.newest end.has_other end.seat.me)
      → record {
        board = board;
        seat = end.seat;
        newest = end.newest;
        has_other = end.has_other;
        next = end.next;
        is_closed = end.is_closed;
        seated = seated;
        writes = writes;
      } ≡ end
  same_end coded end board same seated writes = λ i. record {
    board = same i;
    seat = end.seat;
    newest = end.newest;
    has_other = end.has_other;
    next = end.next;
    is_closed = end.is_closed;
    seated = is_prop→PathP (λ j. IsSeated end.seat.table_id (arc_value (same j)).shared.table_id)
        (λ j. hlevel (ℕ_set, Coded-set table_id_coded)) seated end.seated i;
    writes = seat_prop coded end.is_closed end.newest end.has_other end.seat.me writes end.writes i;
  }

-- The places that are held, as the bits of a number.

pub number_small : (b : Bool) → number b ≤ 1
number_small false = omega arith
number_small true = omega arith

free_by_number : (b : Bool) → number (not b) ≡ 0 → b ≡ true
free_by_number false is = absurd (omega (arith, is))
free_by_number true is = refl

module _ {T F : Type 0} where
  held_below : (ends : List (WriterEnd T F)) → held_in ends < 2 ^ length ends
  held_below [] = omega arith
  held_below (end ∷ ends) =
      let double : 2 ^ length (end ∷ ends) ≡ 2 * 2 ^ length ends = pow-succ' 2 (length ends) in
      omega (arith, double, held_below ends, number_small (not end.has_other))

  -- behind the first of at most 64 places there is room for one bit more
  pub has_room : (places : List (WriterEnd T F)) (place : ℕ) → length places ≤ 64 → 0 < place → place ≤ length places
      → held_in (drop place places) * 2 + 1 < 2 ^ 64
  has_room places place most some within =
      let count : length (drop place places) ≤ 63 = omega (arith, length-drop place places, most, some, within) in
      let below : 2 ^ length (drop place places) ≤ 2 ^ 63 = pow-le-pow_right {n = 2} (omega arith) count in
      omega (arith, held_below (drop place places), below)

  -- the bit of the place before these goes below theirs
  pub held_with : (places : List (WriterEnd T F)) (place : ℕ) (end : WriterEnd T F) → 0 < place → place ≤ length places
      → held_in (drop (place - 1) (set places (place - 1) end)) ≡ number (not end.has_other) + 2 * held_in (drop place places)
  held_with places place end some within =
      ap held_in (drop-set places (place - 1) end (omega (arith, some, within)))
      ∙ ap (λ n. number (not end.has_other) + 2 * held_in (drop n places)) (let back : place - 1 + 1 ≡ place = omega (arith, some) in back)

  pub none_if_free : (ends : List (WriterEnd T F)) → All IsFreeAt ends → held_in ends ≡ 0
  none_if_free [] free = refl
  none_if_free (end ∷ ends) free = rw (All-head IsFreeAt end ends free, none_if_free ends (All-tail IsFreeAt end ends free)) refl

  pub free_if_none : (ends : List (WriterEnd T F)) → held_in ends ≡ 0 → All IsFreeAt ends
  free_if_none [] none = All-nil IsFreeAt
  free_if_none (end ∷ ends) none =
      All-cons IsFreeAt end ends (free_by_number end.has_other (omega (arith, none))) (free_if_none ends (omega (arith, none)))

-- Places of which one is changed, and places to which one is put.

module _ {T F : Type 0} where
  pub all_show : (shown : T) (places : List (WriterEnd T F)) (place : ℕ) (old new : WriterEnd T F) → slot_at new ≡ slot_at old
      → ShowsAt shown old → All (ShowsAt shown) places → All (ShowsAt shown) (set places place new)
  all_show shown places place old new same here all = All-set (ShowsAt shown) places place new (ap value_in same ∙ here) all

  pub same_places : (places : List (WriterEnd T F)) (place : ℕ) (old new : WriterEnd T F) → place_at new ≡ place_at old
      → old ≡ slice_index_or places place old → map place_at (set places place new) ≡ map place_at places
  same_places places place old new same here =
      map-set place_at places place new ∙ ap (set (map place_at places) place) (same ∙ ap place_at here)
      ∙ sym (map-set place_at places place (slice_index_or places place old)) ∙ ap (map place_at) (set-get_or places place old)

  pub one_more : (left : Option TableId) (end : WriterEnd T F) (before after : List (WriterEnd T F)) → IsPut left end before after
      → IsOneMore (place_at end) (map place_at before) (map place_at after)
  one_more None end before after is = inl (ap (map place_at) is ∙ map-append place_at before (end ∷ []))
  one_more (Some table) end before after is =
      inr (is.0, subst (λ n. is.0 < n) (sym (length-map before place_at)) is.1, ap (map place_at) is.3 ∙ map-set place_at before is.0 end)

  all_shown : (shown : T) (left : Option TableId) (end : WriterEnd T F) (before after : List (WriterEnd T F)) → IsPut left end before after
      → ShowsAt shown end → All (ShowsAt shown) before → All (ShowsAt shown) after
  all_shown shown None end before after is here all =
      subst (All (ShowsAt shown)) (sym is)
      (All-append (ShowsAt shown) before (end ∷ []) all (All-cons (ShowsAt shown) end [] here (All-nil (ShowsAt shown))))
  all_shown shown (Some table) end before after is here all =
      subst (All (ShowsAt shown)) (sym is.3) (All-set (ShowsAt shown) before is.0 end here all)

  -- whether or not the place was put
  pub put_shows : {B E : Type 0} (shown : T) (table : B → TableId) (result : Result (Option B) E) (end : WriterEnd T F) (before after : List (WriterEnd T F))
      → IfOk result (λ left. IsPut (option_map table left) end before after) → OnErr result (after ≡ before)
      → ShowsAt shown end → All (ShowsAt shown) before → All (ShowsAt shown) after
  put_shows shown table (Ok left) end before after put same here all = all_shown shown (option_map table left) end before after put here all
  put_shows shown table (Err why) end before after put same here all = subst (All (ShowsAt shown)) (sym same) all
