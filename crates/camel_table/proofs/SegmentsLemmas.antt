-- An item of a list in segments is found by the number of its segment and its place there.
use Rattle.std.proofs.Common.{◌≡◌, ◌∙◌, ℕ, zero, suc, ◌+◌, ◌*◌, ◌/◌, ◌%◌, ◌-◌, ◌<◌, ◌≤◌, List, [], ◌∷◌, ◌++◌, length}
use Rattle.std.proofs.Common.{slice_index_or, slice_set, refl, sym, ap, subst, arith, length-append}
use Rattle.std.specs.Global.{Vec}
use Rattle.std.proofs.lemmas.List.{append-nil, append_assoc, get_or_append_left, get_or-append_right, length-set, set-append_left, set-append_right}
use Rattle.std.proofs.lemmas.Nat.{div-add-mod'}
use Rattle.std.proofs.Math.Nat.{mod-lt}
use Rattle.camel_table.specs.Buckets.{AreFull, HasRoom, joined}

module _ {A : Type 0} where
  -- the list goes on at a place of a segment
  abbrev IsPlace : List (Vec A) → ℕ → ℕ → Type 0
  IsPlace segments number place = number * 128 + place < length (joined segments)

  rest_full : (first : Vec A) (rest : List (Vec A)) → AreFull (first ∷ rest) → AreFull rest
  rest_full first [] full = tt
  rest_full first (next ∷ rest) full = full.1

  -- a segment that others follow is full
  before_others : (first : Vec A) (rest : List (Vec A)) (number place : ℕ) → AreFull (first ∷ rest) → IsPlace (first ∷ rest) (suc number) place
      → length first.items ≡ 128
  before_others first [] number place full inside =
      let none : length (first.items ++ []) ≡ length first.items = ap length (append-nil first.items) in
      absurd (omega (arith, full, inside, none))
  before_others first (next ∷ rest) number place full inside = full.0

  in_rest : (first : Vec A) (rest : List (Vec A)) (number place : ℕ) → AreFull (first ∷ rest) → IsPlace (first ∷ rest) (suc number) place
      → IsPlace rest number place
  in_rest first rest number place full inside =
      let whole = before_others first rest number place full inside in
      let both : length (first.items ++ joined rest) ≡ length first.items + length (joined rest) = length-append first.items (joined rest) in
      omega (arith, inside, whole, both)

  -- a place of the first segment lies in it
  in_first : (first : Vec A) (rest : List (Vec A)) (place : ℕ) → AreFull (first ∷ rest) → place < 128 → IsPlace (first ∷ rest) 0 place
      → place < length first.items
  in_first first [] place full small inside =
      let none : length (first.items ++ []) ≡ length first.items = ap length (append-nil first.items) in
      omega (arith, inside, none)
  in_first first (next ∷ rest) place full small inside =
      let whole = full.0 in
      omega (arith, small, whole)

  pub segment_inside : (segments : List (Vec A)) (number place : ℕ) → AreFull segments → IsPlace segments number place → number < length segments
  segment_inside [] number place full inside = absurd (omega (arith, inside))
  segment_inside (first ∷ rest) zero place full inside = omega arith
  segment_inside (first ∷ rest) (suc number) place full inside =
      let deeper = segment_inside rest number place (rest_full first rest full) (in_rest first rest number place full inside) in
      omega (arith, deeper)

  pub bucket_inside : (segments : List (Vec A)) (number place : ℕ) (d : Vec A) → AreFull segments → place < 128 → IsPlace segments number place
      → place < length (slice_index_or segments number d).items
  bucket_inside [] number place d full small inside = absurd (omega (arith, inside))
  bucket_inside (first ∷ rest) zero place d full small inside = in_first first rest place full small inside
  bucket_inside (first ∷ rest) (suc number) place d full small inside =
      bucket_inside rest number place d (rest_full first rest full) small (in_rest first rest number place full inside)

  pub item_at : (segments : List (Vec A)) (number place : ℕ) (d : Vec A) (x : A) → AreFull segments → place < 128 → IsPlace segments number place
      → slice_index_or (joined segments) (number * 128 + place) x ≡ slice_index_or (slice_index_or segments number d).items place x
  item_at [] number place d x full small inside = absurd (omega (arith, inside))
  item_at (first ∷ rest) zero place d x full small inside =
      ap (λ n. slice_index_or (first.items ++ joined rest) n x) (omega arith)
      ∙ get_or_append_left first.items (joined rest) x place (in_first first rest place full small inside)
  item_at (first ∷ rest) (suc number) place d x full small inside =
      get_or-append_right first.items (joined rest) 128 (suc number * 128 + place) x (before_others first rest number place full inside) (omega arith)
      ∙ ap (λ n. slice_index_or (joined rest) n x) (omega arith)
      ∙ item_at rest number place d x (rest_full first rest full) small (in_rest first rest number place full inside)

  pub item_set : (segments : List (Vec A)) (number place : ℕ) (d new : Vec A) (x : A) → AreFull segments → place < 128 → IsPlace segments number place
      → new.items ≡ slice_set (slice_index_or segments number d).items place x
      → joined (slice_set segments number new) ≡ slice_set (joined segments) (number * 128 + place) x
  item_set [] number place d new x full small inside is = absurd (omega (arith, inside))
  item_set (first ∷ rest) zero place d new x full small inside is =
      ap (λ items. items ++ joined rest) is
      ∙ sym (set-append_left first.items (joined rest) place x (in_first first rest place full small inside))
      ∙ ap (λ n. slice_set (first.items ++ joined rest) n x) (omega arith)
  item_set (first ∷ rest) (suc number) place d new x full small inside is =
      ap (λ items. first.items ++ items) (item_set rest number place d new x (rest_full first rest full) small (in_rest first rest number place full inside) is)
      ∙ ap (λ n. first.items ++ slice_set (joined rest) n x) (omega arith)
      ∙ sym (set-append_right first.items (joined rest) 128 (suc number * 128 + place) x (before_others first rest number place full inside) (omega arith))

  -- segments stay full if one has as many items as before
  pub full_after : (segments : List (Vec A)) (number : ℕ) (d new : Vec A) → AreFull segments
      → length new.items ≡ length (slice_index_or segments number d).items
      → AreFull (slice_set segments number new)
  full_after [] number d new full same = tt
  full_after (last ∷ []) zero d new full same = omega (arith, full, same)
  full_after (last ∷ []) (suc number) d new full same = full
  full_after (first ∷ next ∷ rest) zero d new full same = (same ∙ full.0, full.1)
  full_after (first ∷ next ∷ rest) (suc zero) d new full same = (full.0, full_after (next ∷ rest) zero d new full.1 same)
  full_after (first ∷ next ∷ rest) (suc (suc number)) d new full same = (full.0, full_after (next ∷ rest) (suc number) d new full.1 same)

  -- a place by its number from the first segment on
  module _ (segments : List (Vec A)) (full : AreFull segments) (at : ℕ) {list : List A} (view : joined segments ≡ list) (bound : at < length list) where
    parts : at / 128 * 128 + at % 128 ≡ at
    parts = div-add-mod' at 128

    small : at % 128 < 128
    small = mod-lt at (omega arith)

    within : IsPlace segments (at / 128) (at % 128)
    within = rw parts (rw view bound)

    pub its_number : at / 128 < length segments
    its_number = segment_inside segments (at / 128) (at % 128) full within

    module _ {own : Vec A} (is : own ≡ slice_index_or segments (at / 128) own) where
      pub its_place : at % 128 < length own.items
      its_place = subst (λ (v : Vec A). at % 128 < length v.items) (sym is) (bucket_inside segments (at / 128) (at % 128) own full small within)

      pub its_item : (x : A) → slice_index_or own.items (at % 128) x ≡ slice_index_or list at x
      its_item x =
          ap (λ (v : Vec A). slice_index_or v.items (at % 128) x) is
          ∙ sym (item_at segments (at / 128) (at % 128) own x full small within)
          ∙ ap (λ n. slice_index_or (joined segments) n x) parts ∙ ap (λ l. slice_index_or l at x) view

      module _ (new : Vec A) (x : A) (set : new.items ≡ slice_set own.items (at % 128) x) where
        pub its_set : joined (slice_set segments (at / 128) new) ≡ slice_set list at x
        its_set =
            item_set segments (at / 128) (at % 128) own new x full small within (set ∙ ap (λ (v : Vec A). slice_set v.items (at % 128) x) is)
            ∙ ap (λ n. slice_set (joined segments) n x) parts ∙ ap (λ l. slice_set l at x) view

        pub full_set : AreFull (slice_set segments (at / 128) new)
        full_set = full_after segments (at / 128) own new full (ap length set ∙ length-set own.items (at % 128) x ∙ ap (λ (v : Vec A). length v.items) is)

        pub same_length : length (joined segments) ≡ length (joined (slice_set segments (at / 128) new))
        same_length = ap length view ∙ sym (ap length its_set ∙ length-set list at x)

  -- a segment more
  pub joined_more : (segments : List (Vec A)) (new : Vec A) → new.items ≡ [] → joined (segments ++ new ∷ []) ≡ joined segments
  joined_more [] new none = ap (λ items. items ++ []) none
  joined_more (first ∷ rest) new none = ap (λ items. first.items ++ items) (joined_more rest new none)

  pub room_more : (segments : List (Vec A)) (new : Vec A) → new.items ≡ [] → HasRoom (segments ++ new ∷ [])
  room_more [] new none = subst (λ items. length items < 128) (sym none) (omega arith)
  room_more (first ∷ []) new none = subst (λ items. length items < 128) (sym none) (omega arith)
  room_more (first ∷ next ∷ rest) new none = room_more (next ∷ rest) new none

  -- the length of the last segment, or that of a full one if there is none
  abbrev pub last_length : List (Vec A) → ℕ
  last_length [] = 128
  last_length (last ∷ []) = length last.items
  last_length (first ∷ next ∷ rest) = last_length (next ∷ rest)

  pub full_more : (segments : List (Vec A)) (new : Vec A) → new.items ≡ [] → AreFull segments → 128 ≤ last_length segments → AreFull (segments ++ new ∷ [])
  full_more [] new none full whole = subst (λ items. length items ≤ 128) (sym none) (omega arith)
  full_more (last ∷ []) new none full whole = (omega (arith, full, whole), subst (λ items. length items ≤ 128) (sym none) (omega arith))
  full_more (first ∷ next ∷ rest) new none full whole = (full.0, full_more (next ∷ rest) new none full.1 whole)

  pub room_by_length : (segments : List (Vec A)) → last_length segments < 128 → HasRoom segments
  room_by_length [] few = omega (arith, few)
  room_by_length (last ∷ []) few = few
  room_by_length (first ∷ next ∷ rest) few = room_by_length (next ∷ rest) few

  pub last_length_is : (segments : List (Vec A)) (d : Vec A) → 0 < length segments
      → length (slice_index_or segments (length segments - 1) d).items ≡ last_length segments
  last_length_is [] d some = absurd (omega (arith, some))
  last_length_is (last ∷ []) d some = refl
  last_length_is (first ∷ next ∷ rest) d some =
      let before : length (first ∷ next ∷ rest) - 1 ≡ suc (length (next ∷ rest) - 1) = omega arith in
      ap (λ n. length (slice_index_or (first ∷ next ∷ rest) n d).items) before ∙ last_length_is (next ∷ rest) d (omega arith)

  pub last_measured : (segments : List (Vec A)) {count : ℕ} → count ≡ length segments → 0 < count → {last : Vec A}
      → last ≡ slice_index_or segments (count - 1) last
      → length last.items ≡ last_length segments
  last_measured segments is some {last} own =
      ap (λ (v : Vec A). length v.items) (own ∙ ap (λ n. slice_index_or segments (n - 1) last) is) ∙ last_length_is segments last (subst (λ n. 0 < n) is some)

  pub none_measured : (segments : List (Vec A)) → length segments ≤ 0 → last_length segments ≡ 128
  none_measured [] none = refl
  none_measured (first ∷ rest) none = absurd (omega (arith, none))

  -- an item more in the last segment
  pub some_segment : (segments : List (Vec A)) → HasRoom segments → 0 < length segments
  some_segment [] room = absurd room
  some_segment (first ∷ rest) room = omega arith

  pub length_of_room : (segments : List (Vec A)) → HasRoom segments → last_length segments < 128
  length_of_room [] room = absurd room
  length_of_room (last ∷ []) room = room
  length_of_room (first ∷ next ∷ rest) room = length_of_room (next ∷ rest) room

  pub joined_last : (segments : List (Vec A)) (new d : Vec A) (added : List A) → 0 < length segments
      → new.items ≡ (slice_index_or segments (length segments - 1) d).items ++ added
      → joined (slice_set segments (length segments - 1) new) ≡ joined segments ++ added
  joined_last [] new d added some is = absurd (omega (arith, some))
  joined_last (last ∷ []) new d added some is =
      append-nil new.items ∙ is ∙ ap (λ items. items ++ added) (sym (append-nil last.items))
  joined_last (first ∷ next ∷ rest) new d added some is =
      let before : length (first ∷ next ∷ rest) - 1 ≡ suc (length (next ∷ rest) - 1) = omega arith in
      ap (λ n. joined (slice_set (first ∷ next ∷ rest) n new)) before
      ∙ ap (λ items. first.items ++ items)
      (joined_last (next ∷ rest) new d added (omega arith) (is ∙ ap (λ n. (slice_index_or (first ∷ next ∷ rest) n d).items ++ added) before))
      ∙ sym (append_assoc first.items (joined (next ∷ rest)) added)

  pub full_last : (segments : List (Vec A)) (new : Vec A) → AreFull segments → 0 < length segments → length new.items ≤ 128
      → AreFull (slice_set segments (length segments - 1) new)
  full_last [] new full some few = tt
  full_last (last ∷ []) new full some few = few
  full_last (first ∷ next ∷ []) new full some few = (full.0, few)
  full_last (first ∷ next ∷ third ∷ rest) new full some few =
      let before : length (first ∷ next ∷ third ∷ rest) - 1 ≡ suc (length (next ∷ third ∷ rest) - 1) = omega arith in
      let inner : length (next ∷ third ∷ rest) - 1 ≡ suc (length (third ∷ rest) - 1) = omega arith in
      let deeper = full_last (next ∷ third ∷ rest) new full.1 (omega arith) few in
      subst (λ n. AreFull (slice_set (first ∷ next ∷ third ∷ rest) n new)) (sym (before ∙ ap suc inner))
      (full.0, subst (λ n. AreFull (slice_set (next ∷ third ∷ rest) n new)) inner deeper)

  -- the last segment with what a push has made of it
  module _ (segments : List (Vec A)) (room : HasRoom segments) {count : ℕ} (is : count ≡ length segments) {last : Vec A}
      (own : last ≡ slice_index_or segments (count - 1) last) where
    last_is : last ≡ slice_index_or segments (length segments - 1) last
    last_is = own ∙ ap (λ n. slice_index_or segments (n - 1) last) is

    pub pushed_last : (new : Vec A) (added : List A) → new.items ≡ last.items ++ added → joined (slice_set segments (count - 1) new) ≡ joined segments ++ added
    pushed_last new added h =
        ap (λ n. joined (slice_set segments (n - 1) new)) is
        ∙ joined_last segments new last added (some_segment segments room) (h ∙ ap (λ (v : Vec A). v.items ++ added) last_is)

    pub full_pushed : (new : Vec A) → AreFull segments → length new.items ≤ length last.items + 1 → AreFull (slice_set segments (count - 1) new)
    full_pushed new full more =
        let some = some_segment segments room in
        let few = length_of_room segments room in
        let old : length last.items ≡ last_length segments = ap (λ (v : Vec A). length v.items) last_is ∙ last_length_is segments last some in
        subst (λ n. AreFull (slice_set segments (n - 1) new)) (sym is) (full_last segments new full some (omega (arith, more, few, old)))
