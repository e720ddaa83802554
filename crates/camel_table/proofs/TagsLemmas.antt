-- What the tags of entries say of where an IMSI is, and what keeps them right.
use Rattle.std.proofs.Common.{◌≡◌, ◌∙◌, ◌≢◌, ℕ, zero, suc, ◌-◌, ◌<◌, ◌≤◌, true, false, not, List, [], ◌∷◌, ◌++◌, None, Some, inl, inr, length, position}
use Rattle.std.proofs.Common.{slice_index_or, slice_set, swap_remove, ◌==◌, true≢false, refl, sym, ap, arith}
use Rattle.std.specs.List.{position_or_len, prefix_len}
use Rattle.std.proofs.lemmas.Bool.{cases_eq, eq-eqb, le-ltb, lt-ltb, not-true}
use Rattle.std.proofs.lemmas.List.{get_or_append_left, get_or_push, get_or-set_other, get_or-set_same, get_or-take, length-append, length-map, length-set, length-take}
use Rattle.std.proofs.lemmas.List.Sums.{position_or_len_is, prefix_len-le-length, prefix_len_passes}
use Rattle.camel_table.specs.Buckets.{AreTagged, tag_of}
use Rattle.camel_table.specs.ByImsi.{is_same, keys_of}
use Rattle.camel_table.proofs.BucketLemmas.{Entries, same_are_equal}

module _ {V : Type 0} where
  -- the key of an entry
  key_at : (es : Entries V) (at : ℕ) (d : List ℕ × V) → at < length es → slice_index_or (keys_of es) at [] ≡ (slice_index_or es at d).0
  key_at [] at d lt = absurd (omega (arith, lt))
  key_at (e ∷ es) zero d lt = refl
  key_at (e ∷ es) (suc at) d lt = key_at es at d (omega (arith, lt))

  module _ (imsi tags : List ℕ) (es : Entries V) (tagged : AreTagged tags (keys_of es)) where
    abbrev first : ℕ
    first = prefix_len (λ other. not (other == tag_of imsi)) tags

    -- an entry with another tag is of another IMSI
    unlike : (at : ℕ) (d : List ℕ × V) → at < first → at < length es → is_same imsi (slice_index_or es at d).0 ≡ false
    unlike at d before inside =
        let key = (slice_index_or es at d).0 in
        let differs = not-true _ (prefix_len_passes (λ other. not (other == tag_of imsi)) tags at 0 before) in
        let in_tags : at < length tags = omega (arith, before, prefix_len-le-length (λ other. not (other == tag_of imsi)) tags) in
        let own = tagged at in_tags (omega (arith, inside, length-map es (λ e. e.0))) ∙ ap tag_of (key_at es at d inside) in
        elim (is_same imsi key) as (λ b. is_same imsi key ≡ b → b ≡ false) [
          | true ↦ λ same. absurd (true≢false (sym (eq-eqb _ _ (own ∙ ap tag_of (sym (same_are_equal imsi key same)))) ∙ differs))
          | false ↦ λ other. refl
        ] refl

    -- if no entry has the tag, none is of the IMSI
    pub absent : length es ≤ first → position (λ e. is_same imsi e.0) es ≡ None
    absent le = rw (le-ltb (position_or_len (λ e. is_same imsi e.0) es) (length es) (omega (arith, at_end es refl))) refl
      where
        at_end : (fs : Entries V) → es ≡ fs → length es ≤ position_or_len (λ e. is_same imsi e.0) es
        at_end [] is = rw is (omega arith)
        at_end (f ∷ fs) is =
            omega (
              arith,
              position_or_len_is (λ (e : List ℕ × V). is_same imsi e.0) es (length es) f (omega arith)
                  (λ k lt. unlike k f (omega (arith, lt, le)) lt) (λ lt. absurd (omega (arith, lt))),
            )

    -- the first entry with the tag, if it is of the IMSI
    pub present : {at : ℕ} → at ≡ first → at < length es → {e : List ℕ × V} → e ≡ slice_index_or es at e → is_same imsi e.0 ≡ true
        → position (λ e. is_same imsi e.0) es ≡ Some at
    present {at} is inside {e} own same =
        let found = position_or_len_is (λ (e : List ℕ × V). is_same imsi e.0) es at e (omega (arith, inside)) (λ k lt. unlike k e (omega (arith, is, lt)) (omega (arith, lt, inside)))
        (λ _. ap (λ (x : List ℕ × V). is_same imsi x.0) (sym own) ∙ same) in
        rw (lt-ltb (position_or_len (λ e. is_same imsi e.0) es) (length es) (omega (arith, found, inside))) (ap Some found)

-- tags of which one is written anew
retagged : (tags : List ℕ) (keys : List (List ℕ)) (at tag : ℕ) → (at < length keys → tag ≡ tag_of (slice_index_or keys at []))
    → ((k : ℕ) → k ≢ at → k < length tags → k < length keys → slice_index_or tags k 0 ≡ tag_of (slice_index_or keys k []))
    → AreTagged (slice_set tags at tag) keys
retagged tags keys at tag here others k in_tags in_keys =
    let inside : k < length tags = omega (arith, in_tags, length-set tags at tag) in
    elim (cases_eq k at) [
      | inl is ↦
          ap (λ j. slice_index_or (slice_set tags at tag) j 0) is ∙ get_or-set_same tags at tag 0 (omega (arith, is, inside))
          ∙ here (omega (arith, is, in_keys)) ∙ ap (λ j. tag_of (slice_index_or keys j [])) (sym is)
      | inr differ ↦ get_or-set_other tags at k tag 0 differ ∙ others k differ inside in_keys
    ]

-- the tag of an entry more
pub pushed_tag : (tags : List ℕ) (keys : List (List ℕ)) (key : List ℕ) → AreTagged tags keys → AreTagged (slice_set tags (length keys) (tag_of key)) (keys ++ key ∷ [])
pushed_tag tags keys key tagged =
    let long = length-append keys (key ∷ []) in
    retagged tags (keys ++ key ∷ []) (length keys) (tag_of key) (λ _. ap tag_of (sym (get_or_push keys key [] (length keys) refl)))
    (λ k differ in_tags in_keys.
    let before : k < length keys = omega (arith, differ, in_keys, long) in
    tagged k in_tags before ∙ ap tag_of (sym (get_or_append_left keys (key ∷ []) [] k before)))

module _ {V : Type 0} (es : Entries V) (at : ℕ) (x : List ℕ × V) where
  -- an entry that stays in its place
  stays : (k : ℕ) → k ≢ at → k < length (keys_of (swap_remove es at x))
      → (k < length es) × (slice_index_or (keys_of (swap_remove es at x)) k [] ≡ slice_index_or (keys_of es) k [])
  stays k differ lt =
      let last = slice_index_or es (length es - 1) x in
      let long = length-map (swap_remove es at x) (λ e. e.0) in
      let short = length-take (length es - 1) (slice_set es at last) in
      let within = length-set es at last in
      let inside : k < length es = omega (arith, lt, long, short, within) in
      let read = get_or-take (length es - 1) (slice_set es at last) k x (omega (arith, lt, long, short, within)) ∙ get_or-set_other es at k last x differ in
      (inside, key_at (swap_remove es at x) k x (omega (arith, lt, long)) ∙ ap (λ (e : List ℕ × V). e.0) read ∙ sym (key_at es k x inside))

  -- the tags after an entry is taken out, if the last one has come into its place, or if it was the last one
  pub moved_tag : (tags : List ℕ) → AreTagged tags (keys_of es) → {e : List ℕ × V} → at < length (swap_remove es at x) → e ≡ slice_index_or (swap_remove es at x) at e
      → AreTagged (slice_set tags at (tag_of e.0)) (keys_of (swap_remove es at x))
  moved_tag tags tagged {e} inside own =
      retagged tags (keys_of (swap_remove es at x)) at (tag_of e.0)
      (λ _. ap (λ (f : List ℕ × V). tag_of f.0) own ∙ ap tag_of (sym (key_at (swap_remove es at x) at e inside)))
      (λ k differ in_tags in_keys.
      let there = stays k differ in_keys in
      tagged k in_tags (omega (arith, there.0, length-map es (λ e. e.0))) ∙ ap tag_of (sym there.1))

  pub left_tags : (tags : List ℕ) → AreTagged tags (keys_of es) → length (swap_remove es at x) ≤ at → AreTagged tags (keys_of (swap_remove es at x))
  left_tags tags tagged le k in_tags in_keys =
      let there = stays k (λ is. absurd (omega (arith, is, in_keys, length-map (swap_remove es at x) (λ e. e.0), le))) in_keys in
      tagged k in_tags (omega (arith, there.0, length-map es (λ e. e.0))) ∙ ap tag_of (sym there.1)
