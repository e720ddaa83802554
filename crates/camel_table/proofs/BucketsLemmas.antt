-- The map of the buckets of a table: an IMSI is found in the bucket of its place, and a bucket more changes nothing.
use Rattle.std.proofs.Common.{◌≡◌, ◌∙◌, ℕ, zero, suc, ◌+◌, ◌<◌, ◌==◌, Bool, true, false, not, cond, T, List, [], ◌∷◌, ◌++◌, Option, Some, None, IsSome, length}
use Rattle.std.proofs.Common.{slice_index_or, slice_set, inl, inr, refl, sym, ap, ap₂, subst, arith}
use Rattle.std.specs.Cmp.Lexicographic.{slice_cmp, nat_list_cmp_total}
use Rattle.std.specs.FinMap.{empty, entries, get, get-empty, get-entries, get-from_entries, get-retain_keys, len-empty, len-entries, retain_keys, same_map}
use Rattle.std.specs.List.{flat_map, sum_by}
use Rattle.std.specs.Option.{is_some, option_or}
use Rattle.std.specs.Ordering.{nat_cmp}
use Rattle.std.proofs.lemmas.Bool.{eq-eqb, false_from_ne_true, ne_eqb}
use Rattle.std.proofs.lemmas.Bool.Decides.{eqb_tells}
use Rattle.std.proofs.Math.Nat.{zero-add}
use Rattle.std.proofs.lemmas.List.Sums.{sum_by-cons}
use Rattle.std.proofs.lemmas.List.{get_or-set_other, get_or-set_same, length-set}
use Rattle.std.proofs.lemmas.Map.Lookups.{exact_bytes}
use Rattle.camel_table.specs.ByImsi.{ByImsi, is_same, map_of, times_stored}
use Rattle.camel_table.specs.Buckets.{ArePlaced, table_map}
use Rattle.camel_table.proofs.AddressingLemmas.{Moves}
use Rattle.camel_table.proofs.BucketLemmas.{Entries, found, found-append, same_are_equal}

no_value : {V : Type 0} (o : Option V) → (IsSome o → ⊥) → o ≡ None
no_value None none = refl
no_value (Some value) none = absurd (none refl)

pub none_listed : {A : Type 0} (es : List A) → length es ≡ 0 → es ≡ []
none_listed [] none = refl
none_listed (e ∷ es) none = absurd (omega (arith, none))

-- of numbers that are 0 but for one, the sum is that one
in_none : {A : Type 0} (f : A → ℕ) (d : A) (xs : List A) → ((i : ℕ) → f (slice_index_or xs i d) ≡ 0) → sum_by f xs ≡ 0
in_none f d [] none = refl
in_none f d (x ∷ xs) none = sum_by-cons f x xs ∙ ap₂ ◌+◌ (none 0) (in_none f d xs (λ i. none (suc i)))

in_one : {A : Type 0} (f : A → ℕ) (d : A) (n : ℕ) (xs : List A) → ((i : ℕ) → (i ≡ n → ⊥) → f (slice_index_or xs i d) ≡ 0) → f d ≡ 0
    → sum_by f xs ≡ f (slice_index_or xs n d)
in_one f d n [] others none = sym none
in_one f d zero (x ∷ xs) others none =
    sum_by-cons f x xs ∙ ap (λ m. f x + m) (in_none f d xs (λ i. others (suc i) (λ e. omega (arith, e)))) ∙ omega arith
in_one f d (suc n) (x ∷ xs) others none =
    sum_by-cons f x xs ∙ ap₂ ◌+◌ (others 0 (λ e. omega (arith, e))) (in_one f d n xs (λ i other. others (suc i) (λ e. other (omega (arith, e)))) none) ∙ zero-add _

module _ {V : Type 0} where
  found-before : (q : List ℕ) (es fs : Entries V) → found q fs ≡ None → found q (es ++ fs) ≡ found q es
  found-before q [] fs none = none
  found-before q (e ∷ es) fs none = ap (cond (is_same q e.0) (Some e.1)) (found-before q es fs none)

  found-after : (q : List ℕ) (es fs : Entries V) → found q es ≡ None → found q (es ++ fs) ≡ found q fs
  found-after q es fs none = found-append q es fs ∙ ap (λ o. option_or o (found q fs)) none

  -- the bucket of a number
  abbrev pub bucket_at : List (ByImsi V) → ℕ → ByImsi V
  bucket_at buckets at = slice_index_or buckets at empty

  -- no bucket but this one has the IMSI
  abbrev IsAlone : List ℕ → ℕ → List (ByImsi V) → Type 0
  IsAlone q n buckets = (at : ℕ) → (at ≡ n → ⊥) → get (bucket_at buckets at) q ≡ None

  in_no_bucket : (q : List ℕ) (buckets : List (ByImsi V)) → ((at : ℕ) → get (bucket_at buckets at) q ≡ None) → found q (flat_map entries buckets) ≡ None
  in_no_bucket q [] none = refl
  in_no_bucket q (bucket ∷ buckets) none =
      found-after q (entries bucket) (flat_map entries buckets) (sym (get-entries bucket q) ∙ none 0) ∙ in_no_bucket q buckets (λ at. none (suc at))

  in_its_bucket : (q : List ℕ) (n : ℕ) (buckets : List (ByImsi V)) → IsAlone q n buckets → found q (flat_map entries buckets) ≡ get (bucket_at buckets n) q
  in_its_bucket q n [] alone = sym (get-empty (slice_cmp nat_cmp) q)
  in_its_bucket q zero (bucket ∷ buckets) alone =
      found-before q (entries bucket) (flat_map entries buckets) (in_no_bucket q buckets (λ at. alone (suc at) (λ e. omega (arith, e)))) ∙ sym (get-entries bucket q)
  in_its_bucket q (suc n) (bucket ∷ buckets) alone =
      found-after q (entries bucket) (flat_map entries buckets) (sym (get-entries bucket q) ∙ alone 0 (λ e. omega (arith, e)))
      ∙ in_its_bucket q n buckets (λ at other. alone (suc at) (λ e. other (omega (arith, e))))

  module _ (place : List ℕ → ℕ) where
    alone : (buckets : List (ByImsi V)) → ArePlaced place buckets → (q : List ℕ) → IsAlone q (place q) buckets
    alone buckets placed q at other = no_value _ (λ some. other (sym (placed at q some)))

    pub get-table : (buckets : List (ByImsi V)) → ArePlaced place buckets → (q : List ℕ) → get (table_map buckets) q ≡ get (bucket_at buckets (place q)) q
    get-table buckets placed q = get-from_entries nat_list_cmp_total (flat_map entries buckets) q ∙ in_its_bucket q (place q) buckets (alone buckets placed q)

    -- how often the buckets have an IMSI
    pub stored_in_all : (buckets : List (ByImsi V)) → ArePlaced place buckets → (q : List ℕ) → sum_by (times_stored q) buckets ≡ times_stored q (table_map buckets)
    stored_in_all buckets placed q =
        in_one (times_stored q) empty (place q) buckets (λ at other. ap once (alone buckets placed q at other)) (ap once (get-empty (slice_cmp nat_cmp) q))
        ∙ ap once (sym (get-table buckets placed q))
      where
        once : Option V → ℕ
        once o = cond (is_some o) 1 0

    -- a bucket that changes at one IMSI of its own
    module _ (buckets : List (ByImsi V)) (placed : ArePlaced place buckets) (key : List ℕ) (inside : place key < length buckets) (new : ByImsi V)
        (value : Option V)
        (differs : (q : List ℕ) → get new q ≡ cond (is_same q key) value (get (bucket_at buckets (place key)) q)) where
      abbrev after : List (ByImsi V)
      after = slice_set buckets (place key) new

      changed : (at : ℕ) → at ≡ place key → bucket_at after at ≡ new
      changed at here = ap (bucket_at after) here ∙ get_or-set_same buckets (place key) new empty inside

      other : (at : ℕ) → (at ≡ place key → ⊥) → bucket_at after at ≡ bucket_at buckets at
      other at there = get_or-set_other buckets (place key) at new empty there

      in_changed : (q : List ℕ) → IsSome (get new q) → place q ≡ place key
      in_changed q some =
          elim (is_same q key) as (λ b. is_same q key ≡ b → place q ≡ place key) [
            | true ↦ λ same. ap place (same_are_equal q key same)
            | false ↦ λ unlike. placed (place key) q (subst IsSome (differs q ∙ ap (λ b. cond b value (get (bucket_at buckets (place key)) q)) unlike) some)
          ] refl

      pub placed-after : ArePlaced place (slice_set buckets (place key) new)
      placed-after at q some =
          elim (eqb_tells at (place key)) [
            | inl here ↦ in_changed q (subst (λ bucket. IsSome (get bucket q)) (changed at here.1) some) ∙ sym here.1
            | inr there ↦ placed at q (subst (λ bucket. IsSome (get bucket q)) (other at there.1) some)
          ]

      get-after : (q : List ℕ) → get (table_map after) q ≡ cond (is_same q key) value (get (table_map buckets) q)
      get-after q =
          get-table after placed-after q
          ∙ elim (eqb_tells (place q) (place key)) [
            | inl here ↦ ap (λ bucket. get bucket q) (changed (place q) here.1) ∙ differs q
                ∙ ap (λ n. cond (is_same q key) value (get (bucket_at buckets n) q)) (sym here.1)
            | inr there ↦ ap (λ bucket. get bucket q) (other (place q) there.1)
                ∙ sym (ap (λ b. cond b value (get (bucket_at buckets (place q)) q))
                (false_from_ne_true _ (λ same. there.1 (ap place (same_are_equal q key same)))))
          ]
          ∙ ap (cond (is_same q key) value) (sym (get-table buckets placed q))

      pub table-after : (m : ByImsi V) → ((q : List ℕ) → get m q ≡ cond (is_same q key) value (get (table_map buckets) q))
          → table_map (slice_set buckets (place key) new) ≡ m
      table-after m is = same_map nat_list_cmp_total exact_bytes _ _ (λ q. get-after q ∙ sym (is q))

  -- a bucket more: the entries of one bucket are divided between it and the new one
  module _ (place next : List ℕ → ℕ) (buckets : List (ByImsi V)) (placed : ArePlaced place buckets) (at new : ℕ) (apart : at < new)
      (inside : new < length buckets)
      (below : (q : List ℕ) → place q < new) (moves : (q : List ℕ) → Moves at new (place q) (next q)) where
    abbrev stays : List ℕ → Bool
    stays q = next q == at

    abbrev stay : ByImsi V
    stay = retain_keys (bucket_at buckets at) stays

    abbrev leave : ByImsi V
    leave = retain_keys (bucket_at buckets at) (λ q. not (stays q))

    abbrev divided : List (ByImsi V)
    divided = slice_set (slice_set buckets at stay) new leave

    get-retain : (test : List ℕ → Bool) (q : List ℕ) → get (retain_keys (bucket_at buckets at) test) q ≡ cond (test q) (get (bucket_at buckets at) q) None
    get-retain test q = get-retain_keys (bucket_at buckets at) test q (λ x tied. ap test (sym (exact_bytes q x tied)))

    the_new : bucket_at divided new ≡ leave
    the_new = get_or-set_same (slice_set buckets at stay) new leave empty (subst (λ n. new < n) (sym (length-set buckets at stay)) inside)

    the_old : bucket_at divided at ≡ stay
    the_old = get_or-set_other (slice_set buckets at stay) new at leave empty (λ e. omega (arith, e, apart))
        ∙ get_or-set_same buckets at stay empty (omega (arith, apart, inside))

    the_others : (i : ℕ) → (i ≡ at → ⊥) → (i ≡ new → ⊥) → bucket_at divided i ≡ bucket_at buckets i
    the_others i not_at not_new = get_or-set_other (slice_set buckets at stay) new i leave empty not_new ∙ get_or-set_other buckets at i stay empty not_at

    -- an IMSI is found where it was, or in the new bucket
    its_new_bucket : (q : List ℕ) → get (bucket_at divided (next q)) q ≡ get (bucket_at buckets (place q)) q
    its_new_bucket q =
        elim (moves q) [
          | inl same ↦ elim (eqb_tells (next q) at) [
            | inl here ↦ ap (λ n. get (bucket_at divided n) q) here.1 ∙ ap (λ bucket. get bucket q) the_old ∙ get-retain stays q
                ∙ ap (λ b. cond b (get (bucket_at buckets at) q) None) here.0
                ∙ ap (λ n. get (bucket_at buckets n) q) (sym (sym same ∙ here.1))
            | inr there ↦
                let lt = below q in
                ap (λ bucket. get bucket q) (the_others (next q) there.1 (λ e. omega (arith, e, same, lt))) ∙ ap (λ n. get (bucket_at buckets n) q) same
          ]
          | inr moved ↦ ap (λ n. get (bucket_at divided n) q) moved.1 ∙ ap (λ bucket. get bucket q) the_new ∙ get-retain (λ x. not (stays x)) q
              ∙ ap (λ b. cond (not b) (get (bucket_at buckets at) q) None) (ne_eqb _ _ (λ e. omega (arith, e, moved.1, apart)))
              ∙ ap (λ n. get (bucket_at buckets n) q) (sym moved.0)
        ]

    kept_some : (test : List ℕ → Bool) (q : List ℕ) → IsSome (get (retain_keys (bucket_at buckets at) test) q) → (test q ≡ true) × (place q ≡ at)
    kept_some test q some =
        elim (test q) as (λ b. test q ≡ b → IsSome (cond b (get (bucket_at buckets at) q) None) → (test q ≡ true) × (place q ≡ at)) [
          | true ↦ λ e stored. (e, placed at q stored)
          | false ↦ λ e stored. absurd (subst T (sym stored) tt)
        ] refl (subst IsSome (get-retain test q) some)

    pub divided-placed : ArePlaced next (slice_set (slice_set buckets at stay) new leave)
    divided-placed i q some =
        elim (eqb_tells i new) [
          | inl is_new ↦
              let kept = kept_some (λ x. not (stays x)) q (subst (λ bucket. IsSome (get bucket q)) (ap (bucket_at divided) is_new.1 ∙ the_new) some) in
              elim (moves q) [
                | inl same ↦ absurd (subst T (sym (sym (ap not (eq-eqb _ _ (same ∙ kept.1))) ∙ kept.0)) tt)
                | inr moved ↦ moved.1 ∙ sym is_new.1
              ]
          | inr not_new ↦ elim (eqb_tells i at) [
            | inl is_at ↦
                let kept = kept_some stays q (subst (λ bucket. IsSome (get bucket q)) (ap (bucket_at divided) is_at.1 ∙ the_old) some) in
                elim (eqb_tells (next q) at) [ inl here ↦ here.1 ∙ sym is_at.1 | inr there ↦ absurd (subst T (sym kept.0 ∙ there.0) tt) ]
            | inr not_at ↦
                let stored = placed i q (subst (λ bucket. IsSome (get bucket q)) (the_others i not_at.1 not_new.1) some) in
                elim (moves q) [ inl same ↦ same ∙ stored | inr moved ↦ absurd (not_at.1 (sym stored ∙ moved.0)) ]
          ]
        ]

    pub divided-same : table_map (slice_set (slice_set buckets at stay) new leave) ≡ table_map buckets
    divided-same = same_map nat_list_cmp_total exact_bytes _ _ (λ q.
        get-table next divided divided-placed q ∙ its_new_bucket q ∙ sym (get-table place buckets placed q))

  -- no buckets
  pub none-placed : (place : List ℕ → ℕ) (buckets : List (ByImsi V)) → buckets ≡ [] → ArePlaced place buckets
  none-placed place buckets none at imsi some =
      absurd (subst T (sym (subst IsSome (ap (λ ls. get (bucket_at ls at) imsi) none ∙ get-empty (slice_cmp nat_cmp) imsi) some)) tt)

  pub entries-empty : entries (empty {X = V} {R = slice_cmp nat_cmp}) ≡ []
  entries-empty = none_listed _ (sym (len-entries (empty {X = V} {R = slice_cmp nat_cmp})) ∙ len-empty (slice_cmp nat_cmp) V)

  -- an empty bucket more
  pub all-more : (buckets : List (ByImsi V)) (bucket : ByImsi V) → bucket ≡ empty → table_map (buckets ++ bucket ∷ []) ≡ table_map buckets
  all-more buckets bucket none = ap map_of (entries-more buckets bucket none)
    where
      entries-more : (buckets : List (ByImsi V)) (bucket : ByImsi V) → bucket ≡ empty → flat_map entries (buckets ++ bucket ∷ []) ≡ flat_map entries buckets
      entries-more [] bucket none = ap (λ l. entries l ++ []) none ∙ ap (λ es. es ++ []) (entries-empty)
      entries-more (first ∷ rest) bucket none = ap (λ es. entries first ++ es) (entries-more rest bucket none)

  pub placed-more : (place : List ℕ → ℕ) (buckets : List (ByImsi V)) (bucket : ByImsi V) → bucket ≡ empty → ArePlaced place buckets
      → ArePlaced place (buckets ++ bucket ∷ [])
  placed-more place buckets bucket none placed at imsi some =
      placed at imsi (subst (λ l. IsSome (get l imsi)) (at-more buckets at) some)
    where
      at-more : (ls : List (ByImsi V)) (i : ℕ) → bucket_at (ls ++ bucket ∷ []) i ≡ bucket_at ls i
      at-more [] zero = none
      at-more [] (suc i) = refl
      at-more (first ∷ rest) zero = refl
      at-more (first ∷ rest) (suc i) = at-more rest i
