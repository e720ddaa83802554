-- A table stays whole, and its map is the one that is meant, after each change of it.
use Rattle.std.proofs.Common.{◌≡◌, ◌∙◌, ℕ, zero, suc, ◌+◌, ◌-◌, ◌<◌, ◌≤◌, Bool, true, false, cond, not, T, List, refl}
use Rattle.std.proofs.Common.{sym, ap, ap₂, subst, arith, ◌⊎◌, ◌*◌, ◌%◌, ◌^◌, ◌==◌, [], ◌∷◌, ◌++◌, Option, Some, None}
use Rattle.std.proofs.Common.{length, slice_index_or, slice_set, inl, inr, length-append}
use Rattle.std.specs.Cmp.Lexicographic.{slice_cmp, nat_list_cmp_total}
use Rattle.std.specs.FinMap.{empty_of_len, get, get-empty, insert, len, len-insert, len-remove, remove, empty}
use Rattle.std.specs.FinMap.{get-insert, get-remove, len-empty, retain_keys, same_map}
use Rattle.std.specs.Int.{from_bool}
use Rattle.std.specs.Option.{is_some}
use Rattle.std.specs.Ordering.{nat_cmp}
use Rattle.std.proofs.Math.Nat.{add-zero}
use Rattle.std.proofs.lemmas.Map.Lookups.{exact_bytes}
use Rattle.std.proofs.lemmas.List.{get_or_default, length-set, set-get_or}
use Rattle.camel_table.specs.ByImsi.{ByImsi, is_same}
use Rattle.camel_tbcd.specs.Imsi.{imsi_number}
use Rattle.camel_table.specs.Buckets.{ArePlaced, IsTable, table_map, bucket_in, place_of}
use Rattle.camel_table.proofs.BucketsLemmas.{all-more, divided-placed, divided-same, get-table, bucket_at, none-placed}
use Rattle.camel_table.proofs.BucketsLemmas.{none_listed, placed-after, placed-more, table-after}
use Rattle.camel_table.proofs.AddressingLemmas.{Moves, place_below, place_more, shifted_one, some_power}

-- How many values a map has after a change.

module _ {V : Type 0} where
  -- a map with a value has a count that is not 0
  pub some_counted : (m : ByImsi V) (key : List ℕ) → is_some (get m key) ≡ true → 0 < len m
  some_counted m key some =
      elim (len m) as (λ n. len m ≡ n → 0 < n) [
        | zero ↦ λ none. absurd (subst T (sym (sym (ap is_some (ap (λ n. get n key) (empty_of_len m none) ∙ get-empty (slice_cmp nat_cmp) key)) ∙ some)) tt)
        | suc n ↦ λ more. omega arith
      ] refl

  -- a value in the place of another one adds none
  pub replaced_counted : (m : ByImsi V) (key : List ℕ) (value : V) → is_some (get m key) ≡ true → len (insert m key value) ≡ len m
  replaced_counted m key value some = len-insert nat_list_cmp_total m key value ∙ ap (λ b. cond b (len m) (len m + 1)) some

  pub inserted_counted : (m : ByImsi V) (key : List ℕ) (value : V) (new : ℕ) → new ≡ from_bool (not (is_some (get m key))) → (count : ℕ) → count ≡ len m
      → count + new ≡ len (insert m key value)
  inserted_counted m key value new is count counted =
      ap₂ ◌+◌ counted is ∙ more (is_some (get m key)) (len m) ∙ sym (len-insert nat_list_cmp_total m key value)
    where
      more : (b : Bool) (n : ℕ) → n + from_bool (not b) ≡ cond b n (n + 1)
      more true n = add-zero n
      more false n = refl

  pub removed_counted : (m : ByImsi V) (key : List ℕ) (gone : ℕ) → gone ≡ from_bool (is_some (get m key)) → (gone ≤ len m) × (len m - gone ≡ len (remove m key))
  removed_counted m key gone is =
      let both = fewer (is_some (get m key)) (len m) gone (some_counted m key) is in
      (both.0, both.1 ∙ sym (len-remove nat_list_cmp_total m key))
    where
      fewer : (b : Bool) (n gone : ℕ) → (b ≡ true → 0 < n) → gone ≡ from_bool b → (gone ≤ n) × (n - gone ≡ cond b (n - 1) n)
      fewer true n gone some is =
          let one : gone ≡ 1 = is in
          let more = some refl in
          let less : n - gone ≡ n - 1 = omega (arith, one) in
          (omega (arith, one, more), less)
      fewer false n gone some is =
          let none : gone ≡ 0 = is in
          let same : n - gone ≡ n = omega (arith, none) in
          (omega (arith, none), same)

-- A table stays whole, and its map is the one that is meant, after each change of a bucket.

one_place : (hash : ℕ → ℕ) (key : List ℕ) → place_of hash 0 1 key ≡ 0
one_place hash key =
    let lt = place_below 0 1 (hash (imsi_number key)) (omega arith) in
    omega (arith, lt)

module _ {V : Type 0} where
  -- a bucket that is put back as it was
  pub unchanged : (buckets : List (ByImsi V)) (at : ℕ) {old new : ByImsi V} → old ≡ slice_index_or buckets at old → new ≡ old
      → slice_set buckets at new ≡ buckets
  unchanged buckets at {old} own same = ap (slice_set buckets at) (same ∙ own) ∙ set-get_or buckets at old

  -- the buckets make a table that contracts see as this map
  abbrev pub Makes : (ℕ → ℕ) → (level count values : ℕ) → ByImsi V → List (ByImsi V) → Type 0
  Makes hash level count values m buckets = IsTable hash level count values buckets × (table_map buckets ≡ m)

module _ {V : Type 0} {hash : ℕ → ℕ} where
  pub no_table : {buckets : List (ByImsi V)} → buckets ≡ [] → IsTable hash 0 0 0 buckets
  no_table {buckets} none = record {
    low = omega arith;
    round = inl (refl, ap length none);
    few = subst (λ (ls : List (ByImsi V)). length ls ≤ 2 ^ 32) (sym none) (omega arith);
    placed = none-placed (place_of hash 0 0) buckets none;
    counted = sym (ap (λ ls. len (table_map ls)) none ∙ len-empty _ _);
  }

  -- a table of one bucket
  pub one_bucket : {bucket : ByImsi V} {buckets : List (ByImsi V)} → buckets ≡ bucket ∷ [] → (key : List ℕ) (value : V) → bucket ≡ insert empty key value
      → Makes hash 0 1 1 (insert empty key value) buckets
  one_bucket {bucket} is key value first =
      subst (Makes hash 0 1 1 (insert empty key value)) (sym is) (
        record { low = omega arith; round = inr (omega arith, (omega arith, omega arith)); few = omega arith; placed = placed; counted = one ∙ sym (ap len same) },
        same,
      )
    where
      placed : ArePlaced (place_of hash 0 1) (bucket ∷ [])
      placed zero imsi some = one_place hash imsi
      placed (suc at) imsi some = absurd (subst T (sym (sym (ap is_some (get-empty (slice_cmp nat_cmp) imsi)) ∙ some)) tt)

      one : 1 ≡ len {R = slice_cmp nat_cmp} (insert empty key value)
      one = inserted_counted empty key value 1 (sym (ap (λ o. from_bool (not (is_some o))) (get-empty (slice_cmp nat_cmp) key))) 0
          (sym (len-empty (slice_cmp nat_cmp) V))

      same : table_map (bucket ∷ []) ≡ insert empty key value
      same = same_map nat_list_cmp_total exact_bytes _ bucket (λ q.
          get-table (place_of hash 0 1) (bucket ∷ []) placed q ∙ ap (λ n. get (bucket_at (bucket ∷ []) n) q) (one_place hash q)) ∙ first

  module _ {level count values : ℕ} {buckets : List (ByImsi V)} (whole : IsTable hash level count values buckets) where
    abbrev place : List ℕ → ℕ
    place = place_of hash level count

    pub rounds : (count ≡ 0 → ⊥) → (2 ^ level ≤ count) × ((count ≤ 2 ^ (1 + level)) × (count ≤ length buckets))
    rounds some = elim whole.round [ inl none ↦ absurd (some none.0) | inr round ↦ round ]

    in_buckets : (count ≡ 0 → ⊥) → (key : List ℕ) → place key < length buckets
    in_buckets some key =
        let round = rounds some in
        let lt = place_below level count (hash (imsi_number key)) round.0 in
        let few = round.1.1 in
        omega (arith, lt, few)

    no_length : count ≡ 0 → length buckets ≡ 0
    no_length none = elim whole.round [
      | inl both ↦ both.1
      | inr round ↦ let began = round.0 in let power = some_power level in absurd (omega (arith, none, began, power))
    ]

    -- as many buckets, each IMSI in that of its place
    pub whole_after : {after : List (ByImsi V)} {total : ℕ} → length after ≡ length buckets → ArePlaced place after → total ≡ len (table_map after)
        → IsTable hash level count total after
    whole_after same placed counted = record {
      low = whole.low;
      round = elim whole.round [ inl none ↦ inl (none.0, same ∙ none.1) | inr round ↦ inr (round.0, (round.1.0, subst (λ n. count ≤ n) (sym same) round.1.1)) ];
      few = subst (λ n. n ≤ 2 ^ 32) (sym same) whole.few;
      placed = placed;
      counted = counted;
    }

    -- the map that contracts see
    module _ {self : ByImsi V} (view : table_map buckets ≡ self) where
      pub self_counted : values ≡ len self
      self_counted = whole.counted ∙ ap len view

      pub empty_table : count ≡ 0 → self ≡ empty
      empty_table none = sym view ∙ ap table_map (none_listed buckets (no_length none))

      pub nothing : count ≡ 0 → (key : List ℕ) → get self key ≡ None
      nothing none key = ap (λ m. get m key) (empty_table none) ∙ get-empty (slice_cmp nat_cmp) key

      -- a table with a value has buckets
      pub has_buckets : (key : List ℕ) → is_some (get self key) ≡ true → count ≡ 0 → ⊥
      has_buckets key some none = subst T (sym (sym (ap is_some (nothing none key)) ∙ some)) tt

      pub nothing_removed : count ≡ 0 → (key : List ℕ) → remove self key ≡ self
      nothing_removed none key = same_map nat_list_cmp_total exact_bytes _ _ (λ q.
          get-remove nat_list_cmp_total self key q ∙ either (is_same q key) (get self q) (nothing none q) ∙ sym (nothing none q))
        where
          either : (b : Bool) (o : Option V) → o ≡ None → cond b None o ≡ None
          either true o none = refl
          either false o none = none

      -- a bucket that is changed in its place
      module _ (some : count ≡ 0 → ⊥) (key : List ℕ) {number at : ℕ} (numbered : number ≡ imsi_number key) (is : at ≡ bucket_in level count (hash number)) where
        its_place : at ≡ place key
        its_place = is ∙ ap (λ n. bucket_in level count (hash n)) numbered

        pub inside : at < length buckets
        inside = subst (λ n. n < length buckets) (sym its_place) (in_buckets some key)

        module _ {old : ByImsi V} (own : old ≡ slice_index_or buckets at old) where
          the_bucket : old ≡ bucket_at buckets (place key)
          the_bucket = own ∙ get_or_default buckets at old empty inside ∙ ap (bucket_at buckets) its_place

          pub value_before : get old key ≡ get self key
          value_before = ap (λ bucket. get bucket key) the_bucket ∙ sym (get-table place buckets whole.placed key) ∙ ap (λ m. get m key) view

          -- the table after a change at this IMSI
          changed_table : (new : ByImsi V) (value : Option V) {m : ByImsi V} {total : ℕ} → ((q : List ℕ) → get new q ≡ cond (is_same q key) value (get old q))
              → ((q : List ℕ) → get m q ≡ cond (is_same q key) value (get self q)) → total ≡ len m → Makes hash level count total m (slice_set buckets at new)
          changed_table new value {m} differs is total_is =
              let inside = in_buckets some key in
              let there = ap (λ n. slice_set buckets n new) its_place in
              let owns = λ (q : List ℕ). differs q ∙ ap (λ bucket. cond (is_same q key) value (get bucket q)) the_bucket in
              let is_map = λ (q : List ℕ). is q ∙ ap (λ m. cond (is_same q key) value (get m q)) (sym view) in
              let same = ap table_map there ∙ table-after place buckets whole.placed key inside new value owns m is_map in
              let placed = subst (ArePlaced place) (sym there) (placed-after place buckets whole.placed key inside new value owns) in
              (whole_after (length-set buckets at new) placed (total_is ∙ sym (ap len same)), same)

          module _ {new : ByImsi V} where
            inserted : (value : V) {total : ℕ} → new ≡ insert old key value → total ≡ len (insert self key value)
                → Makes hash level count total (insert self key value) (slice_set buckets at new)
            inserted value same =
                changed_table _ (Some value) (λ q. ap (λ bucket. get bucket q) same ∙ get-insert nat_list_cmp_total old key value q)
                (get-insert nat_list_cmp_total self key value)

            pub replaced : (value : V) → is_some (get self key) ≡ true → new ≡ insert old key value → Makes hash level count values (insert self key value) (slice_set buckets at new)
            replaced value there same = inserted value same (self_counted ∙ sym (replaced_counted self key value there))

            pub put : (value : V) {is_new : Bool} {more : ℕ} → new ≡ insert old key value → is_new ≡ not (is_some (get old key)) → more ≡ from_bool is_new
                → Makes hash level count (values + more) (insert self key value) (slice_set buckets at new)
            put value same first more_is = inserted value same
                (inserted_counted self key value _ (more_is ∙ ap from_bool (first ∙ ap (λ o. not (is_some o)) value_before)) values self_counted)

            pub removed : {was : Bool} {gone : ℕ} → new ≡ remove old key → was ≡ is_some (get old key) → gone ≡ from_bool was
                → (gone ≤ values) × Makes hash level count (values - gone) (remove self key) (slice_set buckets at new)
            removed {was} {gone} same there gone_is =
                let fewer = removed_counted self key gone (gone_is ∙ ap from_bool (there ∙ ap is_some value_before)) in (
                  subst (λ n. gone ≤ n) (sym self_counted) fewer.0,
                  changed_table _ None (λ q. ap (λ bucket. get bucket q) same ∙ get-remove nat_list_cmp_total old key q)
                      (get-remove nat_list_cmp_total self key) (ap (λ n. n - gone) self_counted ∙ fewer.1),
                )

      -- perhaps with a spare bucket
      pub with_spare : (count ≡ 0 → ⊥) → {after : List (ByImsi V)} → length after ≤ 2 ^ 32 → (after ≡ buckets) ⊎ (after ≡ buckets ++ empty ∷ [])
          → Makes hash level count values self after
      with_spare some few (inl same) = (subst (IsTable hash level count values) (sym same) whole, ap table_map same ∙ view)
      with_spare some {after} few (inr more) =
          let longer : length after ≡ length buckets + 1 = ap length more ∙ length-append buckets (empty ∷ []) in
          let round = rounds some in
          let enough = round.1.1 in
          let same = ap table_map more ∙ all-more buckets empty refl in (
            record {
              low = whole.low;
              round = inr (round.0, (round.1.0, omega (arith, longer, enough)));
              few = few;
              placed = subst (ArePlaced place) (sym more) (placed-more place buckets empty refl whole.placed);
              counted = whole.counted ∙ sym (ap len same);
            },
            same ∙ view,
          )

      -- a bucket more: the entries of one are divided by the addressing of the next table
      module _ (some : count ≡ 0 → ⊥) (spare : count < length buckets) {next more : ℕ} {hash_after : ℕ → ℕ} (same : hash_after ≡ hash)
          (counted : more ≡ count + 1)
          (low : next ≤ 32) (began : 2 ^ next ≤ count) (within : more ≤ 2 ^ (1 + next))
          (step : (next ≡ level) ⊎ ((next ≡ 1 + level) × (count ≡ 2 ^ (1 + level))))
          {at : ℕ} (is : at ≡ count - 1 * 2 ^ next % 18446744073709551616) {old : ByImsi V} (own : old ≡ slice_index_or buckets at old) where
        -- the bucket with those of its entries whose test of their bucket is true
        abbrev kept : (Bool → Bool) → ℕ → (ℕ → ℕ) → ByImsi V → ByImsi V
        kept test more hash bucket = retain_keys bucket (λ key. test (place_of hash next more key == at))

        -- the table that such a division makes
        abbrev Grows : ByImsi V → ByImsi V → (ℕ → ℕ) → ℕ → Type 0
        Grows stay leave hash more = stay ≡ kept (λ is_at. is_at) more hash old → leave ≡ kept not more hash old
            → Makes hash next more values self (slice_set (slice_set buckets at stay) count leave)

        apart : at < count
        apart = omega (arith, is, shifted_one next low, began, some_power next)

        moves : (q : List ℕ) → Moves at count (place q) (place_of hash next (count + 1) q)
        moves q = rw (is ∙ ap (λ n. count - n) (shifted_one next low)) (place_more level next count (hash (imsi_number q)) step began)

        divided : (stay leave : ByImsi V) → Grows stay leave hash (count + 1)
        divided stay leave stays leaves =
            let the_bucket = own ∙ get_or_default buckets at old empty (omega (arith, apart, spare)) in
            let there = ap (λ b. slice_set (slice_set buckets at b) count leave) (stays ∙ ap (kept (λ is_at. is_at) (count + 1) hash) the_bucket)
            ∙ ap (slice_set _ count) (leaves ∙ ap (kept not (count + 1) hash) the_bucket) in
            let long : length (slice_set (slice_set buckets at stay) count leave) ≡ length buckets = length-set _ count leave ∙ length-set buckets at stay in
            let below = λ (q : List ℕ). place_below level count (hash (imsi_number q)) (rounds some).0 in
            let same = ap table_map there ∙ divided-same place (place_of hash next (count + 1)) buckets whole.placed at count apart spare below moves in (
              record {
                low = low;
                round = inr (omega (arith, began), (subst (λ n. n ≤ 2 ^ (1 + next)) counted within, omega (arith, long, spare)));
                few = subst (λ n. n ≤ 2 ^ 32) (sym long) whole.few;
                placed = subst (ArePlaced (place_of hash next (count + 1))) (sym there)
                    (divided-placed place (place_of hash next (count + 1)) buckets whole.placed at count apart spare below moves);
                counted = whole.counted ∙ sym (ap len same);
              },
              same ∙ view,
            )

        pub grown : {stay leave : ByImsi V} → Grows stay leave hash_after more
        grown {stay} {leave} = subst (λ h. Grows stay leave h more) (sym same) (subst (Grows stay leave hash) (sym counted) (divided stay leave))
