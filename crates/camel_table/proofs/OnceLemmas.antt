-- Entries of which no IMSI has two: what keeps them so, and what a clone keeps of them.
use Rattle.std.proofs.Common.{◌≡◌, ◌∙◌, ℕ, ◌+◌, ◌≤◌, Bool, true, false, not, cond, List, [], ◌∷◌, ◌++◌, Some}
use Rattle.std.proofs.Common.{None, filter, map, refl, sym, ap, subst, arith, zero, suc, length, ap₂}
use Rattle.std.specs.FinMap.{get, contains_key-keys, entries, entries-insert, keys, len, len-entries}
use Rattle.std.specs.List.{sum_by, AllZip, flat_map, list_any}
use Rattle.std.specs.Option.{is_some}
use Rattle.std.proofs.Math.Nat.{zero-add}
use Rattle.std.proofs.lemmas.List.Filters.{sum_by-filter_both}
use Rattle.std.proofs.lemmas.List.Sums.{sum_by-append, sum_by-cons}
use Rattle.std.specs.Cmp.Lexicographic.{slice_cmp, nat_list_cmp_total}
use Rattle.std.specs.FinMap.Entries.{by_order, put}
use Rattle.std.specs.Global.{Vec}
use Rattle.std.specs.Ordering.{nat_cmp}
use Rattle.std.specs.declared.cmp.Ordering.TheVariants.{Less, Equal, Greater}
use Rattle.std.proofs.lemmas.List.{length-map, map-append}
use Rattle.std.proofs.lemmas.Slice.Zip.{AllZip-long}
use Rattle.camel_table.specs.ByImsi.{ByImsi, HasEachOnce, ListsEachOnceMore, is_same, keys_of, map_of, times_listed}
use Rattle.camel_table.specs.Lending.{with_value_of}
use Rattle.camel_table.proofs.BucketLemmas.{Entries, found, get-is, same_are_equal}
use Rattle.camel_table.specs.Buckets.{IsTable, table_map, AreFull, joined}
use Rattle.camel_table.proofs.BucketsLemmas.{bucket_at, entries-empty}
use Rattle.camel_table.proofs.TableLemmas.{whole_after}

-- Entries of which no IMSI has two: what keeps them so, and how often a list has their IMSIs.

module _ {V : Type 0} where
  abbrev once : List ℕ → List ℕ × V → ℕ
  once q e = cond (is_same q e.0) 1 0

  abbrev times : List ℕ → Entries V → ℕ
  times q es = sum_by (once q) es

  -- an IMSI with one entry at most has one if it is found
  counted : (q : List ℕ) (es : Entries V) → times q es ≤ 1 → times q es ≡ cond (is_some (found q es)) 1 0
  counted q [] few = refl
  counted q (e ∷ es) few =
      sum_by-cons (once q) e es
      ∙ elim (is_same q e.0) as (λ b. cond b 1 0 + times q es ≤ 1 → cond b 1 0 + times q es ≡ cond (is_some (cond b (Some e.1) (found q es))) 1 0) [
        | true ↦ λ few. omega (arith, few)
        | false ↦ λ few. zero-add _ ∙ counted q es (omega (arith, few))
      ] (subst (λ n. n ≤ 1) (sum_by-cons (once q) e es) few)

  pub added_once : (key : List ℕ) (value : V) (xs ys : Entries V) {before after : Entries V} {m : ByImsi V} → before ≡ xs ++ ys → map_of before ≡ m
      → get m key ≡ None → after ≡ xs ++ (key, value) ∷ ys → HasEachOnce before → HasEachOnce after
  added_once key value xs ys {before} {after} {m} was view none is each q =
      let old = ap (times q) was ∙ sum_by-append (once q) xs ys in
      let new = ap (times q) is ∙ sum_by-append (once q) xs ((key, value) ∷ ys) in
      let more = sum_by-cons (once q) (key, value) ys in
      let few = each q in
      elim (is_same q key) as (λ b. is_same q key ≡ b → times q after ≤ 1) [
        | true ↦ λ same.
            let missed = sym (get-is before q) ∙ ap (λ m. get m q) view ∙ ap (get m) (same_are_equal q key same) ∙ none in
            let gone : times q before ≡ 0 = counted q before few ∙ ap (λ o. cond (is_some o) 1 0) missed in
            let one : once q (key, value) ≡ 1 = ap (λ b. cond b 1 0) same in
            omega (arith, old, new, more, gone, one)
        | false ↦ λ unlike. let no : once q (key, value) ≡ 0 = ap (λ b. cond b 1 0) unlike in omega (arith, old, new, more, few, no)
      ] refl

  pub kept_once : (test : List ℕ → Bool) (es : Entries V) {after : Entries V} → after ≡ filter (λ e. test e.0) es → HasEachOnce es → HasEachOnce after
  kept_once test es is each q =
      let few = each q in
      let kept = ap (times q) is in
      let both = sum_by-filter_both (λ (e : List ℕ × V). test e.0) (λ e. not (test e.0)) (λ _. refl) (once q) es in
      omega (arith, few, kept, both)

  of_keys : (q : List ℕ) (es : Entries V) → times_listed q (keys_of es) ≡ times q es
  of_keys q [] = refl
  of_keys q (e ∷ es) = sum_by-cons _ e.0 (keys_of es) ∙ ap (λ n. once q e + n) (of_keys q es) ∙ sym (sum_by-cons (once q) e es)

  pub same_once : (es fs : Entries V) → keys_of fs ≡ keys_of es → HasEachOnce es → HasEachOnce fs
  same_once es fs same each q = subst (λ n. n ≤ 1) (sym (of_keys q es) ∙ ap (times_listed q) (sym same) ∙ of_keys q fs) (each q)

  pub valued_keys : (key : List ℕ) (value : V) (es : Entries V) → keys_of (with_value_of key value es) ≡ keys_of es
  valued_keys key value [] = refl
  valued_keys key value (e ∷ es) =
      elim (is_same key e.0) as (λ b. keys_of (cond b ((e.0, value) ∷ es) (e ∷ with_value_of key value es)) ≡ keys_of (e ∷ es)) [
        | true ↦ refl
        | false ↦ ap (λ keys. e.0 ∷ keys) (valued_keys key value es)
      ]

  pub valued_once : (key : List ℕ) (value : V) (es : Entries V) {after : Entries V} → after ≡ with_value_of key value es → HasEachOnce es → HasEachOnce after
  valued_once key value es is = same_once es _ (ap keys_of is ∙ valued_keys key value es)

  -- a list that has the IMSI of each entry more
  pub entries_listed : (before : List (List ℕ)) {imsis : List (List ℕ)} (es : Entries V) → imsis ≡ before ++ keys_of es → HasEachOnce es
      → ListsEachOnceMore before imsis (map_of es)
  entries_listed before es is each q =
      ap (times_listed q) is ∙ sum_by-append _ before (keys_of es)
      ∙ ap (λ n. times_listed q before + n) (of_keys q es ∙ counted q es (each q) ∙ ap (λ o. cond (is_some o) 1 0) (sym (get-is es q)))

-- What a clone of entries, segments or buckets keeps.

pub both_lists : {A : Type 0} (R : A → A → Type 0) (xs ys more others : List A) → AllZip R xs ys → AllZip R more others → AllZip R (xs ++ more) (ys ++ others)
both_lists R [] [] more others all rest = rest
both_lists R [] (y ∷ ys) more others all rest = absurd all
both_lists R (x ∷ xs) [] more others all rest = absurd all
both_lists R (x ∷ xs) (y ∷ ys) more others all rest = (all.0, both_lists R xs ys more others all.1 rest)

module _ {A : Type 0} (R : A → A → Type 0) (C : Vec A → Vec A → Type 0) (items : (v w : Vec A) → C v w → AllZip R v.items w.items) where
  pub full_clone : (segments clones : List (Vec A)) → AllZip C segments clones → AreFull segments → AreFull clones
  full_clone [] [] all full = tt
  full_clone [] (c ∷ cs) all full = absurd all
  full_clone (s ∷ ss) [] all full = absurd all
  full_clone (s ∷ []) (c ∷ []) all full =
      let long = AllZip-long R s.items c.items (items s c all.0) in
      omega (arith, long, full)
  full_clone (s ∷ []) (c ∷ d ∷ cs) all full = absurd all.1
  full_clone (s ∷ t ∷ ss) (c ∷ []) all full = absurd all.1
  full_clone (s ∷ t ∷ ss) (c ∷ d ∷ cs) all full = (AllZip-long R s.items c.items (items s c all.0) ∙ full.0, full_clone (t ∷ ss) (d ∷ cs) all.1 full.1)

  pub joined_clone : (segments clones : List (Vec A)) → AllZip C segments clones → AllZip R (joined segments) (joined clones)
  joined_clone [] [] all = tt
  joined_clone [] (c ∷ cs) all = absurd all
  joined_clone (s ∷ ss) [] all = absurd all
  joined_clone (s ∷ ss) (c ∷ cs) all = both_lists R s.items c.items (joined ss) (joined cs) (items s c all.0) (joined_clone ss cs all.1)

-- what is the same of each two is the same of all
pub all_same : {A B : Type 0} (R : A → A → Type 0) (f : A → B) → ((x y : A) → R x y → f y ≡ f x) → (xs ys : List A) → AllZip R xs ys → map f ys ≡ map f xs
all_same R f same [] [] all = refl
all_same R f same [] (y ∷ ys) all = absurd all
all_same R f same (x ∷ xs) [] all = absurd all
all_same R f same (x ∷ xs) (y ∷ ys) all = ap₂ ◌∷◌ (same x y all.0) (all_same R f same xs ys all.1)

-- the keys of a map of entries are theirs, each put in its place
abbrev key_put : List ℕ → List (List ℕ) → List (List ℕ)
key_put key [] = key ∷ []
key_put key (x ∷ xs) = by_order (slice_cmp nat_cmp key x) (key ∷ x ∷ xs) (x ∷ xs) (x ∷ key_put key xs)

abbrev keys_put : List (List ℕ) → List (List ℕ)
keys_put [] = []
keys_put (key ∷ keys) = key_put key (keys_put keys)

module _ {V : Type 0} where
  key-put : (key : List ℕ) (value : V) (es : Entries V) → keys_of (put (slice_cmp nat_cmp) key value es) ≡ key_put key (keys_of es)
  key-put key value [] = refl
  key-put key value (e ∷ es) =
      elim (slice_cmp nat_cmp key e.0) as (λ r.
      keys_of (by_order r ((key, value) ∷ e ∷ es) ((e.0, value) ∷ es) (e ∷ put (slice_cmp nat_cmp) key value es))
      ≡ by_order r (key ∷ e.0 ∷ keys_of es) (e.0 ∷ keys_of es) (e.0 ∷ key_put key (keys_of es))) [
        | Less ↦ refl
        | Equal ↦ refl
        | Greater ↦ ap (λ keys. e.0 ∷ keys) (key-put key value es)
      ]

  keys-put : (es : Entries V) → keys (map_of es) ≡ keys_put (keys_of es)
  keys-put [] = ap keys_of entries-empty
  keys-put (e ∷ es) =
      ap keys_of (entries-insert nat_list_cmp_total (map_of es) e.0 e.1) ∙ key-put e.0 e.1 (entries (map_of es)) ∙ ap (key_put e.0) (keys-put es)

  pub same_keys : (es fs : Entries V) → keys_of fs ≡ keys_of es → keys (map_of fs) ≡ keys (map_of es)
  same_keys es fs same = keys-put fs ∙ ap keys_put same ∙ sym (keys-put es)

  same_len : (m n : ByImsi V) → keys n ≡ keys m → len n ≡ len m
  same_len m n same = len-keys n ∙ ap length same ∙ sym (len-keys m)
    where
      len-keys : (m : ByImsi V) → len m ≡ length (keys m)
      len-keys m = len-entries m ∙ sym (length-map (entries m) (λ e. e.0))

  same_keys_at : (R : ByImsi V → ByImsi V → Type 0) → ((m n : ByImsi V) → R m n → keys n ≡ keys m) → (ms ns : List (ByImsi V)) → AllZip R ms ns
      → (at : ℕ) → keys (bucket_at ns at) ≡ keys (bucket_at ms at)
  same_keys_at R same [] [] all at = refl
  same_keys_at R same [] (n ∷ ns) all at = absurd all
  same_keys_at R same (m ∷ ms) [] all at = absurd all
  same_keys_at R same (m ∷ ms) (n ∷ ns) all zero = same m n all.0
  same_keys_at R same (m ∷ ms) (n ∷ ns) all (suc at) = same_keys_at R same ms ns all.1 at

  keys-all : (buckets : List (ByImsi V)) → keys_of (flat_map entries buckets) ≡ flat_map (λ keys. keys) (map keys buckets)
  keys-all [] = refl
  keys-all (bucket ∷ buckets) = map-append (λ e. e.0) (entries bucket) (flat_map entries buckets) ∙ ap (λ rest. keys bucket ++ rest) (keys-all buckets)

  -- a clone of the buckets of a table is whole
  pub whole_clone : {R : ByImsi V → ByImsi V → Type 0} → ((m n : ByImsi V) → R m n → keys n ≡ keys m) → {hash : ℕ → ℕ} {level count values : ℕ}
      {buckets : List (ByImsi V)} (clones : List (ByImsi V)) → AllZip R buckets clones → IsTable hash level count values buckets
      → IsTable hash level count values clones
  whole_clone {R} same {buckets = buckets} clones all whole =
      let all_keys = keys-all clones ∙ ap (flat_map (λ keys. keys)) (all_same R keys same buckets clones all) ∙ sym (keys-all buckets) in
      whole_after whole (AllZip-long R buckets clones all)
      (λ at imsi some. whole.placed at imsi (contains_key-keys (bucket_at buckets at) imsi
      ∙ ap (list_any (is_same imsi)) (sym (same_keys_at R same buckets clones all at)) ∙ sym (contains_key-keys (bucket_at clones at) imsi) ∙ some))
      (whole.counted ∙ sym (same_len (table_map buckets) (table_map clones) (same_keys (flat_map entries buckets) (flat_map entries clones) all_keys)))
