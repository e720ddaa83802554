-- The finite map of the entries of a bucket, after each change of them.
use Rattle.std.proofs.Common.{◌≡◌, ◌∙◌, ℕ, zero, suc, ◌+◌, ◌<◌, ◌≤◌, Bool, true, false, not, cond, T, List, [], ◌∷◌, ◌++◌, Option, Some, None, length, filter}
use Rattle.std.proofs.Common.{inl, inr, true≢false, position, slice_index_or, slice_set, refl, sym, ap, subst, arith}
use Rattle.std.specs.Cmp.Lexicographic.{slice_cmp, nat_list_cmp_total}
use Rattle.std.specs.FinMap as map
use Rattle.std.specs.FinMap.Entries as entries
use Rattle.std.specs.List.{position_or_len}
use Rattle.std.specs.Option.{option_or, is_some}
use Rattle.std.specs.Ordering.{is_eq, nat_cmp}
use Rattle.std.specs.declared.cmp.Ordering.{Ordering}
use Rattle.std.specs.declared.cmp.Ordering.TheVariants.{Less, Equal, Greater}
use Rattle.std.proofs.lemmas.Bool.{cases_lt, lt-ltb}
use Rattle.std.proofs.lemmas.List.Quantifiers.{position-Some}
use Rattle.std.proofs.lemmas.Map.Lookups.{exact_bytes}
use Rattle.camel_table.specs.ByImsi.{ByImsi, is_same, map_of}
use Rattle.camel_table.specs.Lending.{with_value_of}

equal : (r : Ordering) → is_eq r ≡ true → r ≡ Equal
equal Less p = absurd (subst T (sym p) tt)
equal Equal p = refl
equal Greater p = absurd (subst T (sym p) tt)

pub same_are_equal : (imsi other : List ℕ) → is_same imsi other ≡ true → imsi ≡ other
same_are_equal imsi other p = exact_bytes imsi other (equal _ p)

-- of two tests of which the second holds nowhere else
shadowed : {A : Type 0} (b : Bool) (x y z : A) → cond b x z ≡ cond b x (cond b y z)
shadowed true x y z = refl
shadowed false x y z = refl

-- of two tests that never hold both
exchanged : {A : Type 0} (a b : Bool) (x y z : A) → (a ≡ true → b ≡ true → ⊥) → cond a x (cond b y z) ≡ cond b y (cond a x z)
exchanged true true x y z apart = absurd (apart refl refl)
exchanged true false x y z apart = refl
exchanged false b x y z apart = refl

pub apart : (q key other : List ℕ) → is_same key other ≡ false → is_same q other ≡ true → is_same q key ≡ true → ⊥
apart q key other unlike here there =
    subst T (sym (ap (λ k. is_same k other) (sym (same_are_equal q key there)) ∙ here) ∙ unlike) tt

abbrev pub Entries : Type 0 → Type 0
Entries V = List (List ℕ × V)

module _ {V : Type 0} where
  abbrev pub found : List ℕ → Entries V → Option V
  found key es = map.find (slice_cmp nat_cmp) key es

  -- two lists of entries that find the same make the same map
  pub same_when : (es : Entries V) (m : ByImsi V) → ((q : List ℕ) → found q es ≡ map.get m q) → map_of es ≡ m
  same_when es m finds = map.same_map nat_list_cmp_total exact_bytes _ _ (λ q. map.get-from_entries nat_list_cmp_total es q ∙ finds q)

  pub get-is : (es : Entries V) (key : List ℕ) → map.get (map_of es) key ≡ found key es
  get-is es key = map.get-from_entries nat_list_cmp_total es key

  -- at this place is the first entry of a key
  abbrev IsFirst : List ℕ → ℕ → Entries V → List ℕ × V → Type 0
  IsFirst key at es d =
      (at < length es) × (is_same key (slice_index_or es at d).0 ≡ true) × ((k : ℕ) → k < at → is_same key (slice_index_or es k d).0 ≡ false)

  in_rest : (key : List ℕ) (at : ℕ) (e : List ℕ × V) (es : Entries V) (d : List ℕ × V) → IsFirst key (suc at) (e ∷ es) d
      → (is_same key e.0 ≡ false) × IsFirst key at es d
  in_rest key at e es d first = (first.2 0 (omega arith), (omega (arith, first.0), first.1, λ k lt. first.2 (suc k) (omega (arith, lt))))

  abbrev place : List ℕ → Entries V → ℕ
  place key es = position_or_len (λ e. is_same key e.0) es

  none_at : (key : List ℕ) (es : Entries V) → length es ≤ place key es → found key es ≡ None
  none_at key [] le = refl
  none_at key (e ∷ es) le =
      elim (is_same key e.0) as (λ b. length (e ∷ es) ≤ cond (not b) (1 + place key es) 0 → cond b (Some e.1) (found key es) ≡ None) [
        | true ↦ λ le. absurd (omega (arith, le))
        | false ↦ λ le. none_at key es (omega (arith, le))
      ] le

  pub some_position : (key : List ℕ) (es : Entries V) → is_some (map.get (map_of es) key) ≡ true → is_some (position (λ e. is_same key e.0) es) ≡ true
  some_position key es some = elim (cases_lt (place key es) (length es)) [
    | inl lt ↦ rw (lt-ltb _ _ lt) refl
    | inr le ↦ absurd (true≢false (sym some ∙ ap is_some (get-is es key ∙ none_at key es le)))
  ]

  pub none_position : (key : List ℕ) (es : Entries V) → position (λ e. is_same key e.0) es ≡ None → map.get (map_of es) key ≡ None
  none_position key es none = elim (cases_lt (place key es) (length es)) [
    | inl lt ↦
        let some : position (λ e. is_same key e.0) es ≡ Some (place key es) = rw (lt-ltb _ _ lt) refl in
        absurd (subst (λ (o : Option ℕ). T (is_some o)) (sym some ∙ none) tt)
    | inr le ↦ get-is es key ∙ none_at key es le
  ]

  found-first : (key : List ℕ) (es : Entries V) (at : ℕ) (d : List ℕ × V) → IsFirst key at es d → found key es ≡ Some (slice_index_or es at d).1
  found-first key [] at d first = absurd (omega (arith, first.0))
  found-first key (e ∷ es) zero d first = ap (λ b. cond b (Some e.1) (found key es)) first.1
  found-first key (e ∷ es) (suc at) d first =
      let rest = in_rest key at e es d first in
      ap (λ b. cond b (Some e.1) (found key es)) rest.0 ∙ found-first key es at d rest.1

  pub get-first : (key : List ℕ) (es : Entries V) (at : ℕ) (e : List ℕ × V) → position (λ e. is_same key e.0) es ≡ Some at → e ≡ slice_index_or es at e
      → map.get (map_of es) key ≡ Some e.1
  get-first key es at e is own =
      get-is es key ∙ found-first key es at e (position-Some (λ (x : List ℕ × V). is_same key x.0) es at e is) ∙ ap (λ (x : List ℕ × V). Some x.1) (sym own)

  -- the entries of some keys
  kept : (test : List ℕ → Bool) (es : Entries V) → map_of (filter (λ e. test e.0) es) ≡ map.retain_keys (map_of es) test
  kept test es = same_when _ _ (λ q.
      let alike = λ (x : List ℕ) (tied : slice_cmp nat_cmp q x ≡ Equal). ap test (sym (exact_bytes q x tied)) in
      entries.find-where_key (slice_cmp nat_cmp) test q alike es
      ∙ ap (λ o. cond (test q) o None) (sym (get-is es q))
      ∙ sym (map.get-retain_keys (map_of es) test q alike))

  pub kept_in : (test : List ℕ → Bool) (es : Entries V) {m : ByImsi V} → map_of es ≡ m → {after : Entries V} → after ≡ filter (λ e. test e.0) es
      → map_of after ≡ map.retain_keys m test
  kept_in test es view is = ap map_of is ∙ kept test es ∙ ap (λ m. map.retain_keys m test) view

  -- a key that has no value, taken out
  pub not_there : (key : List ℕ) (m : ByImsi V) → map.get m key ≡ None → m ≡ map.remove m key
  not_there key m none =
      map.same_map nat_list_cmp_total exact_bytes m (map.remove m key) (λ q. unchanged q ∙ sym (map.get-remove nat_list_cmp_total m key q))
    where
      unchanged : (q : List ℕ) → map.get m q ≡ cond (is_same q key) None (map.get m q)
      unchanged q = elim (is_same q key) as (λ b. is_same q key ≡ b → map.get m q ≡ cond b None (map.get m q)) [
        | true ↦ λ same. ap (map.get m) (same_are_equal q key same) ∙ none
        | false ↦ λ unlike. refl
      ] refl

  -- entries in two lists, of which one is searched after the other
  pub found-append : (q : List ℕ) (xs ys : Entries V) → found q (xs ++ ys) ≡ option_or (found q xs) (found q ys)
  found-append q [] ys = refl
  found-append q (e ∷ es) ys =
      elim (is_same q e.0) as (λ b. cond b (Some e.1) (found q (es ++ ys)) ≡ option_or (cond b (Some e.1) (found q es)) (found q ys)) [
        | true ↦ refl
        | false ↦ found-append q es ys
      ]

  inserted : (key : List ℕ) (value : V) (before after : Entries V) → ((q : List ℕ) → found q after ≡ cond (is_same q key) (Some value) (found q before))
      → map_of after ≡ map.insert (map_of before) key value
  inserted key value before after finds = same_when _ _ (λ q.
      finds q ∙ sym (map.get-insert nat_list_cmp_total (map_of before) key value q ∙ ap (cond (is_same q key) (Some value)) (get-is before q)))

  found-amid : (q key : List ℕ) (value : V) (xs ys : Entries V) → found key (xs ++ ys) ≡ None
      → found q (xs ++ (key, value) ∷ ys) ≡ cond (is_same q key) (Some value) (found q (xs ++ ys))
  found-amid q key value [] ys none = refl
  found-amid q key value (e ∷ es) ys none =
      elim (is_same key e.0) as (λ b. is_same key e.0 ≡ b → cond b (Some e.1) (found key (es ++ ys)) ≡ None
      → found q (e ∷ (es ++ (key, value) ∷ ys)) ≡ cond (is_same q key) (Some value) (found q (e ∷ (es ++ ys)))) [
        | true ↦ λ here none. absurd (subst (λ o. T (is_some o)) none tt)
        | false ↦ λ there none.
            ap (cond (is_same q e.0) (Some e.1)) (found-amid q key value es ys none)
            ∙ exchanged (is_same q e.0) (is_same q key) (Some e.1) (Some value) (found q (es ++ ys)) (apart q key e.0 there)
      ] refl none

  -- an entry more of a key that has none
  pub added : (key : List ℕ) (value : V) (xs ys : Entries V) {before after : Entries V} {m : ByImsi V} → before ≡ xs ++ ys → map_of before ≡ m
      → map.get m key ≡ None → after ≡ xs ++ (key, value) ∷ ys → map_of after ≡ map.insert m key value
  added key value xs ys {before} was view none is =
      let missed = ap (found key) (sym was) ∙ sym (get-is before key) ∙ ap (λ m. map.get m key) view ∙ none in
      ap map_of is ∙ inserted key value (xs ++ ys) _ (λ q. found-amid q key value xs ys missed) ∙ ap (λ m. map.insert m key value) (ap map_of (sym was) ∙ view)

  -- another value in the first entry of a key that is there
  module _ (key : List ℕ) (value : V) where
    found-with : (q : List ℕ) (es : Entries V) → is_some (found key es) ≡ true
        → found q (with_value_of key value es) ≡ cond (is_same q key) (Some value) (found q es)
    found-with q [] some = absurd (subst T (sym some) tt)
    found-with q (e ∷ es) some =
        elim (is_same key e.0) as (λ b. is_same key e.0 ≡ b → is_some (cond b (Some e.1) (found key es)) ≡ true
        → found q (cond b ((e.0, value) ∷ es) (e ∷ with_value_of key value es)) ≡ cond (is_same q key) (Some value) (found q (e ∷ es))) [
          | true ↦ λ here some.
              shadowed (is_same q e.0) (Some value) (Some e.1) (found q es)
              ∙ ap (λ k. cond (is_same q k) (Some value) (found q (e ∷ es))) (sym (same_are_equal key e.0 here))
          | false ↦ λ there some.
              ap (cond (is_same q e.0) (Some e.1)) (found-with q es some)
              ∙ exchanged (is_same q e.0) (is_same q key) (Some e.1) (Some value) (found q es) (apart q key e.0 there)
        ] refl some

    with_value : (es : Entries V) → is_some (map.get (map_of es) key) ≡ true → map_of (with_value_of key value es) ≡ map.insert (map_of es) key value
    with_value es some = inserted key value es (with_value_of key value es) (λ q. found-with q es (ap is_some (sym (get-is es key)) ∙ some))

    set_first : (es : Entries V) (at : ℕ) (d : List ℕ × V) → IsFirst key at es d
        → slice_set es at ((slice_index_or es at d).0, value) ≡ with_value_of key value es
    set_first [] at d first = absurd (omega (arith, first.0))
    set_first (e ∷ es) zero d first = sym (ap (λ b. cond b ((e.0, value) ∷ es) (e ∷ with_value_of key value es)) first.1)
    set_first (e ∷ es) (suc at) d first =
        let rest = in_rest key at e es d first in
        ap (λ others. e ∷ others) (set_first es at d rest.1) ∙ sym (ap (λ b. cond b ((e.0, value) ∷ es) (e ∷ with_value_of key value es)) rest.0)

  -- the value at the place that a search finds
  pub with_set : (key : List ℕ) (value : V) (es : Entries V) {at : ℕ} → position (λ e. is_same key e.0) es ≡ Some at → {e : List ℕ × V}
      → e ≡ slice_index_or es at e → slice_set es at (e.0, value) ≡ with_value_of key value es
  with_set key value es {at} is {e} own =
      ap (λ (x : List ℕ × V). slice_set es at (x.0, value)) own
      ∙ set_first key value es at e (position-Some (λ (x : List ℕ × V). is_same key x.0) es at e is)

  -- the map of entries into which another value of a key is written
  pub written : (key : List ℕ) (value : V) (es : Entries V) {after : Entries V} {m : ByImsi V} → after ≡ with_value_of key value es → map_of es ≡ m
      → is_some (map.get m key) ≡ true → map_of after ≡ map.insert m key value
  written key value es is view there =
      ap map_of is ∙ with_value key value es (ap (λ m. is_some (map.get m key)) view ∙ there) ∙ ap (λ m. map.insert m key value) view
