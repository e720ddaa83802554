-- The finite map of entries in another order, where no IMSI has two.
use Rattle.std.proofs.Common.{◌≡◌, ◌∙◌, ℕ, zero, suc, ◌+◌, ◌<◌, ◌≤◌, true, false, cond, T, List, [], ◌∷◌, length, slice_index_or, Some, None, true≢false, refl, sym, ap, subst, arith}
use Rattle.std.specs.Cmp.Lexicographic.{nat_list_cmp_total}
use Rattle.std.specs.FinMap as map
use Rattle.std.specs.List.{All, sum_by, swap_remove}
use Rattle.std.specs.List.Sorted.{IsPermutation}
use Rattle.std.specs.Option.{is_some, unwrap_or}
use Rattle.std.proofs.lemmas.List.Elements.{All-cons, All-head, All-nil, All-tail}
use Rattle.std.proofs.lemmas.List.Sorted.{All-permutation, IsPermutation-swap_remove, sum_by-IsPermutation}
use Rattle.std.proofs.lemmas.List.Sums.{sum_by-cons}
use Rattle.camel_table.specs.ByImsi.{ByImsi, HasEachOnce, is_same, map_of}
use Rattle.camel_table.proofs.BucketLemmas.{Entries, found, get-is, same_are_equal, same_when}

module _ {V : Type 0} where
  abbrev once : List ℕ → List ℕ × V → ℕ
  once q e = cond (is_same q e.0) 1 0

  -- how many entries an IMSI has
  abbrev times : List ℕ → Entries V → ℕ
  times q es = sum_by (once q) es

  module _ (q : List ℕ) where
    none_found : (es : Entries V) → times q es ≡ 0 → found q es ≡ None
    none_found [] is = refl
    none_found (e ∷ es) is =
        elim (is_same q e.0) as (λ b. cond b 1 0 + times q es ≡ 0 → cond b (Some e.1) (found q es) ≡ None) [
          | true ↦ λ is. absurd (omega (arith, is))
          | false ↦ λ is. none_found es (omega (arith, is))
        ] (sym (sum_by-cons (once q) e es) ∙ is)

    none_times : (es : Entries V) → found q es ≡ None → times q es ≡ 0
    none_times [] is = refl
    none_times (e ∷ es) is =
        sum_by-cons (once q) e es
        ∙ (elim (is_same q e.0) as (λ b. cond b (Some e.1) (found q es) ≡ None → cond b 1 0 + times q es ≡ 0) [
          | true ↦ λ is. absurd (subst (λ o. T (is_some o)) is tt)
          | false ↦ λ is. omega (arith, none_times es is)
        ] is)

    some_times : (es : Entries V) (value : V) → found q es ≡ Some value → 1 ≤ times q es
    some_times es value is =
        elim (times q es) as (λ n. times q es ≡ n → 1 ≤ n) [
          | zero ↦ λ none. absurd (subst (λ o. T (is_some o)) (sym is ∙ none_found es none) tt)
          | suc n ↦ λ more. omega arith
        ] refl

    -- the entry, if it is of the IMSI, has this value
    abbrev Has : V → List ℕ × V → Type 0
    Has value e = is_same q e.0 ≡ true → e.1 ≡ value

    none_have : (value : V) (es : Entries V) → times q es ≡ 0 → All (Has value) es
    none_have value [] is = All-nil (Has value)
    none_have value (e ∷ es) is =
        elim (is_same q e.0) as (λ b. is_same q e.0 ≡ b → cond b 1 0 + times q es ≡ 0 → All (Has value) (e ∷ es)) [
          | true ↦ λ here is. absurd (omega (arith, is))
          | false ↦ λ there is. All-cons (Has value) e es (λ here. absurd (true≢false (sym here ∙ there))) (none_have value es (omega (arith, is)))
        ] refl (sym (sum_by-cons (once q) e es) ∙ is)

    all_have : (value : V) (es : Entries V) → times q es ≤ 1 → found q es ≡ Some value → All (Has value) es
    all_have value [] le is = All-nil (Has value)
    all_have value (e ∷ es) le is =
        elim (is_same q e.0) as
        (λ b. is_same q e.0 ≡ b → cond b 1 0 + times q es ≤ 1 → cond b (Some e.1) (found q es) ≡ Some value → All (Has value) (e ∷ es)) [
          | true ↦ λ here le is. All-cons (Has value) e es (λ again. ap (λ o. unwrap_or o e.1) is) (none_have value es (omega (arith, le)))
          | false ↦ λ there le is. All-cons (Has value) e es (λ here. absurd (true≢false (sym here ∙ there))) (all_have value es (omega (arith, le)) is)
        ] refl (subst (λ n. n ≤ 1) (sum_by-cons (once q) e es) le) is

    found_value : (value : V) (es : Entries V) → All (Has value) es → 1 ≤ times q es → found q es ≡ Some value
    found_value value [] all le = absurd (omega (arith, le))
    found_value value (e ∷ es) all le =
        elim (is_same q e.0) as (λ b. is_same q e.0 ≡ b → 1 ≤ cond b 1 0 + times q es → cond b (Some e.1) (found q es) ≡ Some value) [
          | true ↦ λ here le. ap Some (All-head (Has value) e es all here)
          | false ↦ λ there le. found_value value es (All-tail (Has value) e es all) (omega (arith, le))
        ] refl (subst (λ n. 1 ≤ n) (sum_by-cons (once q) e es) le)

    same_found : (xs ys : Entries V) → IsPermutation xs ys → times q xs ≤ 1 → found q ys ≡ found q xs
    same_found xs ys moved le =
        let same = sum_by-IsPermutation (once q) xs ys moved in
        elim (found q xs) as (λ o. found q xs ≡ o → found q ys ≡ o) [
          | None ↦ λ is. none_found ys (same ∙ none_times xs is)
          | Some value ↦ λ is.
              found_value value ys (All-permutation (Has value) xs ys moved (all_have value xs le is)) (omega (arith, same, some_times xs value is))
        ] refl

  -- an entry taken out, into whose place the last one comes
  module _ (es : Entries V) (at : ℕ) (x : List ℕ × V) (inside : at < length es) (own : x ≡ slice_index_or es at x) (each : HasEachOnce es) where
    moved : IsPermutation es (x ∷ swap_remove es at x)
    moved = IsPermutation-swap_remove es at x inside own

    with_it : (q : List ℕ) → once q x + times q (swap_remove es at x) ≤ 1
    with_it q =
        let same = sum_by-IsPermutation (once q) es (x ∷ swap_remove es at x) moved in
        omega (arith, same, sum_by-cons (once q) x (swap_remove es at x), each q)

    pub taken_once : HasEachOnce (swap_remove es at x)
    taken_once q = omega (arith, with_it q)

    pub taken : (key : List ℕ) {m : ByImsi V} → is_same key x.0 ≡ true → map_of es ≡ m → map_of (swap_remove es at x) ≡ map.remove m key
    taken key {m} is view =
        same_when (swap_remove es at x) (map.remove m key) (λ q. gone q ∙ sym (map.get-remove nat_list_cmp_total m key q))
      where
        is_key : key ≡ x.0
        is_key = same_are_equal key x.0 is

        gone : (q : List ℕ) → found q (swap_remove es at x) ≡ cond (is_same q key) None (map.get m q)
        gone q =
            elim (is_same q x.0) as (λ b. is_same q x.0 ≡ b → found q (swap_remove es at x) ≡ cond b None (map.get m q)) [
              | true ↦ λ same.
                  let here : once q x ≡ 1 = ap (λ b. cond b 1 0) same in
                  none_found q (swap_remove es at x) (omega (arith, here, with_it q))
              | false ↦ λ unlike.
                  sym (ap (λ b. cond b (Some x.1) (found q (swap_remove es at x))) unlike)
                  ∙ same_found q es (x ∷ swap_remove es at x) moved (each q) ∙ sym (get-is es q) ∙ ap (λ m. map.get m q) view
            ] refl
            ∙ ap (λ k. cond (is_same q k) None (map.get m q)) (sym is_key)
