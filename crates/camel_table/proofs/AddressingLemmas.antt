-- A bucket more changes the place of no hash but those of the bucket that is divided.
use Rattle.std.proofs.Common.{◌≡◌, ◌⊎◌, ◌∙◌, ℕ, zero, suc, ◌+◌, ◌*◌, ◌/◌, ◌%◌, ◌-◌, ◌<◌, ◌≤◌, ◌^◌, cond, inl, inr, sym, ap, subst, arith}
use Rattle.std.proofs.Math.Nat.{mod-eq_of_lt, mod-lt, pow-le-pow_right, pow-succ'}
use Rattle.std.proofs.lemmas.Bool.{cases_lt, le-ltb, lt-ltb}
use Rattle.std.proofs.lemmas.Nat.{mod-pow-add, pow_pos}
use Rattle.camel_table.specs.Buckets.{bucket_in}

-- the place of a hash by whether there is its bucket of the next round
pub place_wide : (level count hash : ℕ) → hash % 2 ^ (1 + level) < count → bucket_in level count hash ≡ hash % 2 ^ (1 + level)
place_wide level count hash lt = ap (λ b. cond b (hash % 2 ^ (1 + level)) (hash % 2 ^ level)) (lt-ltb _ _ lt)

pub place_narrow : (level count hash : ℕ) → count ≤ hash % 2 ^ (1 + level) → bucket_in level count hash ≡ hash % 2 ^ level
place_narrow level count hash le = ap (λ b. cond b (hash % 2 ^ (1 + level)) (hash % 2 ^ level)) (le-ltb _ _ le)

pub double : (level : ℕ) → 2 ^ (1 + level) ≡ 2 * 2 ^ level
double level = ap (λ n. 2 ^ n) (omega arith) ∙ pow-succ' 2 level

-- the numbers that a program computes with
pub few : (level : ℕ) → level ≤ 32 → 2 ^ level ≤ 4294967296
few level le = pow-le-pow_right {n = 2} (omega arith) {i = level} {j = 32} le

pub shifted_two : (level : ℕ) → level ≤ 32 → 2 * 2 ^ level % 18446744073709551616 ≡ 2 ^ (1 + level)
shifted_two level le =
    let bound = few level le in
    mod-eq_of_lt (omega (arith, bound)) ∙ sym (double level)

pub shifted_one : (level : ℕ) → level ≤ 32 → 1 * 2 ^ level % 18446744073709551616 ≡ 2 ^ level
shifted_one level le =
    let bound = few level le in
    mod-eq_of_lt (omega (arith, bound)) ∙ omega arith

-- the wider part of a hash is the narrower one, or that and a half more
by_half : (half : ℕ) (wide narrow part : ℕ) → half < 2 → wide ≡ half * part + narrow → (wide ≡ narrow) ⊎ (wide ≡ part + narrow)
by_half zero wide narrow part lt is = inl (is ∙ omega arith)
by_half (suc zero) wide narrow part lt is = inr (is ∙ omega arith)
by_half (suc (suc half)) wide narrow part lt is = absurd (omega (arith, lt))

wide_or_narrow : (level hash : ℕ) → (hash % 2 ^ (1 + level) ≡ hash % 2 ^ level) ⊎ (hash % 2 ^ (1 + level) ≡ 2 ^ level + hash % 2 ^ level)
wide_or_narrow level hash = by_half (hash / 2 ^ level % 2) _ _ (2 ^ level) (mod-lt _ (omega arith)) (mod-pow-add hash 1 level)

narrow_below : (level hash : ℕ) → hash % 2 ^ level < 2 ^ level
narrow_below level hash = mod-lt hash (pow_pos level)

-- each place is that of a bucket
pub place_below : (level count hash : ℕ) → 2 ^ level ≤ count → bucket_in level count hash < count
place_below level count hash began = elim (cases_lt (hash % 2 ^ (1 + level)) count) [
  | inl lt ↦ rw (place_wide level count hash lt) lt
  | inr le ↦ let narrow = narrow_below level hash in rw (place_narrow level count hash le) (omega (arith, narrow, began))
]

-- with a bucket more, a hash keeps its place, or it had that of the bucket that is divided and has that of the new one
abbrev pub Moves : (divided new before after : ℕ) → Type 0
Moves divided new before after = (after ≡ before) ⊎ ((before ≡ divided) × (after ≡ new))

place_next : (level count hash : ℕ) → 2 ^ level ≤ count → Moves (count - 2 ^ level) count (bucket_in level count hash) (bucket_in level (count + 1) hash)
place_next level count hash began = elim (cases_lt (hash % 2 ^ (1 + level)) count) [
  | inl lt ↦ inl (place_wide level (count + 1) hash (omega (arith, lt)) ∙ sym (place_wide level count hash lt))
  | inr le ↦ elim (cases_lt count (hash % 2 ^ (1 + level))) [
    | inl more ↦ inl (place_narrow level (count + 1) hash (omega (arith, more)) ∙ sym (place_narrow level count hash le))
    | inr least ↦
        let same : hash % 2 ^ (1 + level) ≡ count = omega (arith, le, least) in
        let narrow = narrow_below level hash in
        let old : hash % 2 ^ level ≡ count - 2 ^ level =
        elim (wide_or_narrow level hash) [ inl is ↦ omega (arith, is, same, narrow, began) | inr is ↦ omega (arith, is, same) ] in
        inr (place_narrow level count hash le ∙ old, place_wide level (count + 1) hash (omega (arith, same)) ∙ same)
  ]
]

-- if each bucket of the round is divided, the next round has the same addressing
pub place_round : (level count hash : ℕ) → count ≡ 2 ^ (1 + level) → bucket_in (1 + level) count hash ≡ bucket_in level count hash
place_round level count hash whole =
    let old = place_wide level count hash (omega (arith, whole, narrow_below (1 + level) hash)) in
    elim (wide_or_narrow (1 + level) hash) [
      | inl is ↦ place_wide (1 + level) count hash (omega (arith, is, whole, narrow_below (1 + level) hash)) ∙ is ∙ sym old
      | inr is ↦ place_narrow (1 + level) count hash (omega (arith, is, whole)) ∙ sym old
    ]

-- with a bucket more, in this round or at the beginning of the next one
pub place_more : (level next count hash : ℕ) → (next ≡ level) ⊎ ((next ≡ 1 + level) × (count ≡ 2 ^ (1 + level))) → 2 ^ next ≤ count
    → Moves (count - 2 ^ next) count (bucket_in level count hash) (bucket_in next (count + 1) hash)
place_more level next count hash (inl same) began =
    subst (λ n. Moves (count - 2 ^ next) count (bucket_in n count hash) (bucket_in next (count + 1) hash)) same (place_next next count hash began)
place_more level next count hash (inr whole) began =
    subst (λ n. Moves (count - 2 ^ next) count n (bucket_in next (count + 1) hash))
    (ap (λ n. bucket_in n count hash) whole.0 ∙ place_round level count hash whole.1)
    (place_next next count hash began)

pub some_power : (level : ℕ) → 0 < 2 ^ level
some_power level = pow_pos level

pub less_than : (count most same : ℕ) → count ≤ most → (count ≡ most → ⊥) → same ≡ most → count + 1 ≤ same
less_than count most same le other is = elim (cases_lt count most) [
  | inl lt ↦ omega (arith, lt, is)
  | inr ge ↦ absurd (other (omega (arith, le, ge)))
]
