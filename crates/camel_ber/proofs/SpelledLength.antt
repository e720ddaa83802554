-- A length is read exactly where octets spell it.
use Rattle.std.proofs.Common.{[], ◌++◌, ◌-◌, ◌∷◌, ◌≡◌, ◌≢◌, ◌≤◌, ap, arith, drop, eqb, false, inl, inr, length, List}
use Rattle.std.proofs.Common.{ltb, None, Ok, Option, refl, Some, subst, sym, take, true, ℕ}
use Rattle.std.proofs.lemmas.Bool.{eqb-false, eqb-true, le-ltb, lt-ltb, ltb-false, ltb-true, ne_eqb}
use Rattle.std.proofs.lemmas.List.{drop_at, length-append, length-take, take-append-drop, take_at}
use Rattle.camel_ber.specs.declared.fault.FaultKind.TheVariants.{LongLength, PastEnd}
use Rattle.camel_ber.specs.Elements.{IsLength, value_of, fault_at, length_at}
use Rattle.camel_ber.proofs.StepLemmas.{chosen, done, passed, same_value}

-- length octets of a number, or the one of the indefinite form
abbrev pub IsLengthOrNone : List ℕ → Option ℕ → Type 0
IsLengthOrNone octets (Some n) = IsLength octets n
IsLengthOrNone octets None = octets ≡ 128 ∷ []

-- length octets at the front of others
abbrev pub BeginsWithLength : List ℕ → Option ℕ × List ℕ → Type 0
BeginsWithLength bytes read = (octets : List ℕ) × IsLengthOrNone octets read.0 × (bytes ≡ octets ++ read.1)

pub length-found : (end : ℕ) (bytes : List ℕ) (read : Option ℕ × List ℕ) → length_at end bytes ≡ Ok read
    → BeginsWithLength bytes read
unfolding length_at
length-found end [] read e = absurd cc
length-found end (first ∷ rest) read e =
    let count = first - 128 in
    let bytes = first ∷ rest in
    elim (chosen (ltb first 128) (done (Some first, rest)) _ (Ok read) e) [
      | inl short ↦
          subst (BeginsWithLength bytes) (same_value (Some first, rest) read short.1)
          (first ∷ [], inl (ltb-true _ _ short.0, refl, refl), refl)
      | inr high ↦
          elim (chosen (eqb first 128) (done (None, rest)) _ (Ok read) high.1) [
            | inl indefinite ↦
                subst (BeginsWithLength bytes) (same_value (None, rest) read indefinite.1)
                (128 ∷ [], refl, ap (λ (octet : ℕ). octet ∷ rest) (eqb-true _ _ indefinite.0))
            | inr long ↦
                let few = passed (ltb 132 first) (fault_at LongLength end bytes) _ read long.1 in
                let there = passed (ltb (length rest) count) (fault_at PastEnd end bytes)
                (done (Some (value_of (take count rest)), drop count rest)) read few.1 in
                let from_128 : 128 ≤ first = ltb-false _ _ high.0 in
                let not_128 : first ≢ 128 = eqb-false _ _ long.0 in
                let to_132 : first ≤ 132 = ltb-false _ _ few.0 in
                let enough : count ≤ length rest = ltb-false _ _ there.0 in
                let taken : length (take count rest) ≡ count = omega (arith, length-take count rest) in
                subst (BeginsWithLength bytes)
                (same_value (Some (value_of (take count rest)), drop count rest) read there.1) (
                  first ∷ take count rest,
                  inr (omega (arith, taken), omega (arith, taken, not_128), omega (arith, taken), refl),
                  ap (λ (octets : List ℕ). first ∷ octets) (sym (take-append-drop count rest)),
                )
          ]
    ]

pub length-read : (end : ℕ) (octets rest : List ℕ) (n : ℕ) → IsLength octets n
    → length_at end (octets ++ rest) ≡ Ok (Some n, rest)
unfolding length_at
length-read end [] rest n is = absurd is
length-read end (first ∷ octets) rest n is =
    elim is [
      | inl short ↦ let low : ltb first 128 ≡ true = lt-ltb _ _ short.0 in rw (low, short.1, short.2) refl
      | inr long ↦
          let count : first - 128 ≡ length octets = omega (arith, long.0) in
          let from_128 : ltb first 128 ≡ false = le-ltb _ _ (omega (arith, long.0)) in
          let not_128 : eqb first 128 ≡ false = ne_eqb _ _ (λ e. omega (arith, long.0, long.1, e)) in
          let to_132 : ltb 132 first ≡ false = le-ltb _ _ (omega (arith, long.0, long.2)) in
          let there : ltb (length (octets ++ rest)) (length octets) ≡ false =
          le-ltb _ _ (omega (arith, length-append octets rest)) in
          rw (
            from_128,
            not_128,
            to_132,
            count,
            there,
            take_at octets rest (length octets) refl,
            drop_at octets rest (length octets) refl,
            long.3,
          ) refl
    ]

pub length-read_none : (end : ℕ) (rest : List ℕ) → length_at end (128 ∷ rest) ≡ Ok (None, rest)
unfolding length_at
length-read_none end rest = refl

pub length-some : (octets : List ℕ) (n : ℕ) → IsLength octets n → 1 ≤ length octets
length-some [] n is = absurd is
length-some (first ∷ more) n is = omega arith
