-- Identifier octets: those behind the first, as a loop looks for their end, and as octets spell them.
use Rattle.std.proofs.Common.{[], ◌++◌, ◌+◌, ◌<◌, ◌∙◌, ◌∷◌, ◌≡◌, ◌≤◌, ap, append_assoc, drop, Err, false, get_or}
use Rattle.std.proofs.Common.{length, List, ltb, Ok, refl, Result, sym, take, true, ℕ, inl, inr, subst, ◌%◌, ◌≢◌, arith}
use Rattle.std.proofs.Common.{cond, eq-eqb, eqb}
use Rattle.std.proofs.lemmas.List.{drop_all, drop_more, take_more, length-append}
use Rattle.std.proofs.lemmas.Bool.{eqb-false, le-leb, le-ltb, leb-true, lt-ltb, ltb-false, ltb-true, ne_eqb, not-true}
use Rattle.std.proofs.lemmas.Bool.{not_from_false, eqb-true}
use Rattle.camel_ber.specs.declared.fault.Fault.{Fault}
use Rattle.camel_ber.specs.Elements.{◌>>=◌, continuation_at, IsContinuation, IsTagNumber, is_tag_number, IsIdentifier}
use Rattle.camel_ber.specs.Elements.{fault_at, identifier_at}
use Rattle.camel_ber.proofs.StepLemmas.{chosen, done, first_done, same_value, held, passed}
use Rattle.camel_ber.specs.declared.fault.FaultKind.TheVariants.{LoneEndOfContents, PastEnd, TagNumber}

-- The identifier octets behind the first, as a loop looks for their end.

-- octets that were passed, and then what is read behind them
abbrev pub behind_octets : List ℕ → Result (List ℕ × List ℕ) Fault → Result (List ℕ × List ℕ) Fault
behind_octets front reading = reading >>= λ more. Ok (front ++ more.0, more.1)

-- an octet that is read behind others is one of those passed
behind_octets-regroup : (front : List ℕ) (octet : ℕ) (reading : Result (List ℕ × List ℕ) Fault)
    → behind_octets front (reading >>= λ more. Ok (octet ∷ more.0, more.1))
    ≡ behind_octets (front ++ octet ∷ []) reading
behind_octets-regroup front octet (Ok more) = ap (λ (octets : List ℕ). Ok (octets, more.1)) (simp append_assoc)
behind_octets-regroup front octet (Err fault) = refl

pub continuation-not_last : (endless : Fault) (octet : ℕ) (rest : List ℕ) → ltb octet 128 ≡ false
    → continuation_at endless (octet ∷ rest) ≡ (continuation_at endless rest >>= λ more. Ok (octet ∷ more.0, more.1))
unfolding continuation_at
continuation-not_last endless octet rest test = rw test refl

pub continuation-is_last : (endless : Fault) (octet : ℕ) (rest : List ℕ) → ltb octet 128 ≡ true
    → continuation_at endless (octet ∷ rest) ≡ Ok (octet ∷ [], rest)
unfolding continuation_at
continuation-is_last endless octet rest test = rw test refl

continuation-none_last : (endless : Fault) → continuation_at endless [] ≡ Err endless
unfolding continuation_at
continuation-none_last endless = refl

-- an octet from 128 is passed
pub continuation-goes_on : (endless : Fault) (bytes : List ℕ) (at : ℕ) → at < length bytes
    → ltb (get_or bytes at 0) 128 ≡ false
    → behind_octets (take at bytes) (continuation_at endless (drop at bytes)) ≡ continuation_at endless bytes
    → behind_octets (take (at + 1) bytes) (continuation_at endless (drop (at + 1) bytes))
    ≡ continuation_at endless bytes
continuation-goes_on endless bytes at there test so_far =
    let octet = get_or bytes at 0 in
    let left : drop at bytes ≡ octet ∷ drop (at + 1) bytes = drop_more bytes at 0 there in
    let more : take (at + 1) bytes ≡ take at bytes ++ octet ∷ [] = take_more bytes at 0 there in
    ap (λ (front : List ℕ). behind_octets front (continuation_at endless (drop (at + 1) bytes))) more
    ∙ sym (behind_octets-regroup (take at bytes) octet (continuation_at endless (drop (at + 1) bytes)))
    ∙ ap (behind_octets (take at bytes)) (sym (ap (continuation_at endless) left
    ∙ continuation-not_last endless octet (drop (at + 1) bytes) test))
    ∙ so_far

-- the first octet below 128 is the last
pub continuation-ends : (endless : Fault) (bytes : List ℕ) (at : ℕ) → at < length bytes
    → ltb (get_or bytes at 0) 128 ≡ true
    → behind_octets (take at bytes) (continuation_at endless (drop at bytes)) ≡ continuation_at endless bytes
    → continuation_at endless bytes ≡ Ok (take (at + 1) bytes, drop (at + 1) bytes)
continuation-ends endless bytes at there test so_far =
    let octet = get_or bytes at 0 in
    let left : drop at bytes ≡ octet ∷ drop (at + 1) bytes = drop_more bytes at 0 there in
    let more : take (at + 1) bytes ≡ take at bytes ++ octet ∷ [] = take_more bytes at 0 there in
    sym so_far ∙ ap (behind_octets (take at bytes)) (ap (continuation_at endless) left
    ∙ continuation-is_last endless octet (drop (at + 1) bytes) test)
    ∙ ap (λ (front : List ℕ). Ok (front, drop (at + 1) bytes)) (sym more)

-- no octet is left
pub continuation-endless : (endless : Fault) (bytes : List ℕ) (at : ℕ) → length bytes ≤ at
    → behind_octets (take at bytes) (continuation_at endless (drop at bytes)) ≡ continuation_at endless bytes
    → continuation_at endless bytes ≡ Err endless
continuation-endless endless bytes at past so_far =
    sym so_far ∙ ap (behind_octets (take at bytes)) (ap (continuation_at endless) (drop_all at bytes past)
    ∙ continuation-none_last endless)

-- The identifier octets behind the first are read exactly where octets spell them.

-- octets of a kind at the front of others, and the octets behind them
abbrev pub IsFront : (List ℕ → Type 0) → List ℕ → List ℕ × List ℕ → Type 0
IsFront Is bytes parts = Is parts.0 × (bytes ≡ parts.0 ++ parts.1)

IsContinuation-more : (octet : ℕ) (more : List ℕ) → 128 ≤ octet → IsContinuation more → IsContinuation (octet ∷ more)
IsContinuation-more octet [] high is = absurd is
IsContinuation-more octet (next ∷ more) high is = (high, is)

pub continuation-found : (endless : Fault) (bytes : List ℕ) (parts : List ℕ × List ℕ)
    → continuation_at endless bytes ≡ Ok parts → IsFront IsContinuation bytes parts
unfolding continuation_at
continuation-found endless [] parts e = absurd cc
continuation-found endless (octet ∷ rest) parts e =
    elim (chosen (ltb octet 128) (done (octet ∷ [], rest))
    (continuation_at endless rest >>= λ more. Ok (octet ∷ more.0, more.1)) (Ok parts) e) [
      | inl last ↦ subst (IsFront IsContinuation (octet ∷ rest)) (same_value (octet ∷ [], rest) parts last.1)
          (ltb-true _ _ last.0, refl)
      | inr more ↦
          let read = first_done (continuation_at endless rest) (λ more. Ok (octet ∷ more.0, more.1)) parts more.1 in
          let is = continuation-found endless rest read.0 read.1 in
          subst (IsFront IsContinuation (octet ∷ rest)) (same_value (octet ∷ read.0.0, read.0.1) parts read.2) (
            IsContinuation-more octet read.0.0 (ltb-false _ _ more.0) is.0,
            ap (λ (octets : List ℕ). octet ∷ octets) is.1,
          )
    ]

pub continuation-read : (endless : Fault) (octets rest : List ℕ) → IsContinuation octets
    → continuation_at endless (octets ++ rest) ≡ Ok (octets, rest)
continuation-read endless [] rest is = absurd is
continuation-read endless (octet ∷ []) rest is = continuation-is_last endless octet rest (lt-ltb _ _ is)
continuation-read endless (octet ∷ next ∷ more) rest is =
    continuation-not_last endless octet (next ∷ (more ++ rest)) (le-ltb _ _ is.0)
    ∙ rw (continuation-read endless (next ∷ more) rest is.1) refl

-- the test of a tag number
pub tag_number-is : (octets : List ℕ) → is_tag_number octets ≡ true → IsTagNumber octets
tag_number-is [] test = absurd cc
tag_number-is (octet ∷ []) test = leb-true _ _ test
tag_number-is (octet ∷ next ∷ more) test = eqb-false _ _ (not-true _ test)

pub tag_number-holds : (octets : List ℕ) → IsTagNumber octets → is_tag_number octets ≡ true
tag_number-holds [] is = absurd is
tag_number-holds (octet ∷ []) is = le-leb _ _ is
tag_number-holds (octet ∷ next ∷ more) is = not_from_false _ (ne_eqb _ _ is)

-- An identifier is read exactly where octets spell it.

pub identifier-found : (end : ℕ) (bytes : List ℕ) (parts : List ℕ × List ℕ) → identifier_at end bytes ≡ Ok parts
    → IsFront IsIdentifier bytes parts
unfolding identifier_at
identifier-found end [] parts e = absurd cc
identifier-found end (first ∷ rest) parts e =
    let endless = fault_at PastEnd end (first ∷ rest) in
    let unneeded = fault_at TagNumber end (first ∷ rest) in
    let begins = passed (eqb first 0) (fault_at LoneEndOfContents end (first ∷ rest)) _ parts e in
    let not_zero : first ≢ 0 = eqb-false _ _ begins.0 in
    elim (chosen (eqb (first % 32) 31) _ (done (first ∷ [], rest)) (Ok parts) begins.1) [
      | inl several ↦
          let read = first_done (continuation_at endless rest)
          (λ more. cond (is_tag_number more.0) (Ok (first ∷ more.0, more.1)) (Err unneeded)) parts several.1 in
          let needed = held (is_tag_number read.0.0) unneeded (done (first ∷ read.0.0, read.0.1)) parts read.2 in
          let is = continuation-found endless rest read.0 read.1 in
          subst (IsFront IsIdentifier (first ∷ rest)) (same_value (first ∷ read.0.0, read.0.1) parts needed.1) (
            (not_zero, inr (eqb-true _ _ several.0, is.0, tag_number-is read.0.0 needed.0)),
            ap (λ (octets : List ℕ). first ∷ octets) is.1,
          )
      | inr one ↦
          subst (IsFront IsIdentifier (first ∷ rest)) (same_value (first ∷ [], rest) parts one.1)
          ((not_zero, inl (eqb-false _ _ one.0, refl)), refl)
    ]

pub identifier-read : (end : ℕ) (octets rest : List ℕ) → IsIdentifier octets
    → identifier_at end (octets ++ rest) ≡ Ok (octets, rest)
unfolding identifier_at
identifier-read end [] rest is = absurd is
identifier-read end (first ∷ more) rest is =
    let not_zero : eqb first 0 ≡ false = ne_eqb _ _ is.0 in
    elim is.1 [
      | inl one ↦ let test : eqb (first % 32) 31 ≡ false = ne_eqb _ _ one.0 in rw (not_zero, test, one.1) refl
      | inr several ↦
          let test : eqb (first % 32) 31 ≡ true = eq-eqb _ _ several.0 in
          let read = continuation-read (fault_at PastEnd end (first ∷ (more ++ rest))) more rest several.1 in
          rw (not_zero, test, read, tag_number-holds more several.2) refl
    ]

pub identifier-some : (octets : List ℕ) → IsIdentifier octets → 1 ≤ length octets
identifier-some [] is = absurd is
identifier-some (first ∷ more) is = omega arith

-- octets that begin with an identifier and go on begin with no 0
pub identifier-begins : (identifier rest front : List ℕ) → IsIdentifier identifier → 1 ≤ length rest
    → front ≡ identifier ++ rest
    → (2 ≤ length front) × (get_or front 0 0 ≢ 0)
identifier-begins [] rest front is some parts = absurd is
identifier-begins (first ∷ more) rest front is some parts = (
  omega (arith, ap length parts, length-append (first ∷ more) rest),
  λ begins. is.0 (sym (ap (λ (octets : List ℕ). get_or octets 0 0) parts) ∙ begins),
)
