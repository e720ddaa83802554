-- Elements one behind the other: as a loop reads them, and as octets spell them.
use Rattle.std.proofs.Common.{[], ◌++◌, ◌<◌, ◌∙◌, ◌∷◌, ◌≡◌, ◌≤◌, ap, append_assoc, arith, Err, length, List, Ok, refl}
use Rattle.std.proofs.Common.{Result, suc, sym, zero, ℕ, ◌+◌, subst}
use Rattle.std.proofs.lemmas.List.{append-nil, length-append}
use Rattle.std.specs.Global.{Vec}
use Rattle.std.specs.Prelude.{IfOk}
use Rattle.camel_ber.specs.declared.fault.Fault.{Fault}
use Rattle.camel_ber.specs.Elements.{◌>>=◌, element_at, elements_of, PlacedData, ElementData, IsSeries, elements, Gives}
use Rattle.camel_ber.specs.Elements.{OctetsData, series_of, views}
use Rattle.camel_ber.proofs.NestedLemmas.{exact-element}
use Rattle.camel_ber.proofs.StepLemmas.{first_done, same_value}
use Rattle.camel_ber.specs.declared.element.Element.{Element}
use Rattle.camel_ber.specs.declared.fault.ReadError.{ReadError}
use Rattle.camel_ber.specs.declared.fault.ReadError.TheVariants as errors

-- Elements one behind the other, as a loop reads them.

-- elements that were read, and then those that are read behind them
abbrev pub behind_elements : List PlacedData → Result (List PlacedData) Fault → Result (List PlacedData) Fault
behind_elements front reading = reading >>= λ others. Ok (front ++ others)

-- an element that is read behind others is one of those that were read
behind_elements-regroup : (front : List PlacedData) (one : PlacedData) (reading : Result (List PlacedData) Fault)
    → behind_elements front (reading >>= λ others. Ok (one ∷ others)) ≡ behind_elements (front ++ one ∷ []) reading
behind_elements-regroup front one (Ok others) = ap (λ (all : List PlacedData). Ok all) (simp append_assoc)
behind_elements-regroup front one (Err fault) = refl

-- what was read and what is read from here is what is read from the beginning
pub record Reads (end depth : ℕ) (front : List PlacedData) (rest : List ℕ)
    (total : Result (List PlacedData) Fault) : Type 0 where
  pub fuel : ℕ
  pub enough : length rest ≤ fuel
  pub reads : behind_elements front (elements_of end depth fuel rest) ≡ total

-- an element and those behind it
abbrev pub first_then : ℕ → ℕ → ℕ → Result (PlacedData × List ℕ) Fault → Result (List PlacedData) Fault
first_then end depth fuel reading =
    reading >>= λ one. elements_of end depth fuel one.1 >>= λ others. Ok (one.0 ∷ others)

pub list-first : (end depth fuel octet : ℕ) (more : List ℕ)
    → elements_of end depth (suc fuel) (octet ∷ more) ≡ first_then end depth fuel (element_at end depth (octet ∷ more))
unfolding elements_of
list-first end depth fuel octet more = refl

pub list-none : (end depth fuel : ℕ) → elements_of end depth fuel [] ≡ Ok []
unfolding elements_of
list-none end depth zero = refl
list-none end depth (suc fuel) = refl

-- of octets that are left, an element is read, and then those behind it
list-step : (end depth : ℕ) (front : List PlacedData) (rest : List ℕ) (total : Result (List PlacedData) Fault)
    → 0 < length rest → Reads end depth front rest total → (fuel : ℕ) × (length rest ≤ suc fuel)
    × (behind_elements front (first_then end depth fuel (element_at end depth rest)) ≡ total)
list-step end depth front [] total some so_far = absurd (omega arith)
list-step end depth front (octet ∷ more) total some so_far = from so_far.fuel so_far.enough so_far.reads
  where
    from : (fuel : ℕ) → length (octet ∷ more) ≤ fuel
        → behind_elements front (elements_of end depth fuel (octet ∷ more)) ≡ total
        → (less : ℕ) × (length (octet ∷ more) ≤ suc less)
        × (behind_elements front (first_then end depth less (element_at end depth (octet ∷ more))) ≡ total)
    from zero enough reads = absurd (omega arith)
    from (suc fuel) enough reads =
        (fuel, enough, ap (behind_elements front) (sym (list-first end depth fuel octet more)) ∙ reads)

pub list-goes_on : (end depth : ℕ) (front : List PlacedData) (rest : List ℕ) (one : PlacedData) (after : List ℕ)
    (total : Result (List PlacedData) Fault)
    → 0 < length rest → element_at end depth rest ≡ Ok (one, after) → length after < length rest
    → Reads end depth front rest total → Reads end depth (front ++ one ∷ []) after total
list-goes_on end depth front rest one after total some read shorter so_far =
    let step = list-step end depth front rest total some so_far in record {
      fuel = step.0;
      enough = omega (arith, shorter, step.1);
      reads = sym (behind_elements-regroup front one (elements_of end depth step.0 after)) ∙ (rw read at step.2);
    }

pub list-fails : (end depth : ℕ) (front : List PlacedData) (rest : List ℕ) (fault : Fault)
    (total : Result (List PlacedData) Fault)
    → 0 < length rest → element_at end depth rest ≡ Err fault → Reads end depth front rest total → total ≡ Err fault
list-fails end depth front rest fault total some read so_far =
    let step = list-step end depth front rest total some so_far in sym (rw read at step.2)

pub list-ends : (end depth : ℕ) (front : List PlacedData) (rest : List ℕ) (total : Result (List PlacedData) Fault)
    → length rest ≡ 0 → Reads end depth front rest total → total ≡ Ok front
list-ends end depth front [] total nothing so_far =
    sym so_far.reads ∙ ap (behind_elements front) (list-none end depth so_far.fuel)
    ∙ ap (λ (all : List PlacedData). Ok all) (append-nil front)
list-ends end depth front (octet ∷ more) total nothing so_far = absurd cc

-- Elements one behind the other are read exactly where octets spell them.

pub list-found : (end depth fuel : ℕ) (bytes : List ℕ) (ps : List PlacedData) → length bytes ≤ fuel
    → elements_of end depth fuel bytes ≡ Ok ps
    → IsSeries depth (elements ps) bytes
list-found end depth fuel [] ps enough e =
    subst (λ (ps : List PlacedData). IsSeries depth (elements ps) [])
    (same_value [] ps (sym (list-none end depth fuel) ∙ e)) refl
list-found end depth zero (first ∷ more) ps enough e = absurd (omega arith)
list-found end depth (suc fuel) (first ∷ more) ps enough e =
    let bytes = first ∷ more in
    let exact = exact-element end depth in
    let read = first_done (element_at end depth bytes)
    (λ one. elements_of end depth fuel one.1 >>= λ others. Ok (one.0 ∷ others)) ps
    (sym (list-first end depth fuel first more) ∙ e) in
    let all = first_done (elements_of end depth fuel read.0.1) (λ others. Ok (read.0.0 ∷ others)) ps read.2 in
    let one = exact.found bytes read.0 read.1 in
    let begins = exact.begins read.0.0.element one.0 one.1 in
    let count : length bytes ≡ length one.0 + length read.0.1 = ap length one.2 ∙ length-append one.0 read.0.1 in
    let others = list-found end depth fuel read.0.1 all.0 (omega (arith, count, begins.0)) all.1 in
    subst (λ (ps : List PlacedData). IsSeries depth (elements ps) bytes) (same_value (read.0.0 ∷ all.0) ps all.2)
    (one.0, read.0.1, one.1, others, one.2)

-- the elements are read, wherever they are
abbrev pub AreRead : List ElementData → Result (List PlacedData) Fault → Type 0
AreRead es reading = (ps : List PlacedData) × (reading ≡ Ok ps) × (elements ps ≡ es)

pub list-read : (end depth : ℕ) (es : List ElementData) (fuel : ℕ) (bytes : List ℕ) → length bytes ≤ fuel
    → IsSeries depth es bytes
    → AreRead es (elements_of end depth fuel bytes)
list-read end depth [] fuel bytes enough is = ([], ap (elements_of end depth fuel) is ∙ list-none end depth fuel, refl)
list-read end depth (e ∷ es) fuel [] enough is =
    absurd (omega (arith, ((exact-element end depth).begins e is.0 is.2).0, length-append is.0 is.1, ap length is.4))
list-read end depth (e ∷ es) zero (first ∷ more) enough is = absurd (omega arith)
list-read end depth (e ∷ es) (suc fuel) (first ∷ more) enough is =
    let bytes = first ∷ more in
    let exact = exact-element end depth in
    let begins = exact.begins e is.0 is.2 in
    let count : length bytes ≡ length is.0 + length is.1 = ap length is.4 ∙ length-append is.0 is.1 in
    let one = exact.reads e is.0 is.1 is.2 in
    let others = list-read end depth es fuel is.1 (omega (arith, count, begins.0)) is.3 in
    let read : element_at end depth bytes ≡ Ok (one.0, is.1) = ap (element_at end depth) is.4 ∙ one.1 in (
      one.0 ∷ others.0,
      list-first end depth fuel first more ∙ rw (read, others.1) refl,
      rw (one.2, others.2) refl,
    )

-- A series is read exactly where octets spell it, and what is read is unique.

-- what is read is spelled so
pub series_found : (depth : ℕ) (octets : OctetsData) (ps : List PlacedData) → series_of depth octets ≡ Ok ps
    → IsSeries depth (elements ps) octets.bytes
series_found depth octets ps e = list-found octets.end depth (length octets.bytes) octets.bytes ps (omega arith) e

-- what is spelled so is read
pub series_read : (depth : ℕ) (octets : OctetsData) (es : List ElementData) → IsSeries depth es octets.bytes
    → (ps : List PlacedData) × (series_of depth octets ≡ Ok ps) × (elements ps ≡ es)
series_read depth octets es is = list-read octets.end depth es (length octets.bytes) octets.bytes (omega arith) is

-- octets spell at most one list of elements
pub series_one : (depth : ℕ) (bytes : List ℕ) (es fs : List ElementData) → IsSeries depth es bytes
    → IsSeries depth fs bytes → es ≡ fs
series_one depth bytes es fs a b =
    let octets : OctetsData = record { bytes = bytes; end = length bytes } in
    let one = series_read depth octets es a in
    let other = series_read depth octets fs b in
    sym one.2 ∙ ap elements (same_value one.0 other.0 (sym one.1 ∙ other.1)) ∙ other.2

pub result_found : (depth : ℕ) (octets : OctetsData) (result : Result (Vec Element) ReadError)
    → Gives (λ read. views read.items) result (series_of depth octets)
    → IfOk result (λ read. IsSeries depth (elements (views read.items)) octets.bytes)
result_found depth octets (Ok read) given = series_found depth octets (views read.items) given
result_found depth octets (Err error) given = tt

pub result_reads : (depth : ℕ) (octets : OctetsData) (result : Result (Vec Element) ReadError)
    → Gives (λ read. views read.items) result (series_of depth octets)
    → (es : List ElementData) → IsSeries depth es octets.bytes
    → Gives (λ read. elements (views read.items)) result (Ok es)
result_reads depth octets (Ok read) given es is =
    let all = series_read depth octets es is in
    ap (λ (es : List ElementData). Ok es) (sym all.2
    ∙ ap elements (same_value all.0 (views read.items) (sym all.1 ∙ given)))
result_reads depth octets (Err errors.Memory) given es is = tt
result_reads depth octets (Err (errors.Fault fault)) given es is = let all = series_read depth octets es is in absurd cc
