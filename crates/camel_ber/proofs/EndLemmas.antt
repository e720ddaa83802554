-- The end of contents: as a loop looks for it, and behind which elements it is.
use Rattle.std.proofs.Common.{[], ◌+◌, ◌<◌, ◌∙◌, ◌∷◌, ◌≡◌, ◌≢◌, ◌≤◌, arith, Err, get_or, length, List, Ok, refl, Result}
use Rattle.std.proofs.Common.{subst, suc, sym, zero, ℕ, ◌++◌, ap, append_assoc}
use Rattle.std.proofs.lemmas.List.{length-append}
use Rattle.camel_ber.specs.declared.fault.Fault.{Fault}
use Rattle.camel_ber.specs.declared.fault.FaultKind.TheVariants.{PastEnd}
use Rattle.camel_ber.specs.Elements.{◌>>=◌, Answers, ElementReader, end_by, fault_at, PlacedData, view, ElementData}
use Rattle.camel_ber.specs.Elements.{IsSeriesOf}
use Rattle.camel_ber.proofs.StepLemmas.{first_done, same_value}

-- The end of contents, as a loop looks for it.

-- the end that is looked for from here is that from the beginning
pub record Ends (end : ℕ) (one : ElementReader) (rest : List ℕ) (total : Result (List ℕ) Fault) : Type 0 where
  pub fuel : ℕ
  pub enough : length rest ≤ fuel
  pub ends : end_by end one fuel rest ≡ total

-- an element that is passed
pub end-passes : (end : ℕ) (one : ElementReader) (fuel octet : ℕ) (more : List ℕ)
    → end_by end one (suc fuel) (suc octet ∷ more) ≡ (one (suc octet ∷ more) >>= λ read. end_by end one fuel read.1)
unfolding end_by
end-passes end one fuel octet more = refl

-- of octets that do not begin with 0, an element is read, and the end is looked for behind it
end-step : (end : ℕ) (one : ElementReader) (rest : List ℕ) (total : Result (List ℕ) Fault)
    → 0 < length rest → get_or rest 0 0 ≢ 0 → Ends end one rest total
    → (fuel : ℕ) × (length rest ≤ suc fuel) × ((one rest >>= λ read. end_by end one fuel read.1) ≡ total)
end-step end one [] total some not_zero so_far = absurd (omega arith)
end-step end one (zero ∷ more) total some not_zero so_far = absurd (not_zero refl)
end-step end one (suc octet ∷ more) total some not_zero so_far = from so_far.fuel so_far.enough so_far.ends
  where
    from : (fuel : ℕ) → length (suc octet ∷ more) ≤ fuel → end_by end one fuel (suc octet ∷ more) ≡ total
        → (less : ℕ) × (length (suc octet ∷ more) ≤ suc less)
        × ((one (suc octet ∷ more) >>= λ read. end_by end one less read.1) ≡ total)
    from zero enough ends = absurd (omega arith)
    from (suc fuel) enough ends = (fuel, enough, sym (end-passes end one fuel octet more) ∙ ends)

pub end-goes_on : (end : ℕ) (one : ElementReader) (rest : List ℕ) (element : PlacedData) (after : List ℕ)
    (total : Result (List ℕ) Fault)
    → 0 < length rest → get_or rest 0 0 ≢ 0 → one rest ≡ Ok (element, after) → length after < length rest
    → Ends end one rest total → Ends end one after total
end-goes_on end one rest element after total some not_zero read shorter so_far =
    let step = end-step end one rest total some not_zero so_far in
    record { fuel = step.0; enough = omega (arith, shorter, step.1); ends = rw read at step.2 }

pub end-fails : (end : ℕ) (one : ElementReader) (rest : List ℕ) (fault : Fault) (total : Result (List ℕ) Fault)
    → 0 < length rest → get_or rest 0 0 ≢ 0 → one rest ≡ Err fault → Ends end one rest total → total ≡ Err fault
end-fails end one rest fault total some not_zero read so_far =
    let step = end-step end one rest total some not_zero so_far in sym (rw read at step.2)

pub end-is_missing : (end : ℕ) (one : ElementReader) (rest : List ℕ) (total : Result (List ℕ) Fault) → length rest ≡ 0
    → Ends end one rest total → total ≡ Err (fault_at PastEnd end rest)
unfolding end_by
end-is_missing end one [] total nothing so_far = sym so_far.ends ∙ no_end so_far.fuel
  where
    no_end : (fuel : ℕ) → end_by end one fuel [] ≡ Err (fault_at PastEnd end [])
    no_end zero = refl
    no_end (suc fuel) = refl
end-is_missing end one (octet ∷ more) total nothing so_far = absurd cc

-- what is found at an octet 0
pub end-at_zero : {X : Type 0} (view : X → List ℕ) (end : ℕ) (one : ElementReader) (rest : List ℕ)
    (r : Result X Fault) (total : Result (List ℕ) Fault)
    → 0 < length rest → ((fuel : ℕ) → Answers view r (end_by end one (suc fuel) rest)) → Ends end one rest total
    → Answers view r total
end-at_zero {X} view end one rest r total some answer so_far = from so_far.fuel so_far.enough so_far.ends
  where
    from : (fuel : ℕ) → length rest ≤ fuel → end_by end one fuel rest ≡ total → Answers view r total
    from zero enough ends = absurd (omega arith)
    from (suc fuel) enough ends = subst (λ (t : Result (List ℕ) Fault). Answers view r t) ends (answer fuel)

-- An end of contents is found exactly behind elements, where a reader of one element is exact.

-- an element at the front of octets
abbrev pub BeginsWith : (ElementData → List ℕ → Type 0) → List ℕ → PlacedData × List ℕ → Type 0
BeginsWith Is bytes read = (front : List ℕ) × Is read.0.element front × (bytes ≡ front ++ read.1)

-- the element is read, wherever it is
abbrev pub IsRead : ElementData → List ℕ → Result (PlacedData × List ℕ) Fault → Type 0
IsRead e rest reading = (one : PlacedData) × (reading ≡ Ok (one, rest)) × (one.element ≡ e)

-- a reader reads an element exactly where octets spell it
pub record Exact (one : ElementReader) (Is : ElementData → List ℕ → Type 0) : Type 0 where
  pub found : (bytes : List ℕ) (read : PlacedData × List ℕ) → one bytes ≡ Ok read → BeginsWith Is bytes read
  pub reads : (e : ElementData) (front rest : List ℕ) → Is e front → IsRead e rest (one (front ++ rest))
  pub begins : (e : ElementData) (front : List ℕ) → Is e front → (2 ≤ length front) × (get_or front 0 0 ≢ 0)

-- elements, and an end of contents behind them
abbrev pub EndsBehind : (ElementData → List ℕ → Type 0) → List ℕ → List ℕ → Type 0
EndsBehind Is rest after = (es : List ElementData) × (content : List ℕ) × IsSeriesOf Is es content
    × (rest ≡ content ++ 0 ∷ 0 ∷ after)

pub end-found : (end : ℕ) {one : ElementReader} {Is : ElementData → List ℕ → Type 0} (exact : Exact one Is) (fuel : ℕ)
    (rest after : List ℕ)
    → end_by end one fuel rest ≡ Ok after → EndsBehind Is rest after
unfolding end_by
end-found end exact zero rest after e = absurd cc
end-found end exact (suc fuel) [] after e = absurd cc
end-found end exact (suc fuel) (zero ∷ []) after e = absurd cc
end-found end {Is = Is} exact (suc fuel) (zero ∷ zero ∷ more) after e =
    subst (EndsBehind Is (0 ∷ 0 ∷ more)) (same_value more after e) ([], [], refl, refl)
end-found end exact (suc fuel) (zero ∷ suc octet ∷ more) after e = absurd cc
end-found end {one} {Is} exact (suc fuel) (suc octet ∷ more) after e =
    let read = first_done (one (suc octet ∷ more)) (λ read. end_by end one fuel read.1) after e in
    let first = exact.found (suc octet ∷ more) read.0 read.1 in
    let others = end-found end exact fuel read.0.1 after read.2 in (
      read.0.0.element ∷ others.0,
      first.0 ++ others.1,
      (first.0, others.1, first.1, others.2, refl),
      first.2 ∙ ap (λ (octets : List ℕ). first.0 ++ octets) others.3
          ∙ sym (append_assoc first.0 others.1 (0 ∷ 0 ∷ after)),
    )

pub end-read : (end : ℕ) {one : ElementReader} {Is : ElementData → List ℕ → Type 0} (exact : Exact one Is)
    (es : List ElementData) (fuel : ℕ) (content after : List ℕ)
    → length (content ++ 0 ∷ 0 ∷ after) ≤ fuel → IsSeriesOf Is es content
    → end_by end one fuel (content ++ 0 ∷ 0 ∷ after) ≡ Ok after
unfolding end_by
end-read end {one} exact [] fuel content after enough is =
    ap (λ (octets : List ℕ). end_by end one fuel (octets ++ 0 ∷ 0 ∷ after)) is
    ∙ at_end fuel (omega (arith, length-append content (0 ∷ 0 ∷ after)))
  where
    at_end : (fuel : ℕ) → 2 ≤ fuel → end_by end one fuel (0 ∷ 0 ∷ after) ≡ Ok after
    at_end zero enough = absurd (omega arith)
    at_end (suc fuel) enough = refl
end-read end {one} exact (e ∷ es) fuel content after enough is =
    let begins = exact.begins e is.0 is.2 in
    let read = exact.reads e is.0 (is.1 ++ 0 ∷ 0 ∷ after) is.2 in
    let regrouped : content ++ 0 ∷ 0 ∷ after ≡ is.0 ++ (is.1 ++ 0 ∷ 0 ∷ after) =
    ap (λ (octets : List ℕ). octets ++ 0 ∷ 0 ∷ after) is.4 ∙ append_assoc is.0 is.1 (0 ∷ 0 ∷ after) in
    let count : length (content ++ 0 ∷ 0 ∷ after) ≡ length is.0 + length (is.1 ++ 0 ∷ 0 ∷ after) =
    ap length regrouped ∙ length-append is.0 (is.1 ++ 0 ∷ 0 ∷ after) in
    ap (end_by end one fuel) regrouped
    ∙ passes is.0 (is.1 ++ 0 ∷ 0 ∷ after) fuel read.0 begins.0 begins.1 (omega (arith, count)) read.1
    (λ less le. end-read end exact es less is.1 after le is.3)
  where
    passes : (front rest : List ℕ) (fuel : ℕ) (placed : PlacedData) → 2 ≤ length front → get_or front 0 0 ≢ 0
        → length front + length rest ≤ fuel
        → one (front ++ rest) ≡ Ok (placed, rest)
        → ((less : ℕ) → length rest ≤ less → end_by end one less rest ≡ Ok after)
        → end_by end one fuel (front ++ rest) ≡ Ok after
    passes [] rest fuel placed some not_zero enough read onward = absurd (omega arith)
    passes (zero ∷ front) rest fuel placed some not_zero enough read onward = absurd (not_zero refl)
    passes (suc octet ∷ front) rest zero placed some not_zero enough read onward = absurd (omega arith)
    passes (suc octet ∷ front) rest (suc fuel) placed some not_zero enough read onward =
        end-passes end one fuel octet (front ++ rest)
        ∙ ap (λ (reading : Result (PlacedData × List ℕ) Fault). reading >>= λ read. end_by end one fuel read.1) read
        ∙ onward fuel (omega arith)
