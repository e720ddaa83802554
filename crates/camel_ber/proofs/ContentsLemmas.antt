-- Contents and elements are read exactly where octets spell them.
use Rattle.std.proofs.Common.{[], ◌++◌, ◌+◌, ◌-◌, ◌∙◌, ◌∷◌, ◌≡◌, ◌≤◌, ◌⊎◌, ap, append_assoc, arith, drop, eq-eqb, inl}
use Rattle.std.proofs.Common.{inr, length, List, ltb, None, Ok, Option, refl, Some, subst, suc, sym, take, true, ℕ, ◌≢◌}
use Rattle.std.proofs.Common.{false, get_or}
use Rattle.std.proofs.lemmas.Bool.{eqb-true, ltb-false, le-ltb}
use Rattle.std.proofs.lemmas.List.{length-append, length-take, take-append-drop, take_at, drop_at}
use Rattle.camel_ber.specs.declared.fault.FaultKind.TheVariants.{IndefinitePrimitive, PastEnd}
use Rattle.camel_ber.specs.Elements.{ElementData, IsConstructed, IsDefinite, IsIdentifier, IsLength, ◌>>=◌, content_of}
use Rattle.camel_ber.specs.Elements.{EndReader, fault_at, is_constructed, PlacedData, element_by, identifier_at}
use Rattle.camel_ber.specs.Elements.{length_at, place_of}
use Rattle.camel_ber.proofs.EndLemmas.{BeginsWith, IsRead}
use Rattle.camel_ber.proofs.IdentifierLemmas.{identifier-some, identifier-begins, identifier-found, identifier-read}
use Rattle.camel_ber.proofs.SpelledLength.{IsLengthOrNone, length-found, length-read, length-read_none, length-some}
use Rattle.camel_ber.proofs.StepLemmas.{done, first_done, held, passed, same_value}

-- Contents that are read are spelled so, where the end of indefinite contents is found exactly.

-- the end of contents is found exactly behind contents
pub record ExactEnd (ends : EndReader) (Is : List ℕ → Type 0) : Type 0 where
  pub found : (rest after : List ℕ) → ends rest ≡ Ok after
      → (content : List ℕ) × Is content × (rest ≡ content ++ 0 ∷ 0 ∷ after)
  pub reads : (content after : List ℕ) → Is content → ends (content ++ 0 ∷ 0 ∷ after) ≡ Ok after

-- an element of either form, where `Is` says what indefinite contents are
abbrev pub IsEither : (List ℕ → Type 0) → ElementData → List ℕ → Type 0
IsEither Is e bytes = IsDefinite e bytes
    ⊎ (IsIdentifier e.identifier × IsConstructed e.identifier × Is e.content
    × (bytes ≡ e.identifier ++ (128 ∷ (e.content ++ 0 ∷ 0 ∷ []))))

constructed-is : (identifier : List ℕ) → 1 ≤ length identifier → is_constructed identifier ≡ true
    → IsConstructed identifier
constructed-is [] some test = absurd (omega arith)
constructed-is (first ∷ more) some test = eqb-true _ _ test

pub constructed-holds : (identifier : List ℕ) → IsConstructed identifier → is_constructed identifier ≡ true
constructed-holds [] is = absurd is
constructed-holds (first ∷ more) is = eq-eqb _ _ is

-- the octets before an end of contents
pub before_end : (content after rest : List ℕ) → rest ≡ content ++ 0 ∷ 0 ∷ after
    → take (length rest - (length after + 2)) rest ≡ content
before_end content after rest parts =
    let count : length rest ≡ length content + suc (suc (length after)) =
    ap length parts ∙ length-append content (0 ∷ 0 ∷ after) in
    let less : length rest - (length after + 2) ≡ length content = omega (arith, count) in
    ap (λ (n : ℕ). take n rest) less ∙ ap (take (length content)) parts
    ∙ take_at content (0 ∷ 0 ∷ after) (length content) refl

-- the contents octets of a definite length
definite-found : (end : ℕ) (ends : EndReader) (Is : List ℕ → Type 0) (place : ℕ) (identifier rest lengths : List ℕ)
    (n : ℕ) (read : PlacedData × List ℕ)
    → IsIdentifier identifier → IsLength lengths n
    → content_of end ends place identifier (Some n) rest ≡ Ok read
    → BeginsWith (IsEither Is) (identifier ++ (lengths ++ rest)) read
definite-found end ends Is place identifier rest lengths n read is has e =
    let content = take n rest in
    let after = drop n rest in
    let element : ElementData = record { identifier = identifier; content = content } in
    let made : PlacedData × List ℕ = (record { element = element; place = place; end = end - length after }, after) in
    let there = passed (ltb (length rest) n) (fault_at PastEnd end rest) (done made) read e in
    let enough : n ≤ length rest = ltb-false _ _ there.0 in
    let count : length content ≡ n = omega (arith, length-take n rest) in
    let front = identifier ++ (lengths ++ content) in
    let fits : IsLength lengths (length content) = rw count has in
    let whole : identifier ++ (lengths ++ rest) ≡ front ++ after =
    ap (λ (octets : List ℕ). identifier ++ octets)
    (ap (λ (octets : List ℕ). lengths ++ octets) (sym (take-append-drop n rest))
    ∙ sym (append_assoc lengths content after))
    ∙ sym (append_assoc identifier (lengths ++ content) after) in
    subst (BeginsWith (IsEither Is) (identifier ++ (lengths ++ rest))) (same_value made read there.1)
    (front, inl (lengths, is, fits, refl), whole)

-- the contents octets before an end of contents
indefinite-found : (end : ℕ) {ends : EndReader} {Is : List ℕ → Type 0} (exact : ExactEnd ends Is) (place : ℕ)
    (identifier rest lengths : List ℕ) (read : PlacedData × List ℕ)
    → IsIdentifier identifier → lengths ≡ 128 ∷ []
    → content_of end ends place identifier None rest ≡ Ok read
    → BeginsWith (IsEither Is) (identifier ++ (lengths ++ rest)) read
indefinite-found end {ends} {Is} exact place identifier rest lengths read is has e =
    let made : List ℕ → List ℕ → PlacedData × List ℕ = λ content after. (
      record {
        element = record { identifier = identifier; content = content };
        place = place;
        end = end - (length after + 2);
      },
      after,
    ) in
    let taken : List ℕ → List ℕ = λ after. take (length rest - (length after + 2)) rest in
    let constructed = held (is_constructed identifier) (fault_at IndefinitePrimitive end rest)
    (ends rest >>= λ after. Ok (made (taken after) after)) read e in
    let ended = first_done (ends rest) (λ after. Ok (made (taken after) after)) read constructed.1 in
    let after = ended.0 in
    let before = exact.found rest after ended.1 in
    let content = before.0 in
    let same : taken after ≡ content = before_end content after rest before.2 in
    let front = identifier ++ (128 ∷ (content ++ 0 ∷ 0 ∷ [])) in
    let whole : identifier ++ (lengths ++ rest) ≡ front ++ after =
    ap (λ (octets : List ℕ). identifier ++ (octets ++ rest)) has
    ∙ ap (λ (octets : List ℕ). identifier ++ (128 ∷ octets)) (before.2 ∙ sym (append_assoc content (0 ∷ 0 ∷ []) after))
    ∙ sym (append_assoc identifier (128 ∷ (content ++ 0 ∷ 0 ∷ [])) after) in
    subst (BeginsWith (IsEither Is) (identifier ++ (lengths ++ rest)))
    (ap (λ (octets : List ℕ). made octets after) (sym same) ∙ same_value (made (taken after) after) read ended.2)
    (front, inr (is, constructed-is identifier (identifier-some identifier is) constructed.0, before.1, refl), whole)

pub contents-found : (end : ℕ) {ends : EndReader} {Is : List ℕ → Type 0} (exact : ExactEnd ends Is) (place : ℕ)
    (identifier : List ℕ) (len : Option ℕ) (rest lengths : List ℕ) (read : PlacedData × List ℕ)
    → IsIdentifier identifier → IsLengthOrNone lengths len
    → content_of end ends place identifier len rest ≡ Ok read
    → BeginsWith (IsEither Is) (identifier ++ (lengths ++ rest)) read
contents-found end {ends} {Is} exact place identifier (Some n) rest lengths read is has e =
    definite-found end ends Is place identifier rest lengths n read is has e
contents-found end exact place identifier None rest lengths read is has e =
    indefinite-found end exact place identifier rest lengths read is has e

-- An element of either form is read exactly where octets spell it, where the end of indefinite contents is.

pub element-found : (end : ℕ) {ends : EndReader} {Is : List ℕ → Type 0} (exact : ExactEnd ends Is) (bytes : List ℕ)
    (read : PlacedData × List ℕ) → element_by end ends bytes ≡ Ok read
    → BeginsWith (IsEither Is) bytes read
element-found end {ends} exact bytes read e =
    let place = place_of end bytes in
    let first = first_done (identifier_at end bytes)
    (λ identifier. length_at end identifier.1 >>= λ len. content_of end ends place identifier.0 len.0 len.1) read e in
    let second = first_done (length_at end first.0.1) (λ len. content_of end ends place first.0.0 len.0 len.1) read
    first.2 in
    let identifier = identifier-found end bytes first.0 first.1 in
    let lengths = length-found end first.0.1 second.0 second.1 in
    let contents = contents-found end exact place first.0.0 second.0.0 second.0.1 lengths.0 read identifier.0
    lengths.1 second.2 in
    (contents.0, contents.1, identifier.1 ∙ ap (λ (octets : List ℕ). first.0.0 ++ octets) lengths.2 ∙ contents.2)

pub element-read : (end : ℕ) {ends : EndReader} {Is : List ℕ → Type 0} (exact : ExactEnd ends Is) (e : ElementData)
    (front rest : List ℕ) → IsEither Is e front
    → IsRead e rest (element_by end ends (front ++ rest))
element-read end {ends} exact e front rest (inl is) =
    let octets : List ℕ = e.identifier ++ (is.0 ++ (e.content ++ rest)) in
    let regrouped : front ++ rest ≡ octets =
    ap (λ (y : List ℕ). y ++ rest) is.3 ∙ append_assoc e.identifier (is.0 ++ e.content) rest
    ∙ ap (λ (y : List ℕ). e.identifier ++ y) (append_assoc is.0 e.content rest) in
    let there : ltb (length (e.content ++ rest)) (length e.content) ≡ false =
    le-ltb _ _ (omega (arith, length-append e.content rest)) in
    let placed : PlacedData = record { element = e; place = place_of end octets; end = end - length rest } in (
      placed,
      ap (element_by end ends) regrouped
          ∙ rw (
            identifier-read end e.identifier (is.0 ++ (e.content ++ rest)) is.1,
            length-read end is.0 (e.content ++ rest) (length e.content) is.2,
            there,
            take_at e.content rest (length e.content) refl,
            drop_at e.content rest (length e.content) refl,
          ) refl,
      refl,
    )
element-read end {ends} exact e front rest (inr is) =
    let behind : List ℕ = e.content ++ 0 ∷ 0 ∷ rest in
    let octets : List ℕ = e.identifier ++ (128 ∷ behind) in
    let regrouped : front ++ rest ≡ octets =
    ap (λ (y : List ℕ). y ++ rest) is.3 ∙ append_assoc e.identifier (128 ∷ (e.content ++ 0 ∷ 0 ∷ [])) rest
    ∙ ap (λ (y : List ℕ). e.identifier ++ (128 ∷ y)) (append_assoc e.content (0 ∷ 0 ∷ []) rest) in
    let test : is_constructed e.identifier ≡ true = constructed-holds e.identifier is.1 in
    let content : take (length behind - (length rest + 2)) behind ≡ e.content = before_end e.content rest behind refl in
    let placed : PlacedData = record { element = e; place = place_of end octets; end = end - (length rest + 2) } in (
      placed,
      ap (element_by end ends) regrouped
          ∙ rw (
            identifier-read end e.identifier (128 ∷ behind) is.0,
            length-read_none end behind,
            test,
            exact.reads e.content rest is.2,
            content,
          ) refl,
      refl,
    )

pub element-begins : (Is : List ℕ → Type 0) (e : ElementData) (front : List ℕ) → IsEither Is e front
    → (2 ≤ length front) × (get_or front 0 0 ≢ 0)
element-begins Is e front (inl is) =
    identifier-begins e.identifier (is.0 ++ e.content) front is.1
    (omega (arith, length-append is.0 e.content, length-some is.0 (length e.content) is.2)) is.3
element-begins Is e front (inr is) =
    identifier-begins e.identifier (128 ∷ (e.content ++ 0 ∷ 0 ∷ [])) front is.0 (omega arith) is.3
