-- Elements with indefinite forms within one another.
use Rattle.std.proofs.Common.{◌+◌, ◌-◌, ◌<◌, ◌∙◌, ◌≡◌, ap, arith, Err, false, length, List, None, Ok, Option, refl}
use Rattle.std.proofs.Common.{Result, suc, take, true, zero, ℕ, ◌++◌, ◌∷◌, inl, inr, subst, sym}
use Rattle.camel_ber.specs.declared.fault.Fault.{Fault}
use Rattle.camel_ber.specs.declared.fault.FaultKind.TheVariants.{IndefinitePrimitive, TooDeep}
use Rattle.camel_ber.specs.Elements.{content_of, element_at, element_by, end_by, fault_at, identifier_at}
use Rattle.camel_ber.specs.Elements.{is_constructed, length_at, place_of, ElementData, IsElement, IsSeriesOf}
use Rattle.camel_ber.proofs.ContentsLemmas.{ExactEnd, IsEither, element-begins, element-found, element-read}
use Rattle.camel_ber.proofs.EndLemmas.{end-found, end-read, Exact, IsRead}

-- An element by its identifier, its length and the way its contents end.

-- the octets behind an end of contents, of indefinite forms at most so deep
unfoldable pub ends_at : ℕ → ℕ → List ℕ → Result (List ℕ) Fault
ends_at end zero rest = Err (fault_at TooDeep end rest)
ends_at end (suc depth) rest = end_by end (element_at end depth) (length rest) rest

pub ends_at-zero : (end : ℕ) (rest : List ℕ) → ends_at end 0 rest ≡ Err (fault_at TooDeep end rest)
unfolding ends_at
ends_at-zero end rest = refl

pub ends_at-deeper : (end depth : ℕ) (rest : List ℕ) → 0 < depth
    → ends_at end depth rest ≡ end_by end (element_at end (depth - 1)) (length rest) rest
unfolding ends_at
ends_at-deeper end zero rest some = absurd (omega arith)
ends_at-deeper end (suc depth) rest some = let less : suc depth - 1 ≡ depth = omega arith in rw less refl

pub element_at-by : (end depth : ℕ) (bytes : List ℕ)
    → element_at end depth bytes ≡ element_by end (ends_at end depth) bytes
unfolding element_at ends_at
element_at-by end zero bytes = refl
element_at-by end (suc depth) bytes = refl

pub no_identifier : (end depth : ℕ) (bytes : List ℕ) (fault : Fault) → identifier_at end bytes ≡ Err fault
    → element_at end depth bytes ≡ Err fault
no_identifier end depth bytes fault read = element_at-by end depth bytes ∙ rw read refl

pub no_length : (end depth : ℕ) (bytes identifier lengths : List ℕ) (fault : Fault)
    → identifier_at end bytes ≡ Ok (identifier, lengths) → length_at end lengths ≡ Err fault
    → element_at end depth bytes ≡ Err fault
no_length end depth bytes identifier lengths fault read len = element_at-by end depth bytes ∙ rw (read, len) refl

-- an identifier and a length at the front of octets
abbrev pub Begins : ℕ → List ℕ → List ℕ → Option ℕ → List ℕ → Type 0
Begins end bytes identifier len rest = (lengths : List ℕ) × (identifier_at end bytes ≡ Ok (identifier, lengths))
    × (length_at end lengths ≡ Ok (len, rest))

pub Begins-form : (end : ℕ) (bytes identifier lengths : List ℕ) (len form : Option ℕ) (rest : List ℕ)
    → identifier_at end bytes ≡ Ok (identifier, lengths) → length_at end lengths ≡ Ok (len, rest) → len ≡ form
    → Begins end bytes identifier form rest
Begins-form end bytes identifier lengths len form rest read has is =
    (lengths, read, has ∙ ap (λ (some : Option ℕ). Ok (some, rest)) is)

-- behind an identifier and a length, an element is what its contents make of it
pub at_contents : (end depth : ℕ) (bytes identifier : List ℕ) (len : Option ℕ) (rest : List ℕ)
    → Begins end bytes identifier len rest
    → element_at end depth bytes ≡ content_of end (ends_at end depth) (place_of end bytes) identifier len rest
at_contents end depth bytes identifier len rest is = element_at-by end depth bytes ∙ rw (is.1, is.2) refl

pub is_primitive : (end depth : ℕ) (bytes identifier rest : List ℕ) → Begins end bytes identifier None rest
    → is_constructed identifier ≡ false → element_at end depth bytes ≡ Err (fault_at IndefinitePrimitive end rest)
is_primitive end depth bytes identifier rest is test =
    at_contents end depth bytes identifier None rest is ∙ rw test refl

pub has_no_end : (end depth : ℕ) (bytes identifier rest : List ℕ) (fault : Fault)
    → Begins end bytes identifier None rest → is_constructed identifier ≡ true → ends_at end depth rest ≡ Err fault
    → element_at end depth bytes ≡ Err fault
has_no_end end depth bytes identifier rest fault is test read =
    at_contents end depth bytes identifier None rest is ∙ rw (test, read) refl

pub has_end : (end depth : ℕ) (bytes identifier rest after : List ℕ)
    → Begins end bytes identifier None rest → is_constructed identifier ≡ true → ends_at end depth rest ≡ Ok after
    → element_at end depth bytes ≡ Ok (
      record {
        element = record { identifier = identifier; content = take (length rest - (length after + 2)) rest };
        place = place_of end bytes;
        end = end - (length after + 2);
      },
      after,
    )
has_end end depth bytes identifier rest after is test read =
    at_contents end depth bytes identifier None rest is ∙ rw (test, read) refl

-- Elements with indefinite forms within one another are read exactly where octets spell them.

-- indefinite contents, of which there are none at depth 0
abbrev IsContents : ℕ → List ℕ → Type 0
IsContents zero content = ⊥
IsContents (suc depth) content = (es : List ElementData) × IsSeriesOf (IsElement depth) es content

either-element : (depth : ℕ) (e : ElementData) (front : List ℕ) → IsEither (IsContents depth) e front
    → IsElement depth e front
either-element zero e front (inl is) = is
either-element zero e front (inr is) = absurd is.2
either-element (suc depth) e front (inl is) = inl is
either-element (suc depth) e front (inr is) = inr (is.2.0, is.0, is.1, is.2.1, is.3)

element-either : (depth : ℕ) (e : ElementData) (front : List ℕ) → IsElement depth e front
    → IsEither (IsContents depth) e front
element-either zero e front is = inl is
element-either (suc depth) e front (inl is) = inl is
element-either (suc depth) e front (inr is) = inr (is.1, is.2, (is.0, is.3), is.4)

exact-from : (end depth : ℕ) → ExactEnd (ends_at end depth) (IsContents depth)
    → Exact (element_at end depth) (IsElement depth)
exact-from end depth ends = record {
  found = λ bytes read e.
      let found = element-found end ends bytes read (sym (element_at-by end depth bytes) ∙ e) in
      (found.0, either-element depth read.0.element found.0 found.1, found.2);
  reads = λ e front rest is.
      subst (IsRead e rest) (sym (element_at-by end depth (front ++ rest)))
      (element-read end ends e front rest (element-either depth e front is));
  begins = λ e front is. element-begins (IsContents depth) e front (element-either depth e front is);
}

exact-end : (end depth : ℕ) → ExactEnd (ends_at end depth) (IsContents depth)
unfolding ends_at
exact-end end zero = record { found = λ rest after e. absurd cc; reads = λ content after is. absurd is }
exact-end end (suc depth) =
    let exact = exact-from end depth (exact-end end depth) in
    record {
      found = λ rest after e. let found = end-found end exact (length rest) rest after
          e in (found.1, (found.0, found.2), found.3);
      reads = λ content after is. end-read end exact is.0 (length (content ++ 0 ∷ 0 ∷ after)) content after
          (omega arith) is.1;
    }

pub exact-element : (end depth : ℕ) → Exact (element_at end depth) (IsElement depth)
exact-element end depth = exact-from end depth (exact-end end depth)
