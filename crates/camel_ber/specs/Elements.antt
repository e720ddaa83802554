-- Elements of BER (ITU-T X.690): the octets that spell them, and their reading.
use Rattle.std.specs.Prelude.{◌≡◌, ◌≢◌, ℕ, zero, suc, ◌⊎◌, ◌+◌, ◌*◌, ◌/◌, ◌%◌, ◌<◌, ◌≤◌, List, [], ◌∷◌, ◌++◌, length}
use Rattle.std.specs.Prelude.{fold, ◌-◌, Bool, false, not, map, take, drop, slice_index, Option, Some, None, Result, Ok}
use Rattle.std.specs.Prelude.{Err, nat_le, nat_lt, ◌==◌, if◌then◌else◌}
use Rattle.camel_ber.specs.declared.fault.Fault.{Fault}
use Rattle.camel_ber.specs.declared.fault.FaultKind.{FaultKind}
use Rattle.camel_ber.specs.declared.fault.FaultKind.TheVariants.{PastEnd, LongLength, IndefinitePrimitive, TooDeep}
use Rattle.camel_ber.specs.declared.fault.FaultKind.TheVariants.{LoneEndOfContents, TagNumber}
use Rattle.camel_ber.specs.declared.fault.ReadError.{ReadError}
use Rattle.camel_ber.specs.declared.octets.Octets.{Octets}
use Rattle.camel_ber.specs.declared.element.Element.{Element}
use Rattle.camel_ber.specs.declared.fault.ReadError.TheVariants as errors

-- Elements of BER and the octets that spell them (ITU-T X.690, 8.1).

-- an element, wherever it is
pub record ElementData : Type 0 where
  pub identifier : List ℕ
  pub content : List ℕ

-- the identifier octets behind the first: bit 8 is set in each but the last
abbrev pub IsContinuation : List ℕ → Type 0
IsContinuation [] = ⊥
IsContinuation (octet ∷ []) = octet < 128
IsContinuation (octet ∷ next ∷ more) = (128 ≤ octet) × IsContinuation (next ∷ more)

-- the tag number of these octets needs them: 31 is the least of one octet, and the first of several is not zero
abbrev pub IsTagNumber : List ℕ → Type 0
IsTagNumber [] = ⊥
IsTagNumber (octet ∷ []) = 31 ≤ octet
IsTagNumber (octet ∷ next ∷ more) = octet ≢ 128

-- identifier octets: one, or one whose five low bits are set and those of the tag number; 0 is of an end of contents
abbrev pub IsIdentifier : List ℕ → Type 0
IsIdentifier [] = ⊥
IsIdentifier (first ∷ more) =
    (first ≢ 0) × (((first % 32 ≢ 31) × (more ≡ [])) ⊎ ((first % 32 ≡ 31) × IsContinuation more × IsTagNumber more))

-- bit 6 of the first identifier octet says that the contents are elements
abbrev pub IsConstructed : List ℕ → Type 0
IsConstructed [] = ⊥
IsConstructed (first ∷ more) = first / 32 % 2 ≡ 1

-- the number that octets stand for, the greatest place first
abbrev pub value_of : List ℕ → ℕ
value_of octets = fold (λ value octet. value * 256 + octet) 0 octets

-- the length octets of a number: one below 128, or one with bit 8 set that says how many follow, one to four, and these
abbrev pub IsLength : List ℕ → ℕ → Type 0
IsLength [] n = ⊥
IsLength (first ∷ octets) n =
    ((first < 128) × (octets ≡ []) × (n ≡ first))
    ⊎ ((first ≡ 128 + length octets) × (1 ≤ length octets) × (length octets ≤ 4) × (n ≡ value_of octets))

-- the definite form: the length says how many contents octets there are
abbrev pub IsDefinite : ElementData → List ℕ → Type 0
IsDefinite element bytes = (lengths : List ℕ) × IsIdentifier element.identifier
    × IsLength lengths (length element.content) × (bytes ≡ element.identifier ++ (lengths ++ element.content))

-- elements one behind the other, and nothing else
abbrev pub IsSeriesOf : (ElementData → List ℕ → Type 0) → List ElementData → List ℕ → Type 0
IsSeriesOf Is [] bytes = bytes ≡ []
IsSeriesOf Is (e ∷ es) bytes = (front rest : List ℕ) × Is e front × IsSeriesOf Is es rest × (bytes ≡ front ++ rest)

-- the indefinite form, of length octet 128: the contents are elements, and two octets 0 end them
abbrev pub IsIndefinite : (ElementData → List ℕ → Type 0) → ElementData → List ℕ → Type 0
IsIndefinite Is element bytes = (es : List ElementData) × IsIdentifier element.identifier
    × IsConstructed element.identifier × IsSeriesOf Is es element.content
    × (bytes ≡ element.identifier ++ (128 ∷ (element.content ++ 0 ∷ 0 ∷ [])))

-- an element, with indefinite forms at most so deep within one another
abbrev pub IsElement : ℕ → ElementData → List ℕ → Type 0
IsElement zero element bytes = IsDefinite element bytes
IsElement (suc depth) element bytes = IsDefinite element bytes ⊎ IsIndefinite (IsElement depth) element bytes

-- elements, with indefinite forms at most so deep within one another
abbrev pub IsSeries : ℕ → List ElementData → List ℕ → Type 0
IsSeries depth es bytes = IsSeriesOf (IsElement depth) es bytes

-- The reading of octets from left to right, up to the first fault, and where each element is.

-- a step, and the next one if the first has no fault
infixl 10 ◌>>=◌
abbrev pub ◌>>=◌ : {A B E : Type 0} → Result A E → (A → Result B E) → Result B E
Ok value >>= next = next value
Err fault >>= next = Err fault

-- octets, and the place in an argument at which they end
pub record OctetsData : Type 0 where
  pub bytes : List ℕ
  pub end : ℕ

-- what clauses see of octets
abbrev pub octets_data : Octets → OctetsData
octets_data octets = record { bytes = octets.bytes.now; end = octets.end }

-- an element, the place of its first octet, and the place at which its contents end
pub record PlacedData : Type 0 where
  pub element : ElementData
  pub place : ℕ
  pub end : ℕ

-- what clauses see of an element
abbrev pub view : Element → PlacedData
view element = record {
  element = record { identifier = element.identifier.now; content = (octets_data element.content).bytes };
  place = element.place;
  end = (octets_data element.content).end;
}

-- what clauses see of elements
abbrev pub views : List Element → List PlacedData
views es = map view es

-- elements, wherever they are
abbrev pub elements : List PlacedData → List ElementData
elements placed = map (λ one. one.element) placed

-- what a function returned, seen by `view`, is what reading gives
abbrev pub Answers : {X Y : Type 0} → (X → Y) → Result X Fault → Result Y Fault → Type 0
Answers view (Ok value) reading = reading ≡ Ok (view value)
Answers view (Err fault) reading = reading ≡ Err fault

-- a function failed as reading does, or memory ran out
abbrev pub Fails : {Y : Type 0} → ReadError → Result Y Fault → Type 0
Fails errors.Memory reading = Unit {0}
Fails (errors.Fault fault) reading = reading ≡ Err fault

-- what a function returned, seen by `view`, is what reading gives, unless memory ran out
abbrev pub Gives : {X Y : Type 0} → (X → Y) → Result X ReadError → Result Y Fault → Type 0
Gives view (Ok value) reading = reading ≡ Ok (view value)
Gives view (Err error) reading = Fails error reading

-- the place of octets that end at a place
abbrev pub place_of : ℕ → List ℕ → ℕ
place_of end bytes = end - length bytes

-- a fault at the place of octets that end at a place
abbrev pub fault_at : FaultKind → ℕ → List ℕ → Fault
fault_at kind end bytes = record { kind = kind; place = place_of end bytes }

-- reads an element at the front of octets, and gives the octets behind it too
abbrev pub ElementReader : Type 0
ElementReader = List ℕ → Result (PlacedData × List ℕ) Fault

-- finds an end of contents, and gives the octets behind it
abbrev pub EndReader : Type 0
EndReader = List ℕ → Result (List ℕ) Fault

-- the identifier octets behind the first, up to the first below 128; the fault if there is none
unfoldable pub continuation_at : Fault → List ℕ → Result (List ℕ × List ℕ) Fault
continuation_at endless [] = Err endless
continuation_at endless (octet ∷ rest) =
    if nat_lt octet 128 then Ok (octet ∷ [], rest)
    else (continuation_at endless rest >>= λ more. Ok (octet ∷ more.0, more.1))

-- whether a tag number needs these octets behind the first
abbrev pub is_tag_number : List ℕ → Bool
is_tag_number [] = false
is_tag_number (octet ∷ []) = nat_le 31 octet
is_tag_number (octet ∷ next ∷ more) = not (octet == 128)

-- the identifier octets at the front of octets that end at a place, and the octets behind them
unfoldable pub identifier_at : ℕ → List ℕ → Result (List ℕ × List ℕ) Fault
identifier_at end [] = Err (fault_at PastEnd end [])
identifier_at end (first ∷ rest) =
    if first == 0 then Err (fault_at LoneEndOfContents end (first ∷ rest))
    else if first % 32 == 31 then
    (continuation_at (fault_at PastEnd end (first ∷ rest)) rest >>= λ more.
    if is_tag_number more.0 then Ok (first ∷ more.0, more.1) else Err (fault_at TagNumber end (first ∷ rest)))
    else Ok (first ∷ [], rest)

-- the length at the front of octets that end at a place, and the octets behind it; None is the indefinite form
unfoldable pub length_at : ℕ → List ℕ → Result (Option ℕ × List ℕ) Fault
length_at end [] = Err (fault_at PastEnd end [])
length_at end (first ∷ rest) =
    if nat_lt first 128 then Ok (Some first, rest)
    else if first == 128 then Ok (None, rest)
    else if nat_lt 132 first then Err (fault_at LongLength end (first ∷ rest))
    else if nat_lt (length rest) (first - 128) then Err (fault_at PastEnd end (first ∷ rest))
    else Ok (Some (value_of (take (first - 128) rest)), drop (first - 128) rest)

-- whether the contents of an element with these identifier octets are elements
abbrev pub is_constructed : List ℕ → Bool
is_constructed identifier = slice_index identifier 0 / 32 % 2 == 1

-- the element of an identifier at a place, with so many contents octets, or those before the end that `ends` finds, and
-- the octets behind it
abbrev pub content_of : ℕ → EndReader → ℕ → List ℕ → Option ℕ → ElementReader
content_of end ends place identifier (Some len) rest =
    if nat_lt (length rest) len then Err (fault_at PastEnd end rest)
    else Ok (
      record {
        element = record { identifier = identifier; content = take len rest };
        place = place;
        end = end - length (drop len rest);
      },
      drop len rest,
    )
content_of end ends place identifier None rest =
    if is_constructed identifier
    then (ends rest >>= λ after. Ok (
      record {
        element = record { identifier = identifier; content = take (length rest - (length after + 2)) rest };
        place = place;
        end = end - (length after + 2);
      },
      after,
    ))
    else Err (fault_at IndefinitePrimitive end rest)

-- the element at the front of octets that end at a place, where `ends` finds the end of indefinite contents, and the
-- octets behind it
abbrev pub element_by : ℕ → EndReader → ElementReader
element_by end ends bytes = do
  identifier ← identifier_at end bytes
  len ← length_at end identifier.1
  content_of end ends (place_of end bytes) identifier.0 len.0 len.1

-- the octets behind an end of contents, which is behind at most so many elements that `one` reads
unfoldable pub end_by : ℕ → ElementReader → ℕ → EndReader
end_by end one zero rest = Err (fault_at PastEnd end rest)
end_by end one (suc fuel) [] = Err (fault_at PastEnd end [])
end_by end one (suc fuel) (zero ∷ []) = Err (fault_at PastEnd end (zero ∷ []))
end_by end one (suc fuel) (zero ∷ zero ∷ after) = Ok after
end_by end one (suc fuel) (zero ∷ suc octet ∷ after) = Err (fault_at LoneEndOfContents end (zero ∷ suc octet ∷ after))
end_by end one (suc fuel) (suc octet ∷ rest) = one (suc octet ∷ rest) >>= λ read. end_by end one fuel read.1

-- the element at the front of octets that end at a place, with indefinite forms at most so deep within one another, and
-- the octets behind it
unfoldable pub element_at : ℕ → ℕ → ElementReader
element_at end zero bytes = element_by end (λ rest. Err (fault_at TooDeep end rest)) bytes
element_at end (suc depth) bytes = element_by end (λ rest. end_by end (element_at end depth) (length rest) rest) bytes

-- the elements that octets are which end at a place, at most so many
unfoldable pub elements_of : ℕ → ℕ → ℕ → List ℕ → Result (List PlacedData) Fault
elements_of end depth zero bytes = Ok []
elements_of end depth (suc fuel) [] = Ok []
elements_of end depth (suc fuel) (first ∷ more) = do
  one ← element_at end depth (first ∷ more)
  others ← elements_of end depth fuel one.1
  Ok (one.0 ∷ others)

-- the elements that octets are, with indefinite forms at most so deep within one another: each has an octet or more
abbrev pub series_of : ℕ → OctetsData → Result (List PlacedData) Fault
series_of depth octets = elements_of octets.end depth (length octets.bytes) octets.bytes
