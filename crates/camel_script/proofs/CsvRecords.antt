-- The CSV records of bytes, and what one read of one leaves of a script.
use Rattle.std.proofs.Common.{◌≡◌, ◌∙◌, ℕ, zero, suc, ◌+◌, ◌<◌, ◌≤◌, Bool, true, false, List, [], ◌∷◌, length, Option}
use Rattle.std.proofs.Common.{Some, None, refl, sym, ap, arith, add-one, ◌⊎◌, ◌-◌, Ok, Err, inl, inr}
use Rattle.csv.specs.Machine.{Read, ends_at_end, field_after, fields_after, is_end, next_record, step}
use Rattle.csv.specs.Reading.{default_config, records_from, records_next, ReadsNext, ReadRecord, source_of}
use Rattle.csv.specs.declared.parser.Config.{Config}
use Rattle.csv.specs.declared.parser.State.{State}
use Rattle.camel_script.specs.Script.{csv_records, IsConfigured, known_data, FaultsAs, Gives, IsOnlyFault, ScriptData}
use Rattle.camel_script.specs.Script.{first_then, script_of, the_end}
use Rattle.csv.specs.declared.reader.Reader.{Reader}
use Rattle.camel_script.specs.Record.{record_of}
use Rattle.camel_script.specs.declared.record.Record.{Record}
use Rattle.camel_script.specs.declared.script_fault.ScriptFault.{ScriptFault}
use Rattle.csv.specs.declared.parser.State.TheVariants as st
use Rattle.camel_script.specs.declared.script_fault.ScriptFault.TheVariants as fault

-- The CSV records of bytes, one after the other.

-- two reads that are equal leave texts of one length
same_rest : (q p : Read) → Some q ≡ Some p → length q.2 ≡ length p.2
same_rest q p h = let e : q ≡ p = cc in ap (λ (r : Read). length r.2) e

not_some : (p : Read) → None ≡ Some p → ⊥
not_some p h = cc

-- a record takes at least one byte of a text that is not empty
shrinks : (cfg : Config) (s : State) (fields : List (List ℕ)) (field : List ℕ) (c : ℕ) (rest : List ℕ) (p : Read)
    → next_record cfg s fields field (c ∷ rest) ≡ Some p → length p.2 ≤ length rest
unfolding next_record
shrinks cfg s fields field c [] p h = by (is_end (step cfg s c).1) refl
  where
    by : (b : Bool) → is_end (step cfg s c).1 ≡ b → length p.2 ≤ 0
    by true e = let l = same_rest _ p (rw e at h) in omega arith
    by false e = last (ends_at_end (step cfg s c).0) refl
      where
        last : (b : Bool) → ends_at_end (step cfg s c).0 ≡ b → length p.2 ≤ 0
        last true f = let l = same_rest _ p (rw (e, f) at h) in omega arith
        last false f = absurd (not_some p (rw (e, f) at h))
shrinks cfg s fields field c (d ∷ rest) p h = by (is_end (step cfg s c).1) refl (shrinks cfg (step cfg s c).0 _ _ d rest p)
  where
    by : (b : Bool) → is_end (step cfg s c).1 ≡ b
        → (next_record cfg (step cfg s c).0 (fields_after (step cfg s c).1 fields field) (field_after (step cfg s c).1 c field) (d ∷ rest)
        ≡ Some p → length p.2 ≤ length rest)
        → length p.2 ≤ length (d ∷ rest)
    by true e more = let l = same_rest _ p (rw e at h) in omega arith
    by false e more = let l = more (rw e at h) in omega arith

-- no text has no record at the start of one
none_left : (cfg : Config) (n : ℕ) → records_from cfg n st.StartRecord [] ≡ []
unfolding records_from next_record
none_left cfg zero = refl
none_left cfg (suc n) = refl

-- more turns than bytes give all records
enough : (cfg : Config) (n m : ℕ) (s : State) (xs : List ℕ) → length xs < n → length xs < m → records_from cfg n s xs ≡ records_from cfg m s xs
unfolding records_from next_record
enough cfg zero m s xs a b = absurd (omega arith)
enough cfg (suc n) zero s xs a b = absurd (omega arith)
enough cfg (suc n) (suc m) s [] a b = by (ends_at_end s) refl
  where
    by : (t : Bool) → ends_at_end s ≡ t → records_from cfg (suc n) s [] ≡ records_from cfg (suc m) s []
    by true e = rw e (ap (λ (rs : List (List (List ℕ))). ([] ∷ []) ∷ rs) (none_left cfg n ∙ sym (none_left cfg m)))
    by false e = rw e refl
enough cfg (suc n) (suc m) s (c ∷ rest) a b = by (next_record cfg s [] [] (c ∷ rest)) refl (λ (p : Read). enough cfg n m p.1 p.2)
  where
    by : (o : Option Read) → next_record cfg s [] [] (c ∷ rest) ≡ o
        → ((p : Read) → length p.2 < n → length p.2 < m → records_from cfg n p.1 p.2 ≡ records_from cfg m p.1 p.2)
        → records_next (records_from cfg n) (next_record cfg s [] [] (c ∷ rest)) ≡ records_next (records_from cfg m) (next_record cfg s [] [] (c ∷ rest))
    by None e more = rw e refl
    by (Some p) e more =
        let l = shrinks cfg s [] [] c rest p e in
        rw e (ap (λ (rs : List (List (List ℕ))). p.0 ∷ rs) (more p (omega arith) (omega arith)))

-- if there is no next record, there are none
pub csv_records-none : (s : State) (xs : List ℕ) → next_record default_config s [] [] xs ≡ None → csv_records s xs ≡ []
unfolding records_from
csv_records-none s xs h = rw (add-one, h) refl

-- the next record, and then the records after it
pub csv_records-next : (s : State) (xs : List ℕ) (p : Read) → next_record default_config s [] [] xs ≡ Some p → csv_records s xs ≡ p.0 ∷ csv_records p.1 p.2
unfolding records_from next_record
csv_records-next s [] p h = by (ends_at_end s) refl
  where
    by : (t : Bool) → ends_at_end s ≡ t → csv_records s [] ≡ p.0 ∷ csv_records p.1 p.2
    by true e =
        let k = rw e at h in
        let state : p.1 ≡ st.StartRecord = cc in
        let left : p.2 ≡ [] = cc in
        let row : p.0 ≡ [] ∷ [] = cc in
        rw (e, row, state, left) refl
    by false e = let k = rw e at h in cc
csv_records-next s (c ∷ rest) p h =
    let l = shrinks default_config s [] [] c rest p h in
    let first : csv_records s (c ∷ rest) ≡ p.0 ∷ records_from default_config (length (c ∷ rest)) p.1 p.2 = rw (add-one, h) refl in
    first ∙ ap (λ (rs : List (List (List ℕ))). p.0 ∷ rs) (enough default_config (length (c ∷ rest)) (length p.2 + 1) p.1 p.2 (omega arith) (omega arith))

-- What one read of a CSV record does to what a script still gives.

-- no further CSV record is the end of the script
gives_end : (source after : Option (List ℕ)) (state next : State) (most : ℕ) (fields : List (List ℕ))
    → ReadsNext default_config state source after false fields next → Gives (known_data source state most) (Some the_end) None
unfolding script_of
gives_end None after state next most fields reads = tt
gives_end (Some bytes) None state next most fields reads = absurd reads
gives_end (Some bytes) (Some rest) state next most fields reads = by (next_record default_config state [] [] bytes) refl
  where
    by : (o : Option Read) → next_record default_config state [] [] bytes ≡ o → script_of (csv_records state bytes) most ≡ the_end
    by None e = rw (csv_records-none state bytes e) refl
    by (Some read) e = let found = rw e at reads in cc found.0

-- a CSV record that was read is in front of those after it
abbrev pub StandsInFront : Option (List ℕ) → Option (List ℕ) → State → State → List (List ℕ) → Type 0
StandsInFront None after state next fields = Unit {0}
StandsInFront (Some bytes) None state next fields = ⊥
StandsInFront (Some bytes) (Some rest) state next fields = csv_records state bytes ≡ fields ∷ csv_records next rest

in_front : (source after : Option (List ℕ)) (state next : State) (fields : List (List ℕ))
    → ReadsNext default_config state source after true fields next → StandsInFront source after state next fields
in_front None after state next fields reads = tt
in_front (Some bytes) None state next fields reads = reads
in_front (Some bytes) (Some rest) state next fields reads = by (next_record default_config state [] [] bytes) refl
  where
    by : (o : Option Read) → next_record default_config state [] [] bytes ≡ o → csv_records state bytes ≡ fields ∷ csv_records next rest
    by None e = let found = rw e at reads in cc found
    by (Some read) e =
        let found = rw e at reads in
        rw (found.1, found.2, found.3) (csv_records-next state bytes read e)

-- a CSV record past the last that may be read
pub too_many : (source after : Option (List ℕ)) (state next : State) (fields : List (List ℕ)) (most : ℕ) → most ≡ 0
    → StandsInFront source after state next fields → FaultsAs fault.TooManyRecords (known_data source state most)
unfolding script_of
too_many None after state next fields most none front = inr tt
too_many (Some bytes) None state next fields most none front = absurd front
too_many (Some bytes) (Some rest) state next fields most none front = inr (rw (front, none) refl)

-- a CSV record that is a record of the script
pub gives_record : (source after : Option (List ℕ)) (state next : State) (fields : List (List ℕ)) (most less : ℕ) (read : Record)
    → most ≡ suc less → record_of fields ≡ Ok read
    → StandsInFront source after state next fields → Gives (known_data source state most) (known_data after next less) (Some read)
unfolding script_of
gives_record None after state next fields most less read some is front = tt
gives_record (Some bytes) None state next fields most less read some is front = front
gives_record (Some bytes) (Some rest) state next fields most less read some is front =
    let e : script_of (csv_records state bytes) most ≡ first_then (Ok read) (script_of (csv_records next rest) less) = rw (front, some, is) refl in
    (ap (λ (given : ScriptData). given.records) e, ap (λ (given : ScriptData). given.fault) e)

-- a CSV record with a fault of its text
fault_of_text : (source after : Option (List ℕ)) (state next : State) (fields : List (List ℕ)) (most : ℕ) (e : ScriptFault)
    → 0 < most → record_of fields ≡ Err e
    → StandsInFront source after state next fields → IsOnlyFault e (known_data source state most)
unfolding script_of
fault_of_text None after state next fields most e some is front = tt
fault_of_text (Some bytes) None state next fields most e some is front = absurd front
fault_of_text (Some bytes) (Some rest) state next fields most e some is front =
    let one_more : most ≡ suc (most - 1) = omega arith in rw (front, one_more, is) refl

pub fault_in_record : (source after : Option (List ℕ)) (state next : State) (fields : List (List ℕ)) (most : ℕ) (e : ScriptFault)
    → 0 < most → (e ≡ fault.OutOfMemory) ⊎ (record_of fields ≡ Err e)
    → StandsInFront source after state next fields → FaultsAs e (known_data source state most)
fault_in_record source after state next fields most e some (inl memory) front = inl (inl memory)
fault_in_record source after state next fields most e some (inr is) front = inr (fault_of_text source after state next fields most e some is front)

-- a read of a script's reader is of the next CSV record, and leaves the bytes after it
reads_next : {R : Type 0} (remaining : R → Option (List ℕ)) (old new : Reader R) (found : Bool) (fields : List (List ℕ))
    → IsConfigured old → ReadRecord remaining old new found fields
    → ReadsNext default_config old.state (source_of remaining old) (source_of remaining new) found fields new.state
reads_next remaining old new found fields set_up reads = rw reads.1 (rw set_up.config at reads.0)

pub read_none : {R : Type 0} (remaining : R → Option (List ℕ)) (old new : Reader R) (fields : List (List ℕ)) (most : ℕ)
    → IsConfigured old → ReadRecord remaining old new false fields → Gives (known_data (source_of remaining old) old.state most) (Some the_end) None
read_none remaining old new fields most set_up reads =
    gives_end (source_of remaining old) (source_of remaining new) old.state new.state most fields (reads_next remaining old new false fields set_up reads)

pub read_one : {R : Type 0} (remaining : R → Option (List ℕ)) (old new : Reader R) (fields : List (List ℕ))
    → IsConfigured old → ReadRecord remaining old new true fields → StandsInFront (source_of remaining old) (source_of remaining new) old.state new.state fields
read_one remaining old new fields set_up reads =
    in_front (source_of remaining old) (source_of remaining new) old.state new.state fields (reads_next remaining old new true fields set_up reads)
