-- How far a replay has come: what was written, and what the script still gives.
use Rattle.std.proofs.Common.{arith, ◌≡◌, ◌≢◌, ◌∙◌, ◌⊎◌, inl, inr, refl, sym, ap, true, false, Bool, IsTrue, ℕ, ◌+◌}
use Rattle.std.proofs.Common.{◌-◌, Option, Some, None, IfSome, List, [], ◌∷◌, ◌++◌, append_assoc, length, take}
use Rattle.std.proofs.KnownBytes.{Appends-kept, Appends-nil, Appends-trans, Keeps-refl}
use Rattle.std.proofs.lemmas.List.{append-nil, length-append}
use Rattle.std.proofs.Math.Seq.{take-append-add, take-append_seam}
use Rattle.std.specs.Io.KnownBytes.{Appends, Keeps}
use Rattle.camel_tbcd.specs.declared.profile.Profile.{Profile}
use Rattle.camel_script.specs.Line.{line_text}
use Rattle.camel_script.specs.Script.{FaultsAs, Gives, IsOnlyFault, ScriptData, script_fault_code}
use Rattle.camel_script.specs.declared.record.Record.{Record}
use Rattle.camel_script.specs.declared.script_fault.ScriptFault.{ScriptFault}
use Rattle.camel_script.specs.declared.script_fault.ScriptFault.TheVariants as fault
use Rattle.camel_script_replay.specs.Output.{line_of, output, output_from, is_memory_or_read_code, is_replay_code}
use Rattle.camel_script_replay.specs.Output.{is_text_code, is_write_code, AppendsPart, AppendsProperPart, Stops}
use Rattle.camel_script_replay.specs.Output.{StopsAtFault, StopsBeforeLine, StopsInLine, WritesAll}
use Rattle.camel_script_replay.specs.Store.{StoreData, empty_store, store_after}
use Rattle.camel_script_replay.specs.declared.script_replay.ReplayFault.{ReplayFault}

-- the text of a record's line, and of those of several records
abbrev pub text_in : StoreData → Record → List ℕ
text_in store script_record = line_text (line_of store.profile store.limit store.updates script_record)

abbrev pub output_in : StoreData → List Record → List ℕ
output_in store records = output_from store.profile store.limit store.updates records

-- The lines of the records so far were written, and the script still gives the rest. `lines` is said of
-- every list of further records, so that it gives the whole output and that of the records so far.
pub record Progress (old new : Option (List ℕ)) (all : ScriptData) (profile : Profile) (limit number : ℕ) (store : StoreData) (rest : ScriptData) : Type 0 where
  pub answered : List Record
  pub written : List ℕ
  pub appends : Appends old new written
  pub records : all.records ≡ answered ++ rest.records
  pub lines : (more : List Record) → output profile limit (answered ++ more) ≡ written ++ output_in store more
  pub fault : all.fault ≡ rest.fault
  pub count : number ≡ length answered + 1

-- `Progress`, if the octets of the script are known
abbrev pub Progresses : Option (List ℕ) → Option (List ℕ) → Option ScriptData → Profile → ℕ → ℕ → StoreData → Option ScriptData → Type 0
Progresses old new None profile limit number store left = Unit {0}
Progresses old new (Some all) profile limit number store None = ⊥
Progresses old new (Some all) profile limit number store (Some rest) = Progress old new all profile limit number store rest

pub progress_at_first : (old : Option (List ℕ)) (known : Option ScriptData) (profile : Profile) (limit : ℕ)
    → Progresses old old known profile limit 1 (empty_store profile limit) known
progress_at_first old None profile limit = tt
progress_at_first old (Some all) profile limit =
    record { answered = []; written = []; appends = Appends-nil old; records = refl; lines = λ more. refl; fault = refl; count = refl }

-- a list that is put together in another way gives the same output
same_output : (profile : Profile) (limit : ℕ) {one other : List Record} → one ≡ other → output profile limit one ≡ output profile limit other
same_output profile limit same = ap (λ (records : List Record). output profile limit records) same

module _ {old new : Option (List ℕ)} {all rest : ScriptData} {profile : Profile} {limit number : ℕ} {store : StoreData}
    (so_far : Progress old new all profile limit number store rest) where
  whole_output : output profile limit all.records ≡ so_far.written ++ output_in store rest.records
  whole_output = same_output profile limit so_far.records ∙ so_far.lines rest.records

  written_output : output profile limit so_far.answered ≡ so_far.written
  unfolding output_from
  written_output = same_output profile limit (sym (append-nil so_far.answered)) ∙ so_far.lines [] ∙ append-nil so_far.written

  -- if nothing is left, what was written is the whole output
  output_at_end : rest.records ≡ [] → output profile limit all.records ≡ so_far.written
  unfolding output_from
  output_at_end none = whole_output ∙ rw none (append-nil so_far.written)

  answered_at_end : rest.records ≡ [] → all.records ≡ so_far.answered
  answered_at_end none = so_far.records ∙ rw none (append-nil so_far.answered)

  part_of_output : AppendsPart old new (output profile limit all.records)
  part_of_output = (so_far.written, output_in store rest.records, whole_output, so_far.appends)

  records_before : take (length so_far.answered) all.records ≡ so_far.answered
  records_before = rw so_far.records (take-append_seam so_far.answered rest.records)

  record_count : length all.records ≡ length so_far.answered + length rest.records
  record_count = ap (λ (records : List Record). length records) so_far.records ∙ length-append so_far.answered rest.records

  -- the output begins with what was written, and then a part of the next record's line
  part_with_line : (after : Option (List ℕ)) (script_record : Record) (more : List Record) → rest.records ≡ script_record ∷ more
      → AppendsProperPart new after (text_in store script_record) → AppendsPart old after (output profile limit all.records)
  unfolding output_from
  part_with_line after script_record more next part =
      let front = part.0 in
      let back = part.1 in
      let later = output_in (store_after store script_record) more in
      let whole : output profile limit all.records ≡ (so_far.written ++ front) ++ (back ++ later) =
      whole_output ∙ rw (next, part.2) (simp append_assoc) in
      (so_far.written ++ front, back ++ later, whole, Appends-trans old new after so_far.written front so_far.appends part.4)

  -- nothing more was written
  stops_before_line : (after : Option (List ℕ)) → Keeps new after → StopsBeforeLine old after profile limit all.records (Some number)
  stops_before_line after same =
      record {
        count = length so_far.answered;
        within = omega (arith, record_count);
        written = rw (records_before, written_output) (Appends-kept old new after so_far.written so_far.appends same);
        place = ap (λ (n : ℕ). Some n) so_far.count;
      }

  -- a part of the next record's line was written, but not all of it
  stops_in_line : (after : Option (List ℕ)) (script_record : Record) (more : List Record) → rest.records ≡ script_record ∷ more
      → AppendsProperPart new after (text_in store script_record) → StopsInLine old after profile limit all.records (Some number)
  unfolding output_from
  stops_in_line after script_record more next part =
      let front = part.0 in
      let back = part.1 in
      let up_to : take (length so_far.answered + 1) all.records ≡ so_far.answered ++ take 1 rest.records =
      rw so_far.records (take-append-add so_far.answered rest.records 1) in
      let line : output_in store (take 1 rest.records) ≡ front ++ back = rw (next, part.2) (append-nil (front ++ back)) in
      let one_more : length rest.records ≡ length more + 1 = rw next (omega arith) in
      record {
        count = length so_far.answered;
        front = front;
        back = back;
        within = omega (arith, record_count, one_more);
        written = rw (records_before, written_output) (Appends-trans old new after so_far.written front so_far.appends part.4);
        line = rw (records_before, written_output, up_to)
            (so_far.lines (take 1 rest.records) ∙ rw line (sym (append_assoc so_far.written front back)));
        proper = part.3;
        place = ap (λ (n : ℕ). Some n) so_far.count;
      }

  -- the script has this fault next
  at_text_fault : (e : ScriptFault) (stop : ReplayFault) → stop ≡ record { number = Some number; code = script_fault_code e } → IsOnlyFault e (Some rest)
      → StopsAtFault old new profile limit all stop
  at_text_fault e stop is only =
      let none : rest.records ≡ [] = ap (λ (given : ScriptData). given.records) only in
      let last : rest.fault ≡ Some e = ap (λ (given : ScriptData). given.fault) only in
      record {
        whole = rw (output_at_end none) so_far.appends;
        named = record {
          fault = rw (so_far.fault ∙ last, is) refl;
          place = rw (answered_at_end none, is) (ap (λ (n : ℕ). Some n) so_far.count);
        };
      }

-- a code that is not of this kind
pub not_of_kind : (P : Type 0) (is_kind : ℕ → Bool) (code other : ℕ) → code ≡ other → is_kind other ≡ false → IsTrue (is_kind code) → P
not_of_kind P is_kind code other same none is = absurd (let wrong = rw (same, none) at is in cc)

-- A fault of a read that was not the first one to fail is no fault of a replay, and each other one is. None is of the
-- output.
pub code_of_script : (e : ScriptFault) → (e ≢ fault.Failed → is_replay_code (script_fault_code e) ≡ true) × (is_write_code (script_fault_code e) ≡ false)
code_of_script fault.OutOfMemory = (λ _. refl, refl)
code_of_script fault.Word = (λ _. refl, refl)
code_of_script fault.FieldCount = (λ _. refl, refl)
code_of_script fault.Hexadecimal = (λ _. refl, refl)
code_of_script fault.Number = (λ _. refl, refl)
code_of_script fault.Read = (λ _. refl, refl)
code_of_script fault.TooManyRecords = (λ _. refl, refl)
code_of_script fault.Failed = (λ other. absurd (other refl), refl)

-- a read of the script failed
pub stopped_by_script : (known : Option ScriptData) (old new : Option (List ℕ)) (left : Option ScriptData) (profile : Profile) (limit number : ℕ)
    (store : StoreData) (e : ScriptFault) (stop : ReplayFault) → Progresses old new known profile limit number store left
    → stop ≡ record { number = Some number; code = script_fault_code e } → FaultsAs e left → IfSome known (λ given. Stops old new profile limit given stop)
stopped_by_script None old new left profile limit number store e stop so_far is faults = tt
stopped_by_script (Some given) old new None profile limit number store e stop so_far is faults = absurd so_far
stopped_by_script (Some given) old new (Some rest) profile limit number store e stop so_far is faults =
    let place : stop.number ≡ Some number = ap (λ (x : ReplayFault). x.number) is in
    let code : stop.code ≡ script_fault_code e = ap (λ (x : ReplayFault). x.code) is in
    record {
      part = part_of_output so_far;
      text = text faults code;
      memory_or_read = λ _. rw place (stops_before_line so_far new (Keeps-refl new));
      write = not_of_kind _ is_write_code stop.code (script_fault_code e) code (code_of_script e).1;
    }
  where
    text : FaultsAs e (Some rest) → stop.code ≡ script_fault_code e → IsTrue (is_text_code stop.code) → StopsAtFault old new profile limit given stop
    text (inl (inl memory)) code = not_of_kind _ is_text_code stop.code 102 (code ∙ ap script_fault_code memory) refl
    text (inl (inr read)) code = not_of_kind _ is_text_code stop.code 206 (code ∙ ap script_fault_code read) refl
    text (inr only) code = λ _. at_text_fault so_far e stop is only

module _ (old mid new : Option (List ℕ)) (profile : Profile) (limit number : ℕ) (store : StoreData) where
  -- one more record was answered by its line
  pub progress_by_one : (known left next : Option ScriptData) (script_record : Record) → Progresses old mid known profile limit number store left
      → Gives left next (Some script_record) → Appends mid new (text_in store script_record)
      → Progresses old new known profile limit (number + 1) (store_after store script_record) next
  unfolding output_from
  progress_by_one None left next script_record so_far gives line = tt
  progress_by_one (Some all) None next script_record so_far gives line = absurd so_far
  progress_by_one (Some all) (Some rest) None script_record so_far gives line = absurd gives
  progress_by_one (Some all) (Some rest) (Some next) script_record so_far gives line =
      let text = text_in store script_record in
      record {
        answered = so_far.answered ++ script_record ∷ [];
        written = so_far.written ++ text;
        appends = Appends-trans old mid new so_far.written text so_far.appends line;
        records = so_far.records ∙ rw gives.0 (sym (append_assoc so_far.answered (script_record ∷ []) next.records));
        lines = λ more.
            same_output profile limit (append_assoc so_far.answered (script_record ∷ []) more) ∙ so_far.lines (script_record ∷ more)
            ∙ sym (append_assoc so_far.written text (output_in (store_after store script_record) more));
        fault = so_far.fault ∙ gives.1;
        count = omega (arith, so_far.count, length-append so_far.answered (script_record ∷ []));
      }

  -- the record could not be answered: memory was refused, or its line could not be written whole
  pub stopped_in_record : (known left next : Option ScriptData) (script_record : Record) (stop : ReplayFault)
      → Progresses old mid known profile limit number store left → Gives left next (Some script_record)
      → ((stop.code ≡ 102) × Keeps mid new) ⊎ ((stop.code ≡ 208) × AppendsProperPart mid new (text_in store script_record))
      → stop.number ≡ Some number → IfSome known (λ given. Stops old new profile limit given stop)
  stopped_in_record None left next script_record stop so_far gives fails place = tt
  stopped_in_record (Some given) None next script_record stop so_far gives fails place = absurd so_far
  stopped_in_record (Some given) (Some rest) None script_record stop so_far gives fails place = absurd gives
  stopped_in_record (Some given) (Some rest) (Some next) script_record stop so_far gives (inl memory) place = record {
    part = (so_far.written, output_in store rest.records, whole_output so_far, Appends-kept old mid new so_far.written so_far.appends memory.1);
    text = not_of_kind _ is_text_code stop.code 102 memory.0 refl;
    memory_or_read = λ _. rw place (stops_before_line so_far new memory.1);
    write = not_of_kind _ is_write_code stop.code 102 memory.0 refl;
  }
  stopped_in_record (Some given) (Some rest) (Some next) script_record stop so_far gives (inr write) place = record {
    part = part_with_line so_far new script_record next.records gives.0 write.1;
    text = not_of_kind _ is_text_code stop.code 208 write.0 refl;
    memory_or_read = not_of_kind _ is_memory_or_read_code stop.code 208 write.0 refl;
    write = λ _. inl (rw place (stops_in_line so_far new script_record next.records gives.0 write.1));
  }

  -- the end of the script
  pub wrote_all : (known left next : Option ScriptData) → Progresses old mid known profile limit number store left → Gives left next None → Keeps mid new
      → IfSome known (λ given. WritesAll old new profile limit given)
  wrote_all None left next so_far gives same = tt
  wrote_all (Some given) None next so_far gives same = absurd so_far
  wrote_all (Some given) (Some rest) next so_far gives same =
      let none : rest.records ≡ [] = ap (λ (given : ScriptData). given.records) gives in
      let last : rest.fault ≡ None = ap (λ (given : ScriptData). given.fault) gives in
      (so_far.fault ∙ last, rw (output_at_end so_far none) (Appends-kept old mid new so_far.written so_far.appends same))

  -- the flush behind the last line failed
  pub stopped_at_flush : (known left next : Option ScriptData) (stop : ReplayFault) → Progresses old mid known profile limit number store left
      → Gives left next None → Keeps mid new → stop ≡ record { number = Some (number - 1); code = 208 }
      → IfSome known (λ given. Stops old new profile limit given stop)
  stopped_at_flush None left next stop so_far gives same is = tt
  stopped_at_flush (Some given) None next stop so_far gives same is = absurd so_far
  stopped_at_flush (Some given) (Some rest) next stop so_far gives same is =
      let none : rest.records ≡ [] = ap (λ (given : ScriptData). given.records) gives in
      let whole : WritesAll old new profile limit given = wrote_all (Some given) (Some rest) next so_far gives same in
      let code : stop.code ≡ 208 = ap (λ (x : ReplayFault). x.code) is in
      let place : stop.number ≡ Some (number - 1) = ap (λ (x : ReplayFault). x.number) is in
      let count : number - 1 ≡ length given.records = rw (answered_at_end so_far none) (omega (arith, so_far.count)) in
      record {
        part = (so_far.written, [], output_at_end so_far none ∙ sym (append-nil so_far.written), Appends-kept old mid new so_far.written so_far.appends same);
        text = not_of_kind _ is_text_code stop.code 208 code refl;
        memory_or_read = not_of_kind _ is_memory_or_read_code stop.code 208 code refl;
        write = λ _. inr (record { whole = whole; place = place ∙ ap (λ (n : ℕ). Some n) count });
      }
