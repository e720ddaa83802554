-- How far a script is read.
use Rattle.std.proofs.Common.{arith, ◌≡◌, ◌∙◌, inl, inr, refl, sym, ap, false, IsTrue, ℕ, ◌+◌, ◌≤◌, Option, Some}
use Rattle.std.proofs.Common.{None, IfSome, List, [], ◌∷◌, ◌++◌, append_assoc, append-nil, length, length-append}
use Rattle.camel_tbcd.specs.declared.profile.Profile.{Profile}
use Rattle.camel_audit.specs.declared.audit_fault.AuditFault.TheVariants as audit
use Rattle.camel_script.specs.Script.{FaultsAs, Gives, IsMemoryOrReadFault, ScriptData, script_fault_code}
use Rattle.camel_script.specs.declared.record.Record.{Record}
use Rattle.camel_script.specs.declared.script_fault.ScriptFault.{ScriptFault}
use Rattle.camel_script_replay.proofs.Progress.{not_of_kind}
use Rattle.camel_script_replay.specs.Output.{is_text_code, is_write_code, AppendsPart}
use Rattle.camel_replay_lib.specs.ThreadsOutput.{IsThreadsOutput, IsAllOf}
use Rattle.camel_replay_lib.specs.ThreadsOutput.{StopsReading, ThreadsStop}
use Rattle.camel_script_replay.specs.declared.script_replay.ReplayFault.{ReplayFault}
use Rattle.camel_replay_lib.specs.declared.threaded_replay.threads_fault.ThreadsFault.{ThreadsFault}
use Rattle.camel_replay_lib.specs.declared.threaded_replay.threads_fault.ThreadsFault.TheVariants as run

-- These records were read, and the script still gives the rest, if its octets are known.
abbrev pub HasRead : Option ScriptData → List Record → Option ScriptData → Type 0
HasRead None records left = Unit {0}
HasRead (Some all) records None = ⊥
HasRead (Some all) records (Some rest) = (all.records ≡ records ++ rest.records) × (all.fault ≡ rest.fault)

-- one record more was read
pub HasRead-push : (known left next : Option ScriptData) (records : List Record) (read : Record) → HasRead known records left → Gives left next (Some read)
    → HasRead known (records ++ read ∷ []) next
HasRead-push None left next records read so_far gives = tt
HasRead-push (Some all) None next records read so_far gives = absurd so_far
HasRead-push (Some all) (Some rest) None records read so_far gives = absurd gives
HasRead-push (Some all) (Some rest) (Some next) records read so_far gives =
    (so_far.0 ∙ rw gives.0 (sym (append_assoc records (read ∷ []) next.records)), so_far.1 ∙ gives.1)

-- the records that were read are the first of the script
within_all : (all rest : ScriptData) (records : List Record) → all.records ≡ records ++ rest.records → length records ≤ length all.records
within_all all rest records so_far = rw so_far (rw (length-append records rest.records) (omega arith))

-- out of memory for a record that was read, or before the first one
pub stopped_by_memory : (known left : Option ScriptData) (records : List Record) (stop : ReplayFault) → HasRead known records left
    → stop ≡ record { number = Some (length records + 1); code = 102 } → IfSome known (λ given. StopsReading given stop)
stopped_by_memory None left records stop so_far is = tt
stopped_by_memory (Some all) None records stop so_far is = absurd so_far
stopped_by_memory (Some all) (Some rest) records stop so_far is = record {
  count = length records;
  within = within_all all rest records so_far.0;
  place = ap (λ (x : ReplayFault). x.number) is;
  text = not_of_kind _ is_text_code stop.code 102 (ap (λ (x : ReplayFault). x.code) is) refl;
}

-- the code of a fault of memory or of the reader is none of the script's text
not_text : (e : ScriptFault) → IsMemoryOrReadFault e → is_text_code (script_fault_code e) ≡ false
not_text e (inl memory) = rw memory refl
not_text e (inr read) = rw read refl

-- a read of the script failed
pub stopped_reading : (known left : Option ScriptData) (records : List Record) (e : ScriptFault) (stop : ReplayFault) → HasRead known records left
    → FaultsAs e left → stop ≡ record { number = Some (length records + 1); code = script_fault_code e } → IfSome known (λ given. StopsReading given stop)
stopped_reading None left records e stop so_far faults is = tt
stopped_reading (Some all) None records e stop so_far faults is = absurd so_far
stopped_reading (Some all) (Some rest) records e stop so_far (inl outside) is = record {
  count = length records;
  within = within_all all rest records so_far.0;
  place = ap (λ (x : ReplayFault). x.number) is;
  text = not_of_kind _ is_text_code stop.code (script_fault_code e) (ap (λ (x : ReplayFault). x.code) is) (not_text e outside);
}
stopped_reading (Some all) (Some rest) records e stop so_far (inr only) is =
    let none : rest.records ≡ [] = ap (λ (given : ScriptData). given.records) only in
    let last : rest.fault ≡ Some e = ap (λ (given : ScriptData). given.fault) only in
    let all_read : all.records ≡ records = so_far.0 ∙ rw none (append-nil records) in
    record {
      count = length records;
      within = within_all all rest records so_far.0;
      place = ap (λ (x : ReplayFault). x.number) is;
      text = λ _. record { fault = rw (so_far.1 ∙ last, is) refl; place = rw (all_read, is) refl };
    }

-- the output could not be written
pub stopped_by_write : {X : Type 0} (given : X → ScriptData) (known : Option X) (old new : Option (List ℕ)) (threads : ℕ) (profile : Profile) (limit : ℕ)
    (records : List Record) (octets : List ℕ) (stop : ReplayFault) → IfSome known (λ x. IsAllOf (given x) records)
    → IsThreadsOutput threads profile limit records octets → AppendsPart old new octets → stop ≡ record { number = None; code = 208 }
    → IfSome known (λ x. ThreadsStop old new threads profile limit (given x) stop)
stopped_by_write given None old new threads profile limit records octets stop all output part is = tt
stopped_by_write given (Some x) old new threads profile limit records octets stop all output part is =
    let code : stop.code ≡ 208 = ap (λ (f : ReplayFault). f.code) is in
    let write : IsTrue (is_write_code stop.code) = rw code refl in
    record {
      unwritten = λ other. absurd (other write);
      write = λ _. record { fault = all.fault; octets = octets; output = rw all.records_read output; written = part };
      text = not_of_kind _ is_text_code stop.code 208 code refl;
      place = inr (record { later = rw code refl; fault = all.fault; place = ap (λ (f : ReplayFault). f.number) is });
    }
