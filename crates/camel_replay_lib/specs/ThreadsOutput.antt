-- The output of a replay with threads: what it is to be, and what is written of it when the replay ends.
use Rattle.std.specs.Prelude.{◌≡◌, ℕ, ◌+◌, ◌%◌, ◌==◌, ◌≤◌, Bool, true, false, List, [], ◌∷◌, ◌++◌, length, ◌&&◌, ◌||◌}
use Rattle.std.specs.Prelude.{nat_le, Option, None, Some, ◌⊎◌, IsTrue}
use Rattle.std.specs.List.{AllZip, filter, flat_map}
use Rattle.std.specs.Io.KnownBytes.{Appends, Keeps}
use Rattle.camel_audit.specs.Audit.{Passes, audit_fault_code}
use Rattle.camel_audit.specs.declared.transcript.Entry.{Entry}
use Rattle.camel_tbcd.specs.declared.profile.Profile.{Profile}
use Rattle.camel_rows.specs.Decision.{EventData}
use Rattle.camel_rows.specs.Store.{Updates, accepted_updates, no_updates}
use Rattle.camel_script.specs.Line.{line_text}
use Rattle.camel_script.specs.declared.record.Record.{Record}
use Rattle.camel_script_replay.specs.Output.{published_after, output, updates_after, is_replay_code, is_write_code}
use Rattle.camel_script_replay.specs.Output.{is_reading_code, is_text_code, AppendsPart, NamesFault}
use Rattle.camel_criteria.specs.declared.refusal.Refusal.{Refusal}
use Rattle.camel_audit.specs.declared.worker.Ended.{Ended}
use Rattle.camel_replay_lib.specs.declared.threaded_replay.threads_fault.ThreadsFault.{ThreadsFault}
use Rattle.camel_replay_lib.specs.declared.threaded_replay.threads_fault.ThreadsFault.TheVariants.{OutOfMemory, NoPlace}
use Rattle.camel_replay_lib.specs.declared.threaded_replay.threads_fault.ThreadsFault.TheVariants.{NoGuard, Stopped}
use Rattle.camel_replay_lib.specs.declared.threaded_replay.threads_fault.ThreadsFault.TheVariants.{NoWorker, Audit}
use Rattle.camel_script.specs.Script.{ScriptData}
use Rattle.camel_script_replay.specs.declared.script_replay.ReplayFault.{ReplayFault}
use Rattle.camel_script.specs.declared.line.Line.TheVariants as line
use Rattle.camel_script.specs.declared.record.Record.TheVariants as script_record
use Rattle.camel_criteria.specs.declared.refusal.Refusal.TheVariants as refusal
use Rattle.camel_audit.specs.declared.worker.Ended.TheVariants as ended

-- The output of a script whose calls are answered by sessions in threads of their own, beside the writer (profile 1's
-- own). The records that are no calls give the lines that they give on one thread. Then come the lines of the calls,
-- session by session, and last the line of the audit.

abbrev pub is_no_call : Record → Bool
is_no_call (script_record.Call event) = false
is_no_call other = true

-- how many updates the next publication shows; as many as are published, if none follows
abbrev pub next_front : ℕ → Updates → List Record → ℕ
next_front limit updates [] = length updates.published
next_front limit updates (script_record.Publish ∷ records) = length (accepted_updates updates)
next_front limit updates (script_record.Update update ∷ records) = next_front limit (updates_after limit updates (script_record.Update update)) records
next_front limit updates (other ∷ records) = next_front limit updates records

-- A call of a script: its number, its event, and how many updates the last publication before it and the next one after
-- it show.
pub record Call : Type 0 where
  pub number : ℕ
  pub event : EventData
  pub least : ℕ
  pub most : ℕ

-- the calls among some records, the first of which has this number
abbrev pub calls_from : ℕ → Updates → ℕ → List Record → List Call
calls_from limit updates number [] = []
calls_from limit updates number (script_record.Call event ∷ records) =
    record { number = number; event = event; least = length updates.published; most = next_front limit updates records }
    ∷ calls_from limit updates (number + 1) records
calls_from limit updates number (script_record.Update update ∷ records) =
    calls_from limit (updates_after limit updates (script_record.Update update)) number records
calls_from limit updates number (script_record.Publish ∷ records) = calls_from limit (updates_after limit updates script_record.Publish) number records
calls_from limit updates number (script_record.Refused why ∷ records) = calls_from limit updates number records

-- the calls of a script, numbered from 0
abbrev pub script_calls : ℕ → List Record → List Call
script_calls limit records = calls_from limit no_updates 0 records

-- the calls that the session of this number answers
abbrev pub calls_of : ℕ → ℕ → List Call → List Call
calls_of threads session calls = filter (λ call. call.number % threads == session) calls

-- an entry answers a call, over a front from the last publication before it to the next one after it
pub record AnswersCall (call : Call) (entry : Entry) : Type 0 where
  pub number : entry.call ≡ call.number
  pub event : entry.event ≡ call.event
  pub least : call.least ≤ entry.answer.front
  pub most : entry.answer.front ≤ call.most

-- each session, from the one of this number on, answers its calls, once each and in their order
abbrev pub SessionsAnswer : ℕ → ℕ → List Call → List (List Entry) → Type 0
SessionsAnswer threads session calls [] = Unit {0}
SessionsAnswer threads session calls (entries ∷ transcripts) =
    AllZip AnswersCall (calls_of threads session calls) entries × SessionsAnswer threads (session + 1) calls transcripts

-- the sessions answer the calls of a script, and what is published in the end explains each answer
pub record ThreadsAnswer (threads : ℕ) (profile : Profile) (limit : ℕ) (records : List Record) (transcripts : List (List Entry)) : Type 0 where
  pub count : length transcripts ≡ threads
  pub each : SessionsAnswer threads 0 (script_calls limit records) transcripts
  pub passes : Passes profile (published_after limit records) transcripts

-- the lines of the session of this number
abbrev pub session_text : ℕ → List Entry → List ℕ
session_text session entries = flat_map (λ entry. line_text (line.Served session entry.call entry.answer)) entries

-- the lines of the sessions, from the one of this number on
abbrev pub sessions_text : ℕ → List (List Entry) → List ℕ
sessions_text session [] = []
sessions_text session (entries ∷ transcripts) = session_text session entries ++ sessions_text (session + 1) transcripts

-- the whole output
abbrev pub threads_output : Profile → ℕ → List Record → List (List Entry) → List ℕ
threads_output profile limit records transcripts = output profile limit (filter is_no_call records) ++ sessions_text 0 transcripts ++ line_text line.AuditOk

-- these octets are the output of a replay with so many sessions
pub record IsThreadsOutput (threads : ℕ) (profile : Profile) (limit : ℕ) (records : List Record) (octets : List ℕ) : Type 0 where
  pub transcripts : List (List Entry)
  pub answer : ThreadsAnswer threads profile limit records transcripts
  pub text : octets ≡ threads_output profile limit records transcripts

-- The numbers of the faults of a replay with threads.

-- The number of a fault of a replay with threads, after the reading of its script and before its output.
abbrev pub threads_fault_code : ThreadsFault → ℕ
threads_fault_code OutOfMemory = 102
threads_fault_code NoPlace = 103
threads_fault_code NoGuard = 104
threads_fault_code Stopped = 105
threads_fault_code NoWorker = 106
threads_fault_code (Audit fault) = audit_fault_code fault

-- The fault of a call of a store that is refused only with `OutOfMemory` (102), `NoPlace` (103) or `NoGuard` (104).
abbrev pub threads_fault_of : Refusal → ThreadsFault
threads_fault_of refusal.NoPlace = NoPlace
threads_fault_of refusal.NoGuard = NoGuard
threads_fault_of other = OutOfMemory

-- The fault of a worker, if it has not answered all of its jobs.
abbrev pub fault_of_end : Ended → Option ThreadsFault
fault_of_end ended.All = None
fault_of_end ended.Stopped = Some Stopped
fault_of_end ended.NoGuard = Some NoGuard
fault_of_end ended.OutOfMemory = Some OutOfMemory

-- The number of a fault that comes after the reading of the script and before its output: `OutOfMemory` (102),
-- `NoPlace` (103), `NoGuard` (104), `Stopped` (105), `NoWorker` (106), or one of the audit.
abbrev pub is_threads_code : ℕ → Bool
is_threads_code code = (nat_le 102 code && nat_le code 106) || (nat_le 301 code && nat_le code 304)

-- The number of a fault that comes after the script was read whole: before its output, or of the output.
abbrev pub is_later_code : ℕ → Bool
is_later_code code = is_threads_code code || is_write_code code

-- A replay with threads ends with no other fault than these.
abbrev pub is_threaded_replay_code : ℕ → Bool
is_threaded_replay_code code = is_replay_code code || is_threads_code code

-- What a replay with threads has written when it ends.

-- the script has these records and no fault
pub record IsAllOf (given : ScriptData) (records : List Record) : Type 0 where
  pub fault : given.fault ≡ None
  pub records_read : given.records ≡ records

-- The reading of a script ends with a fault behind its first `count` records. The record after them is named. A fault
-- of the script's text is the script's own, of its own record.
pub record StopsReading (given : ScriptData) (stop : ReplayFault) : Type 0 where
  pub count : ℕ
  pub within : count ≤ length given.records
  pub place : stop.number ≡ Some (count + 1)
  pub text : IsTrue (is_text_code stop.code) → NamesFault given stop

-- A script without a fault was read whole before the fault, which is of no record.
pub record StopsLater (given : ScriptData) (stop : ReplayFault) : Type 0 where
  pub later : IsTrue (is_later_code stop.code)
  pub fault : given.fault ≡ None
  pub place : stop.number ≡ None

-- the script has no fault, and its whole output was written, with nothing else
pub record WritesThreadsOutput (old new : Option (List ℕ)) (threads : ℕ) (profile : Profile) (limit : ℕ) (given : ScriptData) : Type 0 where
  pub fault : given.fault ≡ None
  pub octets : List ℕ
  pub output : IsThreadsOutput threads profile limit given.records octets
  pub written : Appends old new octets

-- the script has no fault, and a part of its output was written, from the first octet on
pub record WritesThreadsPart (old new : Option (List ℕ)) (threads : ℕ) (profile : Profile) (limit : ℕ) (given : ScriptData) : Type 0 where
  pub fault : given.fault ≡ None
  pub octets : List ℕ
  pub output : IsThreadsOutput threads profile limit given.records octets
  pub written : AppendsPart old new octets

-- A fault of writing leaves a part of the output. After any other fault nothing was written. A fault of the script's
-- text is the script's own, of its own record. A fault of reading names the record that was being read, and a later one
-- names none.
pub record ThreadsStop (old new : Option (List ℕ)) (threads : ℕ) (profile : Profile) (limit : ℕ) (given : ScriptData) (stop : ReplayFault) : Type 0 where
  pub unwritten : (IsTrue (is_write_code stop.code) → ⊥) → Keeps old new
  pub write : IsTrue (is_write_code stop.code) → WritesThreadsPart old new threads profile limit given
  pub text : IsTrue (is_text_code stop.code) → NamesFault given stop
  pub place : (IsTrue (is_reading_code stop.code) × StopsReading given stop) ⊎ StopsLater given stop
