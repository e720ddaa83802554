-- The output of a replay on one thread, and what is written of it when the replay ends.
use Rattle.std.specs.Prelude.{ℕ, ◌==◌, ◌&&◌, ◌||◌, nat_le, Bool, ◌+◌, List, [], ◌∷◌, ◌++◌, length, Option, Some, None}
use Rattle.std.specs.Prelude.{◌≡◌, ◌≢◌, ◌<◌, ◌≤◌, ◌⊎◌, IsTrue, take, IsSomeAnd}
use Rattle.std.specs.Io.KnownBytes.{Appends}
use Rattle.camel_criteria.specs.Refusal.{refusal_code}
use Rattle.camel_criteria.specs.declared.refusal.Refusal.{Refusal}
use Rattle.camel_tbcd.specs.declared.profile.Profile.{Profile}
use Rattle.camel_rows.specs.Decision.{answer_over, EventData}
use Rattle.camel_rows.specs.Store.{Updates, accepted_updates, all_published, no_updates, store_refusal, with_update}
use Rattle.camel_rows.specs.declared.subscriber.update.Update.{Update}
use Rattle.camel_rows.specs.declared.trigger.outcome.Answer.{Answer}
use Rattle.camel_script.specs.Line.{line_text}
use Rattle.camel_script.specs.declared.line.Line.{Line}
use Rattle.camel_script.specs.declared.record.Record.{Record}
use Rattle.camel_rows.specs.Update.{Extends, IsFront}
use Rattle.camel_script.specs.Script.{ScriptData, script_fault_code}
use Rattle.camel_script_replay.specs.declared.script_replay.ReplayFault.{ReplayFault}
use Rattle.camel_script.specs.declared.line.Line.TheVariants as line
use Rattle.camel_script.specs.declared.record.Record.TheVariants as script_record

-- The greatest counts of a replay (profile 1's own).

-- A script has at most so many records; one more is `TooManyRecords` (207).
abbrev pub max_records : ℕ
max_records = 1000000

-- The limit of accepted updates is at most so many, and so many if it is not given.
abbrev pub max_limit : ℕ
max_limit = 1000000

-- The numbers of the faults of a replay on one thread.

-- The fault is one of the script: of the text of a record, `Word` (202) to `Number` (205), or `TooManyRecords` (207).
abbrev pub is_text_code : ℕ → Bool
is_text_code code = (nat_le 202 code && nat_le code 205) || code == 207

-- The fault comes from outside: `OutOfMemory` (102), or the input could not be read, `Read` (206).
abbrev pub is_memory_or_read_code : ℕ → Bool
is_memory_or_read_code code = code == 102 || code == 206

-- The output could not be written: `WRITE_FAULT` (208).
abbrev pub is_write_code : ℕ → Bool
is_write_code code = code == 208

-- The script could not be read whole.
abbrev pub is_reading_code : ℕ → Bool
is_reading_code code = is_text_code code || is_memory_or_read_code code

-- A replay ends with no other fault than these.
abbrev pub is_replay_code : ℕ → Bool
is_replay_code code = is_reading_code code || is_write_code code

-- The output that the records of a script give: a line for each, over the updates that are published and those that are
-- pending (profile 1's own).

-- A call is decided over the published updates only.
abbrev pub answer_of : Profile → Updates → EventData → Answer
answer_of profile updates event = answer_over profile updates.published event

-- The line of an update, before which so many are accepted.
abbrev pub update_line : ℕ → Option Refusal → Line
update_line count None = line.Accepted (count + 1)
update_line count (Some why) = line.Refused (refusal_code why)

-- The line of a record.
abbrev pub line_of : Profile → ℕ → Updates → Record → Line
line_of profile limit updates (script_record.Update update) = update_line (length (accepted_updates updates)) (store_refusal limit updates update)
line_of profile limit updates script_record.Publish = line.Published (length (accepted_updates updates))
line_of profile limit updates (script_record.Call event) = line.Decided (answer_of profile updates event)
line_of profile limit updates (script_record.Refused why) = line.Refused (refusal_code why)

-- The updates after one that is accepted, or refused.
abbrev pub after_submission : Updates → Update → Option Refusal → Updates
after_submission updates update None = with_update updates update
after_submission updates update (Some why) = updates

-- The updates after a record.
abbrev pub updates_after : ℕ → Updates → Record → Updates
updates_after limit updates (script_record.Update update) = after_submission updates update (store_refusal limit updates update)
updates_after limit updates script_record.Publish = all_published updates
updates_after limit updates other = updates

-- The texts of the lines of some records, one after the other.
unfoldable pub output_from : Profile → ℕ → Updates → List Record → List ℕ
output_from profile limit updates [] = []
output_from profile limit updates (script_record ∷ records) =
    line_text (line_of profile limit updates script_record) ++ output_from profile limit (updates_after limit updates script_record) records

-- The output of the records of a script, of which at most `limit` updates are accepted, and whose calls are decided
-- under a profile.
abbrev pub output : Profile → ℕ → List Record → List ℕ
output profile limit records = output_from profile limit no_updates records

-- What is published in a run is a front at every moment, and only grows.

-- the updates after some records
abbrev pub updates_from : ℕ → Updates → List Record → Updates
updates_from limit updates [] = updates
updates_from limit updates (script_record ∷ records) = updates_from limit (updates_after limit updates script_record) records

-- the updates that are published after the first records of a script
abbrev pub published_after : ℕ → List Record → List Update
published_after limit records = (updates_from limit no_updates records).published

abbrev pub PublishedIsFront : Type 0
PublishedIsFront = (limit : ℕ) (records : List Record) → IsFront limit (published_after limit records)

abbrev pub PublishedGrows : Type 0
PublishedGrows = (limit : ℕ) (records more : List Record) → Extends (published_after limit (records ++ more)) (published_after limit records)

-- What a replay has written when it ends.

-- What was held, if it is known, grows by a part of the octets, from the first one on. The part may be all of them.
abbrev pub AppendsPart : Option (List ℕ) → Option (List ℕ) → List ℕ → Type 0
AppendsPart old new octets = (front : List ℕ) × (back : List ℕ) × (octets ≡ front ++ back) × Appends old new front

-- What was held, if it is known, grows by a part of the octets, from the first one on, and the last one is missing.
abbrev pub AppendsProperPart : Option (List ℕ) → Option (List ℕ) → List ℕ → Type 0
AppendsProperPart old new octets = (front : List ℕ) × (back : List ℕ) × (octets ≡ front ++ back) × (back ≢ []) × Appends old new front

-- The script has no fault, and its whole output was written, with nothing else.
abbrev pub WritesAll : Option (List ℕ) → Option (List ℕ) → Profile → ℕ → ScriptData → Type 0
WritesAll old new profile limit given = (given.fault ≡ None) × Appends old new (output profile limit given.records)

-- The fault has the code and the record of the script's own fault.
pub record NamesFault (given : ScriptData) (stop : ReplayFault) : Type 0 where
  pub fault : IsSomeAnd given.fault (λ fault. script_fault_code fault ≡ stop.code)
  pub place : stop.number ≡ Some (length given.records + 1)

-- The script's fault: the lines of all records before it were written, and nothing else.
pub record StopsAtFault (old new : Option (List ℕ)) (profile : Profile) (limit : ℕ) (given : ScriptData) (stop : ReplayFault) : Type 0 where
  pub whole : Appends old new (output profile limit given.records)
  pub named : NamesFault given stop

-- The lines of the first `count` records were written, and nothing else. The record after them is named.
pub record StopsBeforeLine (old new : Option (List ℕ)) (profile : Profile) (limit : ℕ) (records : List Record) (number : Option ℕ) : Type 0 where
  pub count : ℕ
  pub within : count ≤ length records
  pub written : Appends old new (output profile limit (take count records))
  pub place : number ≡ Some (count + 1)

-- The lines of the first `count` records were written, and then a part of the next record's line, but not all of it.
-- That record is named.
pub record StopsInLine (old new : Option (List ℕ)) (profile : Profile) (limit : ℕ) (records : List Record) (number : Option ℕ) : Type 0 where
  pub count : ℕ
  pub front : List ℕ
  pub back : List ℕ
  pub within : count < length records
  pub written : Appends old new (output profile limit (take count records) ++ front)
  pub line : output profile limit (take (count + 1) records) ≡ (output profile limit (take count records) ++ front) ++ back
  pub proper : back ≢ []
  pub place : number ≡ Some (count + 1)

-- The flush behind the last line failed: all was written, and the last record is named, by 0 if there is none.
pub record StopsAtFlush (old new : Option (List ℕ)) (profile : Profile) (limit : ℕ) (given : ScriptData) (number : Option ℕ) : Type 0 where
  pub whole : WritesAll old new profile limit given
  pub place : number ≡ Some (length given.records)

-- A fault leaves a part of the output of the records before the script's fault. The fault's code says how far that part
-- goes, and which record is named.
pub record Stops (old new : Option (List ℕ)) (profile : Profile) (limit : ℕ) (given : ScriptData) (stop : ReplayFault) : Type 0 where
  pub part : AppendsPart old new (output profile limit given.records)
  pub text : IsTrue (is_text_code stop.code) → StopsAtFault old new profile limit given stop
  pub memory_or_read : IsTrue (is_memory_or_read_code stop.code) → StopsBeforeLine old new profile limit given.records stop.number
  pub write : IsTrue (is_write_code stop.code)
      → StopsInLine old new profile limit given.records stop.number ⊎ StopsAtFlush old new profile limit given stop.number
