-- The rounds of a replay with threads, the segments that they serve, and the threads of its sessions.
use Rattle.std.specs.Prelude.{ℕ, List, ◌≡◌, ◌+◌, ◌%◌, ◌==◌, [], ◌∷◌, ◌++◌, true, IfOk, ◌≤◌, All, IfSome, IsSomeAnd}
use Rattle.std.specs.Prelude.{length, map}
use Rattle.std.specs.List.{filter, AllZip}
use Rattle.camel_vlr.specs.Store.{StoreData, SessionData}
use Rattle.camel_audit.specs.declared.transcript.Job.{Job}
use Rattle.camel_script.specs.declared.record.Record.{Record}
use Rattle.camel_replay_lib.specs.ThreadsOutput.{is_no_call, session_text, AnswersCall, Call, calls_of}
use Rattle.camel_replay_lib.specs.declared.threaded_replay.segment.Segment.{Segment}
use Rattle.camel_audit.specs.Audit.{PassesInPart, is_member}
use Rattle.camel_replay_lib.specs.declared.threaded_replay.session_lines.Found.{Found}
use Rattle.camel_replay_lib.specs.declared.threaded_replay.session_lines.Task.{Task}
use Rattle.camel_replay_lib.specs.declared.threaded_replay.session_lines.SessionThread.{SessionThread}
use Rattle.camel_audit.specs.declared.transcript.Entry.{Entry}
use Rattle.camel_rows.specs.Store.{Updates, no_updates}
use Rattle.camel_vlr.specs.History.{PrefixData, StoreId}
use Rattle.camel_audit.specs.Serves.{job_of}
use Rattle.camel_script_replay.specs.Output.{updates_from, output_from, output}
use Rattle.camel_replay_lib.specs.declared.threaded_replay.round.ServedOf.{ServedOf}
use Rattle.camel_replay_lib.specs.declared.threaded_replay.round.Worker.{Worker}
use Rattle.camel_replay_lib.specs.declared.threaded_replay.seat.Seat.{Seat}
use Rattle.camel_tbcd.specs.declared.profile.Profile.{Profile}
use Rattle.camel_script.specs.declared.record.Record.TheVariants as script_record

-- What the writer of a replay with threads has.

pub record WriterData : Type 0 where
  pub store : StoreData
  pub output : List ℕ  -- the text of its lines

-- Segments of a script.

-- the calls among some records, the first of which has this number
abbrev pub jobs_from : ℕ → List Record → List Job
jobs_from number [] = []
jobs_from number (script_record.Call event ∷ records) = record { call = number; event = event } ∷ jobs_from (number + 1) records
jobs_from number (other ∷ records) = jobs_from number records

-- the jobs among these that the session of this number answers
abbrev pub jobs_for : ℕ → ℕ → List Job → List Job
jobs_for threads session jobs = filter (λ (job : Job). job.call % threads == session) jobs

-- a publication ends the records and is nowhere else among them; if they have none, no record is left behind them
abbrev pub IsSegment : List Record → List Record → Type 0
IsSegment [] left = left ≡ []
IsSegment (script_record.Publish ∷ records) left = records ≡ []
IsSegment (other ∷ records) left = IsSegment records left

-- the first segment was cut off: its calls, from this number on, and its other records
pub record IsCutOff (first : ℕ) (before after : List Record) (segment : Segment) : Type 0 where
  pub records : List Record
  pub is_segment : IsSegment records after
  pub whole : before ≡ records ++ after
  pub calls : segment.calls.items ≡ jobs_from first records
  pub others : segment.others.items ≡ filter is_no_call records

-- What the thread of a session finds of its part of the subscribers, and makes.

-- the part of a task passes
abbrev pub PartPasses : Task → Type 0
PartPasses task = PassesInPart (is_member task.part) task.profile task.updates.now task.transcripts.now

-- the text of the lines of a task
abbrev pub task_text : Task → List ℕ
task_text task = session_text task.session task.transcript.now

-- it finds that the part passes only if it does, and makes the lines
pub record IsOfTask (task : Task) (found : Found) : Type 0 where
  pub passes : found.passes ≡ true → PartPasses task
  pub lines : IfOk found.lines (λ text. text.items ≡ task_text task)

-- What the thread of a session owes while it runs.

-- the text that comes of it
abbrev pub text_of : SessionThread → List ℕ
text_of thread = task_text thread.handle.promise

-- the part that it audits passes
abbrev pub PassesOf : SessionThread → Type 0
PassesOf thread = PartPasses thread.handle.promise

-- A round of a replay with threads.

-- the session is one of this store
abbrev pub IsOfStore : StoreId → Seat → Type 0
IsOfStore store seat = seat.session.store ≡ store

-- the writer has answered these records by their lines
pub record WritesLines (records : List Record) (before after : WriterData) : Type 0 where
  pub output : after.output ≡ before.output ++ output_from before.store.store.profile before.store.store.limit before.store.updates records
  pub updates : after.store.updates ≡ updates_from before.store.store.limit before.store.updates records

abbrev pub FrontIsAtLeast : ℕ → Entry → Type 0
FrontIsAtLeast least entry = least ≤ entry.answer.front

abbrev pub FrontIsAtMost : ℕ → Entry → Type 0
FrontIsAtMost most entry = entry.answer.front ≤ most

-- the promise of a worker's thread is of this session, this receipt and these jobs
abbrev pub IsPromiseOf : SessionData → PrefixData → List Job → ServedOf → Type 0
IsPromiseOf session told jobs promise = (promise.session.value ≡ session) × (promise.told.value ≡ told) × (promise.jobs.value.items ≡ jobs)

-- the worker is the one of a session, and is handed a receipt and jobs
pub record IsWorkerOf (told : PrefixData) (jobs : List Job) (seat : Seat) (worker : Worker) : Type 0 where
  pub number : worker.number ≡ seat.number
  pub entries : worker.entries.items ≡ seat.entries.items
  pub promise : IfSome worker.started (λ handle. IsPromiseOf seat.session told jobs handle.promise)

-- each session has a worker, which is handed the receipt of the last publication and the calls that the session answers
abbrev pub AreWorkersOf : StoreData → ℕ → List Job → List Seat → List Worker → Type 0
AreWorkersOf store threads calls seats workers =
    AllZip (λ (seat : Seat). IsWorkerOf (record { store = store.store; updates = store.updates.published }) (jobs_for threads seat.number calls) seat)
    seats workers

-- a session has answered its jobs behind what it had answered before, over fronts of so many updates
pub record ServesJobs (least most : ℕ) (jobs : List Job) (earlier later : List Entry) : Type 0 where
  pub entries : List Entry
  pub kept : later ≡ earlier ++ entries
  pub jobs_served : map job_of entries ≡ jobs
  pub at_least : All (FrontIsAtLeast least) entries
  pub at_most : All (FrontIsAtMost most) entries

-- the session of a worker comes back with what it has answered
pub record IsJoined (most : ℕ) (worker : Worker) (seat : Seat) : Type 0 where
  pub number : seat.number ≡ worker.number
  pub served : IsSomeAnd worker.started (λ handle. let promise : ServedOf = handle.promise in (seat.session.store ≡ promise.session.value.store)
      × ServesJobs (length promise.told.value.updates) most promise.jobs.value.items worker.entries.items seat.entries.items)

-- a session after a round
pub record ServesSeat (least most threads : ℕ) (calls : List Job) (before after : Seat) : Type 0 where
  pub number : after.number ≡ before.number
  pub store : after.session.store ≡ before.session.store
  pub served : ServesJobs least most (jobs_for threads before.number calls) before.entries.items after.entries.items

-- each session has answered its calls over fronts from the last publication before the round to the one that the round
-- made
abbrev pub ServesRound : Updates → Updates → List Job → List Seat → List Seat → Type 0
ServesRound before after calls seats served = AllZip (ServesSeat (length before.published) (length after.published) (length seats) calls) seats served

-- The rounds of a replay with threads.

abbrev pub session_in : Seat → SessionData
session_in seat = seat.session

abbrev pub entries_in : Seat → List Entry
entries_in seat = seat.entries.items

-- the sessions have the numbers from this one on
abbrev pub AreNumbered : ℕ → List Seat → Type 0
AreNumbered number [] = Unit {0}
AreNumbered number (seat ∷ seats) = (seat.number ≡ number) × AreNumbered (number + 1) seats

abbrev pub HasNoEntries : Seat → Type 0
HasNoEntries seat = seat.entries.items ≡ []

-- the session has answered those of these calls that are its own
abbrev pub HasAnswered : ℕ → List Call → Seat → Type 0
HasAnswered threads calls seat = AllZip AnswersCall (calls_of threads seat.number calls) seat.entries.items

-- the writer has a store with no updates, and no lines
pub record IsNewWriter (writer : WriterData) : Type 0 where
  pub updates : writer.store.updates ≡ no_updates
  pub output : writer.output ≡ []

-- the writer has answered those of these records that are no calls, and no others
pub record WritesScript (profile : Profile) (limit : ℕ) (records : List Record) (writer : WriterData) : Type 0 where
  pub updates : writer.store.updates ≡ updates_from limit no_updates records
  pub output_written : writer.output ≡ output profile limit (filter is_no_call records)
