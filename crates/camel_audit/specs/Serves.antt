-- What a worker gives back.
use Rattle.std.specs.Prelude.{◌≡◌, ◌≢◌, ◌↔◌, false, List, [], ◌∷◌, ◌++◌, length, map, take}
use Rattle.camel_audit.specs.declared.transcript.Entry.{Entry}
use Rattle.camel_audit.specs.declared.transcript.Job.{Job}
use Rattle.camel_rows.specs.Decision.{EventData}
use Rattle.camel_rows.specs.declared.trigger.outcome.Answer.{Answer}
use Rattle.camel_vlr.specs.History.{PrefixData}
use Rattle.camel_vlr.specs.Store.{Answers, SessionData}
use Rattle.camel_audit.specs.declared.worker.Ended.TheVariants.{All, OutOfMemory}
use Rattle.camel_audit.specs.declared.worker.Served.{Served}

-- the job that an entry answers
abbrev pub job_of : Entry → Job
job_of entry = record { call = entry.call; event = entry.event }

abbrev pub event_in : Entry → EventData
event_in entry = entry.event

abbrev pub answer_in : Entry → Answer
answer_in entry = entry.answer

-- a session that has learnt the front of a receipt too
abbrev pub with_told : SessionData → PrefixData → SessionData
with_told session receipt = record session { told = session.told ++ receipt.updates ∷ [] }

-- what a worker makes of a session, a receipt and jobs
pub record Serves (before : SessionData) (receipt : PrefixData) (jobs : List Job) (served : Served) : Type 0 where
  -- the first of the jobs, in their order
  pub jobs_served : map job_of served.transcript ≡ take (length served.transcript) jobs
  pub answers : served.ended ≢ OutOfMemory
      → Answers (with_told before receipt) (map event_in served.transcript) (map answer_in served.transcript) served.session
  -- its looks have ended
  pub looks : served.ended ≢ OutOfMemory → served.session.looks ≡ false
  pub all : served.ended ≡ All ↔ length served.transcript ≡ length jobs
  pub none : served.ended ≡ OutOfMemory → (served.transcript ≡ []) × (served.session ≡ before)
