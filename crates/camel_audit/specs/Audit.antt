-- What an audit finds: of the transcripts of sessions, of a part of the subscribers, and in one pass.
use Rattle.std.specs.Prelude.{ℕ, ◌≡◌, ◌≢◌, ◌⊎◌, ◌<◌, ◌≤◌, List, [], ◌∷◌, All, Some, IsSome, length, slice_get, take}
use Rattle.std.specs.Prelude.{◌%◌, ◌==◌, Bool, true, Option, None}
use Rattle.std.specs.List.{filter, AllZip}
use Rattle.camel_audit.specs.declared.audit_fault.AuditFault.{AuditFault}
use Rattle.camel_audit.specs.declared.audit_fault.AuditFault.TheVariants.{OutOfMemory, FrontTooLong, FrontWentBack}
use Rattle.camel_audit.specs.declared.audit_fault.AuditFault.TheVariants.{AnswerDiffers, BadHistory}
use Rattle.camel_audit.specs.declared.transcript.Entry.{Entry}
use Rattle.camel_tbcd.specs.declared.profile.Profile.{Profile}
use Rattle.camel_rows.specs.Decision.{decision, outcome_of, event_imsi}
use Rattle.camel_rows.specs.Update.{Accepted, records_of, refusal, update_imsi, RecordsData}
use Rattle.camel_rows.specs.declared.subscriber.update.Update.{Update}
use Rattle.camel_rows.specs.declared.trigger.outcome.Outcome.{Outcome}
use Rattle.camel_audit.specs.declared.part.Part.{Part}
use Rattle.camel_tbcd.specs.Imsi.{imsi_number}
use Rattle.camel_audit.specs.declared.audit_fault.AuditFault.TheVariants as fault

-- The numbers of the faults of an audit.

abbrev pub audit_fault_code : AuditFault → ℕ
audit_fault_code OutOfMemory = 102
audit_fault_code (FrontTooLong session entry) = 301
audit_fault_code (FrontWentBack session entry) = 302
audit_fault_code (AnswerDiffers session entry) = 303
audit_fault_code (BadHistory at) = 304

-- Whether updates explain what sessions answered.

-- what the trigger rules give for the call of an entry over the updates of its front
abbrev pub outcome_at_front : Profile → List Update → Entry → Outcome
outcome_at_front profile updates entry = outcome_of (decision profile (records_of (take entry.answer.front updates)) entry.event)

-- the updates explain an entry that comes behind a front of `earlier` updates
pub record IsExplained (profile : Profile) (updates : List Update) (earlier : ℕ) (entry : Entry) : Type 0 where
  pub within : entry.answer.front ≤ length updates
  pub later : earlier ≤ entry.answer.front
  pub outcome : entry.answer.outcome ≡ outcome_at_front profile updates entry

-- the updates explain each entry of a list that comes behind a front of `earlier` updates
abbrev pub AreExplained : Profile → List Update → ℕ → List Entry → Type 0
AreExplained profile updates earlier [] = Unit {0}
AreExplained profile updates earlier (entry ∷ entries) = IsExplained profile updates earlier entry × AreExplained profile updates entry.answer.front entries

-- the updates are accepted, one after the other, and explain each transcript
pub record Passes (profile : Profile) (updates : List Update) (transcripts : List (List Entry)) : Type 0 where
  pub accepted : Accepted updates
  pub explained : All (AreExplained profile updates 0) transcripts

-- the updates before this place are accepted, and the one at it is refused
pub record RefusedAt (updates : List Update) (at : ℕ) : Type 0 where
  pub update : Update
  pub there : slice_get updates at ≡ Some update
  pub accepted : Accepted (take at updates)
  pub refused : IsSome (refusal (records_of (take at updates)) update)

-- how many updates the front of the last entry has; `earlier`, if there is none
abbrev pub last_front : ℕ → List Entry → ℕ
last_front earlier [] = earlier
last_front earlier (entry ∷ entries) = last_front entry.answer.front entries

-- the entries before this place are explained, and of the one at it, behind the front of the last of those, this holds
pub record FoundAt (profile : Profile) (updates : List Update) (entries : List Entry) (at : ℕ) (Holds : ℕ → Entry → Type 0) : Type 0 where
  pub entry : Entry
  pub there : slice_get entries at ≡ Some entry
  pub explained : AreExplained profile updates 0 (take at entries)
  pub holds : Holds (last_front 0 (take at entries)) entry

-- there are not so many updates
abbrev pub IsTooLong : List Update → ℕ → Entry → Type 0
IsTooLong updates earlier entry = length updates < entry.answer.front

-- the entry before it has a longer front
abbrev pub WentBack : List Update → ℕ → Entry → Type 0
WentBack updates earlier entry = (entry.answer.front ≤ length updates) × (entry.answer.front < earlier)

-- another outcome than the updates of its front give
pub record Differs (profile : Profile) (updates : List Update) (earlier : ℕ) (entry : Entry) : Type 0 where
  pub within : entry.answer.front ≤ length updates
  pub later : earlier ≤ entry.answer.front
  pub outcome : entry.answer.outcome ≢ outcome_at_front profile updates entry

-- the first fault of the transcript of a session
abbrev pub IsFaultOf : Profile → List Update → List Entry → ℕ → AuditFault → Type 0
IsFaultOf profile updates entries number fault.OutOfMemory = Unit {0}
IsFaultOf profile updates entries number (fault.FrontTooLong session entry) = (session ≡ number) × FoundAt profile updates entries entry (IsTooLong updates)
IsFaultOf profile updates entries number (fault.FrontWentBack session entry) = (session ≡ number) × FoundAt profile updates entries entry (WentBack updates)
IsFaultOf profile updates entries number (fault.AnswerDiffers session entry) =
    (session ≡ number) × FoundAt profile updates entries entry (Differs profile updates)
IsFaultOf profile updates entries number (fault.BadHistory at) = ⊥

-- the first fault of the updates
abbrev pub IsBadHistory : List Update → AuditFault → Type 0
IsBadHistory updates fault.OutOfMemory = Unit {0}
IsBadHistory updates (fault.BadHistory at) = RefusedAt updates at
IsBadHistory updates other = ⊥

-- the updates are accepted, the transcripts before this session's are explained, and its transcript has the fault
pub record IsFaultAt (profile : Profile) (updates : List Update) (transcripts : List (List Entry)) (stop : AuditFault) : Type 0 where
  pub accepted : Accepted updates
  pub session : ℕ
  pub entries : List Entry
  pub there : slice_get transcripts session ≡ Some entries
  pub explained : All (AreExplained profile updates 0) (take session transcripts)
  pub is_fault : IsFaultOf profile updates entries session stop

-- the first fault: of the updates, then by sessions, and of each by its entries
abbrev pub IsFault : Profile → List Update → List (List Entry) → AuditFault → Type 0
IsFault profile updates transcripts stop = IsBadHistory updates stop ⊎ IsFaultAt profile updates transcripts stop

-- What an audit finds of a part of the subscribers. A part is a test of IMSIs.

-- of so many parts, the one of this number has the subscriber with this IMSI
abbrev pub is_in_part : ℕ → ℕ → List ℕ → Bool
is_in_part parts part imsi = imsi_number imsi % parts == part

abbrev pub is_member : Part → List ℕ → Bool
is_member part = is_in_part part.count part.number

module _ (is_in : List ℕ → Bool) where
  -- what concerns all subscribers concerns each part
  abbrev pub concerns_part : Option (List ℕ) → Bool
  concerns_part None = true
  concerns_part (Some imsi) = is_in imsi

  -- the updates that concern the part, in their order
  abbrev pub updates_of_part : List Update → List Update
  updates_of_part updates = filter (λ update. concerns_part (update_imsi update)) updates

  -- An entry behind a front of `earlier` updates has no shorter front. If its subscriber is in the part, its answer is
  -- the decision over the part's updates of its front.
  pub record IsExplainedInPart (profile : Profile) (updates : List Update) (earlier : ℕ) (entry : Entry) : Type 0 where
    pub within : entry.answer.front ≤ length updates
    pub later : earlier ≤ entry.answer.front
    pub outcome : is_in (event_imsi entry.event) ≡ true
        → entry.answer.outcome ≡ outcome_of (decision profile (records_of (updates_of_part (take entry.answer.front updates))) entry.event)

  -- the same of each entry of a list that comes behind a front of `earlier` updates
  abbrev pub AreExplainedInPart : Profile → List Update → ℕ → List Entry → Type 0
  AreExplainedInPart profile updates earlier [] = Unit {0}
  AreExplainedInPart profile updates earlier (entry ∷ entries) =
      IsExplainedInPart profile updates earlier entry × AreExplainedInPart profile updates entry.answer.front entries

  -- the part's updates are accepted, one after the other, and explain the entries of the part in each transcript
  pub record PassesInPart (profile : Profile) (updates : List Update) (transcripts : List (List Entry)) : Type 0 where
    pub accepted : Accepted (updates_of_part updates)
    pub explained : All (AreExplainedInPart profile updates 0) transcripts

-- they pass in each of so many parts
abbrev pub PassesInParts : ℕ → Profile → List Update → List (List Entry) → Type 0
PassesInParts parts profile updates transcripts = (part : ℕ) → part < parts → PassesInPart (is_in_part parts part) profile updates transcripts

-- How far an audit of a part in one pass over the updates has come.

module _ (is_in : List ℕ → Bool) (profile : Profile) where
  -- the answer of an entry, if its subscriber is in the part, is the decision over these records
  abbrev pub IsDecidedOver : RecordsData → Entry → Type 0
  IsDecidedOver records entry = is_in (event_imsi entry.event) ≡ true → entry.answer.outcome ≡ outcome_of (decision profile records entry.event)

  -- a front explains the entries before this place
  pub record IsExplainedTo (front : List Update) (entries : List Entry) (place : ℕ) : Type 0 where
    pub within : place ≤ length entries
    pub explained : AreExplainedInPart is_in profile front 0 (take place entries)

  -- of each transcript a front explains the entries before its place
  abbrev pub AreExplainedTo : List Update → List (List Entry) → List ℕ → Type 0
  AreExplainedTo front transcripts places = AllZip (IsExplainedTo front) transcripts places
