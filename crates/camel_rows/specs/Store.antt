-- Stores: which updates they accept, and what their calls make of these.
use Rattle.std.specs.Prelude.{◌≡◌, ℕ, List, ◌+◌, ◌==◌, Bool, true, false, Option, Some, None, [], ◌∷◌, ◌++◌, length}
use Rattle.std.specs.Option.{option_map}
use Rattle.camel_rows.specs.Update.{ByImsi, csis_of, RecordsData, value_of, with_value_of, csis_refusal, update_imsi}
use Rattle.camel_rows.specs.Update.{refusal, records_of}
use Rattle.camel_rows.specs.declared.subscriber.csis_present.CsisPresent.{CsisPresent}
use Rattle.camel_criteria.specs.declared.refusal.Refusal.{Refusal}
use Rattle.camel_criteria.specs.declared.refusal.Refusal.TheVariants.{HistoryFull}
use Rattle.camel_rows.specs.declared.subscriber.update.Update.{Update}
use Rattle.std.specs.FinMap as map

-- Which CSIs are stored for which subscribers.

-- the CSIs that are stored in the record of each IMSI that has one
abbrev pub DirectoryData : Type 0
DirectoryData = ByImsi CsisPresent

abbrev pub empty_directory : DirectoryData
empty_directory = map.empty

-- the directory is that of these data
abbrev pub IsDirectoryOf : DirectoryData → RecordsData → Type 0
IsDirectoryOf directory m = (imsi : List ℕ) → map.get directory imsi ≡ option_map csis_of (map.get m imsi)

-- Which updates a store accepts: those that the data of all accepted ones do not refuse, as many as its limit.

-- the most updates that a store accepts, how many it has accepted, and which CSIs they leave
pub record AdmissionData : Type 0 where
  pub limit : ℕ
  pub accepted : ℕ
  pub directory : DirectoryData

abbrev pub no_admissions : ℕ → AdmissionData
no_admissions limit = record { limit = limit; accepted = 0; directory = empty_directory }

-- the refusal that the data give, and else that of a store that is full
abbrev pub refusal_or_full : Option Refusal → Bool → Option Refusal
refusal_or_full (Some why) is_full = Some why
refusal_or_full None true = Some HistoryFull
refusal_or_full None false = None

-- why an update is not accepted
abbrev pub admission_refusal : AdmissionData → Update → Option Refusal
admission_refusal admission update =
    refusal_or_full (csis_refusal (value_of admission.directory (update_imsi update)) update) (admission.accepted == admission.limit)

-- with one accepted update more, of this subscriber or of all, which leaves these CSIs, or no record
abbrev pub with_admission : AdmissionData → Option (List ℕ) → Option CsisPresent → AdmissionData
with_admission admission imsi csis = record {
  limit = admission.limit;
  accepted = admission.accepted + 1;
  directory = with_value_of admission.directory imsi csis;
}

-- the admission is that of a store with this limit, which has accepted so many updates, and they leave these data
pub record IsAdmissionOf (admission : AdmissionData) (limit count : ℕ) (m : RecordsData) : Type 0 where
  pub same_limit : admission.limit ≡ limit
  pub same_count : admission.accepted ≡ count
  pub directory : IsDirectoryOf admission.directory m

-- The updates that a store has accepted, and what its calls make of them.

-- the updates that are published and those that are pending, the first update first
pub record Updates : Type 0 where
  pub published : List Update
  pub pending : List Update

abbrev pub no_updates : Updates
no_updates = record { published = []; pending = [] }

-- all that are accepted
abbrev pub accepted_updates : Updates → List Update
accepted_updates updates = updates.published ++ updates.pending

-- the admission is that of a store with this limit that has accepted these updates
abbrev pub IsAdmissionOfUpdates : AdmissionData → ℕ → Updates → Type 0
IsAdmissionOfUpdates admission limit updates =
    IsAdmissionOf admission limit (length (accepted_updates updates)) (records_of (accepted_updates updates))

-- why an update is not accepted: by the data that all accepted updates leave, or since they are as many as the limit
abbrev pub store_refusal : ℕ → Updates → Update → Option Refusal
store_refusal limit updates update =
    refusal_or_full (refusal (records_of (accepted_updates updates)) update) (length (accepted_updates updates) == limit)

-- an accepted update is pending, behind the others
abbrev pub with_update : Updates → Update → Updates
with_update updates update = record { published = updates.published; pending = updates.pending ++ update ∷ [] }

-- a publication publishes all that is pending
abbrev pub all_published : Updates → Updates
all_published updates = record { published = accepted_updates updates; pending = [] }
