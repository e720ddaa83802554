-- The store of a replay on one thread.
use Rattle.std.specs.Prelude.{◌≡◌, ℕ, List, refl}
use Rattle.std.specs.Coded.{Coded, code_by, coded_ℕ, coded_list, coded×}
use Rattle.camel_tbcd.specs.declared.profile.Profile.{Profile}
use Rattle.camel_rows.specs.Store.{AdmissionData, IsAdmissionOfUpdates, Updates, accepted_updates, no_updates}
use Rattle.camel_rows.specs.Update.{Extends, IsFront, RecordsData, records_of}
use Rattle.camel_script.specs.declared.record.Record.{Record}
use Rattle.camel_script_replay.specs.Output.{updates_after}
use Rattle.camel_rows.specs.declared.subscriber.update.Update.{Update}
use Rattle.camel_script.specs.declared.record.Record.TheVariants as script_record
use Rattle.camel_tbcd.specs.contracts.profile.Profile as profile
use Rattle.camel_rows.specs.contracts.subscriber.update.Update as update

-- What a store of one thread keeps.

-- The profile under which it decides, the most updates that it accepts, and those that it has accepted.
pub record StoreData : Type 0 where
  pub profile : Profile
  pub limit : ℕ
  pub updates : Updates

abbrev pub empty_store : Profile → ℕ → StoreData
empty_store profile limit = record { profile = profile; limit = limit; updates = no_updates }

-- The store after a record of a script.
abbrev pub store_after : StoreData → Record → StoreData
store_after store script_record = record store { updates = updates_after store.limit store.updates script_record }

-- The store after a publication that was refused memory: the first of the pending updates may be published. The next
-- publication publishes the others.
pub record PublishesFirst (before after : StoreData) : Type 0 where
  pub profile : after.profile ≡ before.profile
  pub limit : after.limit ≡ before.limit
  pub accepted : accepted_updates after.updates ≡ accepted_updates before.updates
  pub grows : Extends after.updates.published before.updates.published

-- The store after a record for which memory was refused: but for a publication it is as it was.
abbrev pub IsRefusedMemory : StoreData → Record → StoreData → Type 0
IsRefusedMemory before script_record.Publish after = PublishesFirst before after
IsRefusedMemory before other after = after ≡ before

-- What is left in the place of a record that was answered: a call stays, of which nothing is kept.
abbrev pub left_in_place : Record → Record
left_in_place (script_record.Call event) = script_record.Call event
left_in_place other = script_record.Publish

-- The fields of a store agree: its updates are a front, the admission is theirs, and the records are those of the
-- published ones.
pub record IsSound (admission : AdmissionData) (records : RecordsData) (updates : Updates) : Type 0 where
  pub front : IsFront admission.limit (accepted_updates updates)
  pub admits : IsAdmissionOfUpdates admission admission.limit updates
  pub published : records ≡ records_of updates.published

-- How a proof tells the values of `StoreData` apart.

-- They are told apart as the tuple of their parts.
abbrev pub store_code : Coded StoreData
store_code = code_by (Profile × (ℕ × (List Update × List Update)))
    (coded× profile.the_row.coded (coded× coded_ℕ (coded× (coded_list update.the_row.coded) (coded_list update.the_row.coded))))
    (λ store. (store.profile, (store.limit, (store.updates.published, store.updates.pending))))
    (λ parts. record {
      profile = parts.0;
      limit = parts.1.0;
      updates = record { published = parts.1.1.0; pending = parts.1.1.1 };
    })
    (λ _. refl)
