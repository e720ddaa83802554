-- What the writer does to copies, and how pending updates are dropped. It is for the proof: no promise cites it.
use Rattle.std.specs.Prelude.{◌≡◌, ℕ, ◌+◌, ◌-◌, ◌^◌, min, List, [], ◌∷◌, ◌++◌, drop, Some, None, ◌⊎◌, false, All}
use Rattle.std.specs.Prelude.{IsSome}
use Rattle.std.specs.Option.{option_map}
use Rattle.left_right.specs.declared.Absorb.{Ghosts}
use Rattle.left_right.specs.declared.writer.Writer.{Writer}
use Rattle.camel_vlr.specs.History.{PrefixData}
use Rattle.camel_rows.specs.Update.{RecordsData, with_value, records_after, update_imsi, csis_of, IsFront, is_of}
use Rattle.camel_rows.specs.declared.subscriber.update.Update.{Update}
use Rattle.camel_vlr.specs.declared.published_copy.PublishedCopy.{PublishedCopy}
use Rattle.camel_vlr.specs.declared.writer.operation.Operation.{Operation}
use Rattle.camel_vlr.specs.declared.base.publisher.HandedOver.{HandedOver}
use Rattle.camel_vlr.specs.declared.base.publisher.HandedOver.TheVariants.{Nothing, Operations, Kept}
use Rattle.camel_rows.specs.Store.{AdmissionData, DirectoryData, IsAdmissionOfUpdates}
use Rattle.std.specs.FinMap as map
use Rattle.camel_vlr.specs.declared.writer.operation.Operation.TheVariants as operation

-- What an operation of the writer does to a copy.

-- the data of a copy, its count of updates, and its front
abbrev pub CopyData : Type 0
CopyData = RecordsData × ℕ × PrefixData

abbrev pub data_of : PublishedCopy → CopyData
data_of copy = (copy.records, copy.count, copy.front)

-- an update changes the data, and counts; the count stays at the greatest u64, which no front reaches
abbrev pub copy_after : CopyData → Operation → CopyData
copy_after copy (operation.Update update) = (records_after copy.0 update.value, min (copy.1 + 1) (2 ^ 64 - 1), copy.2)
copy_after copy (operation.Front front) = (copy.0, copy.1, front)

-- records in which what an update has changed is as others have it
abbrev pub records_restored : RecordsData → Update → RecordsData → RecordsData
records_restored now update before = elim (update_imsi update) [ None ↦ before | Some imsi ↦ with_value now imsi (map.get before imsi) ]

-- a copy in which what an operation has changed is as another one has it
abbrev pub copy_restored : CopyData → Operation → CopyData → CopyData
copy_restored now (operation.Update update) before = (records_restored now.0 update.value before.0, before.1, before.2)
copy_restored now (operation.Front front) before = (now.0, before.1, before.2)

-- the updates among operations
abbrev pub updates_among : List Operation → List Update
updates_among [] = []
updates_among (operation.Update update ∷ operations) = update.value ∷ updates_among operations
updates_among (operation.Front front ∷ operations) = updates_among operations

-- the list has these updates more, behind what it had before
abbrev pub HasMore : List Update → List Operation → List Operation → Type 0
HasMore updates before after = (more : List Operation) × (after ≡ before ++ more) × (updates_among more ≡ updates)

-- the operations that are pending
abbrev pub pending_operations : {T O V P A S : Type 0} {g : Ghosts T O S} → Writer T O V P A S g → List O
pending_operations writer = drop writer.behind writer.log.items

-- What a base was handed over. It is for the proof: no promise cites it.

-- these operations are pending, and can be dropped, unless the base keeps them, as one does that can't always drop them
abbrev pub IsHandedOver : HandedOver → List Operation → Type 0 → Type 0 → Type 0
IsHandedOver Nothing pending droppable always = (pending ≡ []) × droppable
IsHandedOver (Operations list) pending droppable always = (list.now.items ≡ pending) × droppable
IsHandedOver Kept pending droppable always = always → ⊥

-- How an admission is restored when pending updates are dropped. It is for the proof: no promise cites it.

-- the published updates of a front, and behind them the pending ones, are a front, of which this is the admission
pub record IsAdmissionOver (front : PrefixData) (admission : AdmissionData) (pending : List Update) : Type 0 where
  pub all : IsFront front.store.limit (front.updates ++ pending)
  pub admits : IsAdmissionOfUpdates admission front.store.limit (record { published = front.updates; pending = pending })

-- each subscriber of the records has an entry in the directory
abbrev pub HasAll : RecordsData → DirectoryData → Type 0
HasAll records directory = (imsi : List ℕ) → IsSome (map.get records imsi) → IsSome (map.get directory imsi)

-- what the second directory has of a subscriber is what the records have; or none of the updates concerns this one, and
-- it is what the first one has
abbrev pub IsRestoredAt : RecordsData → List Update → DirectoryData → DirectoryData → List ℕ → Type 0
IsRestoredAt records updates before after imsi = (map.get after imsi ≡ option_map csis_of (map.get records imsi))
    ⊎ ((map.get after imsi ≡ map.get before imsi) × All (λ update. is_of imsi update ≡ false) updates)

-- the entries of all whom the updates concern are restored from the records
pub record IsRestored (records : RecordsData) (updates : List Update) (before after : AdmissionData) : Type 0 where
  pub limit : after.limit ≡ before.limit
  pub accepted : after.accepted ≡ before.accepted
  pub each : (imsi : List ℕ) → IsRestoredAt records updates before.directory after.directory imsi
