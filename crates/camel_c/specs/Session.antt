-- Sessions of C: what one shows, decides, keeps and learns.
use Rattle.std.specs.Prelude.{◌≡◌, ◌⊎◌, ◌+◌, ◌%◌, ◌^◌, Bool, not, false, true, List, Option, Some, ℕ, ◌≢◌, None, IfSome}
use Rattle.std.specs.Prelude.{IsSomeAnd, is_some, length, ◌≤◌, ◌<◌}
use Rattle.std.specs.Option.{option_and_then}
use Rattle.camel_rows.specs.Store.{with_update}
use Rattle.camel_rows.specs.declared.subscriber.update.Update.{Update}
use Rattle.camel_vlr.specs.Store.{with_all_published, with_none_pending, LeavesLook, Sees, SessionData}
use Rattle.camel_c.specs.Object.{closing_store, live_store, HoldsAnySession, HoldsLook, HoldsSession}
use Rattle.camel_c.specs.declared.store.LiveStore.{LiveStore}
use Rattle.camel_c.specs.declared.object.Object.{Object}
use Rattle.camel_c.specs.declared.session.ThreadSession.{ThreadSession}
use Rattle.camel_rows.specs.Subscriber.{EntryData, O, T, SubscriberData, entry_at, row_at}
use Rattle.camel_rows.specs.TdpRow.{TdpRowData}
use Rattle.camel_rows.specs.Update.{records_of}
use Rattle.camel_c_data.specs.Update.{ShowsO, ShowsT}
use Rattle.camel_c_data.specs.declared.criteria.CamelCriteria.{CamelCriteria}
use Rattle.camel_c_data.specs.Fields.{flag_of}
use Rattle.camel_rows.specs.Decision.{by_record, EventData, outcome_of, answer_over, event_dp, event_imsi}
use Rattle.camel_rows.specs.declared.trigger.outcome.Answer.{Answer}
use Rattle.camel_c.specs.declared.subscriber.KeptSubscriber.{KeptSubscriber}
use Rattle.camel_c_data.specs.Event.{outcome_number, with_decision, ShowsAnswer}
use Rattle.camel_c_data.specs.declared.answer.CamelAnswer.{CamelAnswer}
use Rattle.camel_c_data.specs.declared.receipt.CamelReceipt.{CamelReceipt}
use Rattle.camel_c.specs.declared.object.Object.TheVariants as object
use Rattle.std.specs.FinMap as map

-- What the calls of C do to what their handles hold.

-- it was a store that takes updates, and is changed so
abbrev pub ChangesStore : (LiveStore → LiveStore) → Option Object → Option Object → Type 0
ChangesStore change before after =
    (live : LiveStore) × (before ≡ Some (live_store live)) × (after ≡ Some (live_store (change live)))

-- memory was refused to a publication, which no look held up; nothing was published
abbrev pub IsRefused : LiveStore → LiveStore → Type 0
IsRefused before after = after ≡ record before { vlr = record before.vlr { free = true; held = false; ahead = after.vlr.ahead } }

-- it was a store that takes updates, to whose publication memory was refused
abbrev pub RefusesStore : Option Object → Option Object → Type 0
RefusesStore before after =
    (live : LiveStore) × (left : LiveStore) × (before ≡ Some (live_store live)) × (after ≡ Some (live_store left)) × IsRefused live left

-- a store with an update more
abbrev pub with_pending : Update → LiveStore → LiveStore
with_pending update live = record live { vlr = record live.vlr { updates = with_update live.vlr.updates update } }

-- a store that has published all that was pending; whether the next publication is held up is not known
abbrev pub with_published : LiveStore → LiveStore
with_published live = record live { vlr = with_all_published live.vlr }

-- a store that has dropped all that was pending
abbrev pub with_dropped : LiveStore → LiveStore
with_dropped live = record live { vlr = with_none_pending live.vlr }

-- a store of which a look has held a publication up, which is counted modulo 2^64
abbrev pub with_held : LiveStore → LiveStore
with_held live = record live { held = (live.held + 1) % 2 ^ 64; vlr = record live.vlr { held = true } }

-- a store of which it is known whether a look holds the next publication up
abbrev pub with_free : Bool → LiveStore → LiveStore
with_free free live = record live { vlr = record live.vlr { free = free; held = not free } }

-- it is a store that has published these updates, and has not ended
abbrev pub HasPublished : List Update → Option Object → Type 0
HasPublished published held =
    ((live : LiveStore) × (held ≡ Some (live_store live)) × (published ≡ live.vlr.updates.published))
    ⊎ (held ≡ Some (closing_store published))

-- a look holds the end of the store up
abbrev pub IsHeldUp : Option Object → Option Object → Type 0
IsHeldUp before after =
    (published : List Update) × HasPublished published before × (after ≡ Some (closing_store published))

-- a session that sees so, and is the same else
abbrev pub with_session : ThreadSession → SessionData → ThreadSession
with_session own session = record own { session = session }

-- it was a session, and its look has begun
abbrev pub BeginsLook : Option Object → Option Object → Type 0
BeginsLook before after = (own : ThreadSession) × (looking : SessionData) × (before ≡ Some (object.Session own))
    × (after ≡ Some (object.Session (with_session own looking))) × Sees own.session looking

-- it is a session, which has no look now, and keeps what it had seen and learnt
abbrev pub IsWithoutLook : Option Object → Option Object → Type 0
IsWithoutLook before after = (own : ThreadSession) × (left : SessionData) × (before ≡ Some (object.Session own))
    × (after ≡ Some (object.Session (with_session own left))) × LeavesLook own.session left

-- What a session shows while it looks.

-- the record of a subscriber, over the front of a look
abbrev pub record_shown : SessionData → List ℕ → Option SubscriberData
record_shown shown imsi = map.get (records_of shown.seen) imsi

-- the row of a subscriber at a detection point, over the front of a look
abbrev pub row_shown : SessionData → List ℕ → ℕ → Option TdpRowData
row_shown shown imsi dp = option_and_then (row_at dp) (record_shown shown imsi)

-- the entry of a subscriber at a detection point, over the front of a look
abbrev pub entry_shown : SessionData → List ℕ → ℕ → Option EntryData
entry_shown shown imsi dp = option_and_then (entry_at dp) (record_shown shown imsi)

-- the fields are each part of an entry of either CSI
abbrev pub ShowsEntry : EntryData → CamelCriteria → Type 0
ShowsEntry (O entry) fields = ShowsO entry fields
ShowsEntry (T entry) fields = ShowsT entry fields

-- What a session of C shows: the front of the look that has begun, or of a look of its own.

-- a session shows the front of the look that has begun, or else of a look of its own, which it has left then
pub record Shows (before : ThreadSession) (shown : SessionData) (after : ThreadSession) : Type 0 where
  pub by_look : before.session.looks ≡ false → Sees before.session shown
  pub over_look : before.session.looks ≡ true → shown ≡ before.session
  pub looks : shown.looks ≡ true
  pub left : after ≡ with_session before (record shown { looks = before.session.looks })

-- A call looks, and gives what holds of the session before, of what it shows and of the session after; if its data are
-- none, or no session looks, it does nothing.
pub record Looks (IsMalformed : Type 0) (Gives : ThreadSession → SessionData → ThreadSession → Type 0) (status : ℕ)
    (before after : Option Object) : Type 0 where
  pub shown : status ≡ 0 → (own : ThreadSession) × (shown : SessionData) × (left : ThreadSession)
      × (before ≡ Some (object.Session own)) × (after ≡ Some (object.Session left)) × Gives own shown left
  pub unchanged : status ≢ 0 → after ≡ before
  pub malformed : IsMalformed → status ≡ 502
  pub only : HoldsSession before → IsMalformed ⊎ ((status ≡ 0) ⊎ (status ≡ 104))
  pub looking : HoldsLook before → IsMalformed ⊎ (status ≡ 0)
  pub wrong : HoldsAnySession before ⊎ (IsMalformed ⊎ (status ≡ 503))

-- fields are found where there are data, and show them
abbrev pub Finds : {Data Fields : Type 0} → (Data → Fields → Type 0) → Option Data → Option Fields → Type 0
Finds shows None found = found ≡ None
Finds shows (Some it) found = IsSomeAnd found (shows it)

-- what is found is written, and else nothing
pub record Writes {Fields : Type 0} (found : Option Fields) (before after : Fields) (is_there : ℕ) : Type 0 where
  pub told : is_there ≡ flag_of (is_some found)
  pub written : IfSome found (λ fields. after ≡ fields)
  pub unchanged : found ≡ None → after ≡ before

-- data are written if they are there, and nothing else
pub record ShowsWritten {Data Fields : Type 0} (shows : Data → Fields → Type 0) (held : Option Data) (before after : Fields)
    (is_there : ℕ) : Type 0 where
  pub told : is_there ≡ flag_of (is_some held)
  pub shown : IfSome held (λ it. shows it after)
  pub unchanged : held ≡ None → after ≡ before

-- What is decided by the record of a subscriber that a call keeps.

-- the outcome by the record, and how many updates the front has that it is from
abbrev pub answer_by : KeptSubscriber → EventData → Answer
answer_by kept event = record { front = kept.front; outcome = outcome_of (by_record kept.profile event (Some kept.subscriber)) }

-- it is this record over the front of a look
pub record Keeps (shown : SessionData) (stored : SubscriberData) (kept : KeptSubscriber) : Type 0 where
  pub same : kept.subscriber ≡ stored
  pub front : kept.front ≡ length shown.seen
  pub profile : kept.profile ≡ shown.store.profile

-- a copy is made if there is a record over the front of the look
abbrev pub KeepsShown : SessionData → Option SubscriberData → Option KeptSubscriber → Type 0
KeepsShown shown None kept = kept ≡ None
KeepsShown shown (Some stored) kept = IsSomeAnd kept (Keeps shown stored)

-- a handle that was empty is filled with the record that is found, or stays empty
pub record FillsKept (shown : SessionData) (found : Option SubscriberData) (before after : Option Object) (is_there : ℕ) : Type 0 where
  pub empty : before ≡ None
  pub told : is_there ≡ flag_of (is_some found)
  pub kept : IfSome found (λ stored. (kept : KeptSubscriber) × (after ≡ Some (object.Kept kept)) × Keeps shown stored kept)
  pub none : found ≡ None → after ≡ None

abbrev pub HoldsKept : Option Object → Type 0
HoldsKept held = (kept : KeptSubscriber) × (held ≡ Some (object.Kept kept))

-- a session has looked, and memory was refused
abbrev pub ShowsInVain : Option Object → Option Object → Type 0
ShowsInVain before after = (own : ThreadSession) × (shown : SessionData) × (left : ThreadSession)
    × (before ≡ Some (object.Session own)) × (after ≡ Some (object.Session left)) × Shows own shown left

-- How a session of C decides an event.

-- the session has counted the answer of an event
abbrev pub with_counted : ThreadSession → EventData → Answer → ThreadSession
with_counted own event answer =
    record own { decisions = with_decision own.decisions (event_dp event) (outcome_number answer.outcome) }

-- it is a session, which has counted the answer of an event
abbrev pub CountsDecision : EventData → Answer → Option Object → Option Object → Type 0
CountsDecision event answer before after = (own : ThreadSession) × (before ≡ Some (object.Session own))
    × (after ≡ Some (object.Session (with_counted own event answer)))

-- the answer is the one that the trigger rules give over the front that is shown, under the profile of the store, and
-- the session has counted it
pub record Decides (event : EventData) (answer : Answer) (before : ThreadSession) (shown : SessionData) (after : ThreadSession) : Type 0 where
  pub decided : answer ≡ answer_over shown.store.profile shown.seen event
  pub shows : (left : ThreadSession) × Shows before shown left
      × (after ≡ with_counted left event answer)

-- The set-up of a call: what is decided and kept over one front.

-- the event is decided and counted, and the record of its subscriber kept, over the front that is shown
pub record SetsUp (event : EventData) (written : CamelAnswer) (empty filled : Option Object) (is_there : ℕ)
    (before : ThreadSession) (shown : SessionData) (after : ThreadSession) : Type 0 where
  pub decided : (answer : Answer) × ShowsAnswer answer written × Decides event answer before shown after
  pub kept : FillsKept shown (record_shown shown (event_imsi event)) empty filled is_there

-- What a call fetches from a session, for which it takes memory.

-- A call looks, takes memory for what it gives, and gives what holds of the session before, of what it shows and of the
-- session after. If memory is refused (102), the session has looked. If the call's data are none, no session looks or the
-- handle that it is to fill is not free, it does nothing.
pub record Fetches (IsMalformed IsFree : Type 0) (Gives : ThreadSession → SessionData → ThreadSession → Type 0) (status : ℕ)
    (before after : Option Object) : Type 0 where
  pub shown : status ≡ 0 → (own : ThreadSession) × (shown : SessionData) × (left : ThreadSession)
      × (before ≡ Some (object.Session own)) × (after ≡ Some (object.Session left)) × Gives own shown left
  pub no_memory : status ≡ 102 → ShowsInVain before after
  pub unchanged : status ≢ 0 → status ≢ 102 → after ≡ before
  pub malformed : IsMalformed → status ≡ 502
  pub only : HoldsSession before → IsFree → IsMalformed ⊎ ((status ≡ 0) ⊎ ((status ≡ 102) ⊎ (status ≡ 104)))
  pub looking : HoldsLook before → IsFree → IsMalformed ⊎ ((status ≡ 0) ⊎ (status ≡ 102))
  pub wrong : HoldsAnySession before ⊎ (IsMalformed ⊎ (status ≡ 503))
  pub full : HoldsAnySession before → IsFree ⊎ (IsMalformed ⊎ (status ≡ 504))

-- Receipts: what a store has published, and what a session has seen of it.

-- a receipt of all that a store has published
abbrev pub receipt_of : LiveStore → CamelReceipt
receipt_of live = record { store = live.number; front = length live.vlr.updates.published }

-- it is a store that takes updates, and this is a receipt of all that it has published
abbrev pub GivesReceipt : Option Object → CamelReceipt → Type 0
GivesReceipt held receipt = (live : LiveStore) × (held ≡ Some (live_store live)) × (receipt ≡ receipt_of live)

-- the session is of the receipt's store, and has looked at a front with at least as many updates; so all its later looks
-- are at fronts which extend that one
pub record LearnsReceipt (receipt : CamelReceipt) (before : ThreadSession) (shown : SessionData) (after : ThreadSession) : Type 0 where
  pub store : receipt.store ≡ before.store
  pub shows : Shows before shown after
  pub reaches : receipt.front ≤ length shown.seen

-- it is a session without a look, and the receipt is of another store
abbrev pub IsForeign : CamelReceipt → Option Object → Type 0
IsForeign receipt held = (own : ThreadSession) × (held ≡ Some (object.Session own)) × (own.session.looks ≡ false)
    × (receipt.store ≢ own.store)

-- the receipt is of another store than the session, or of more updates than the look showed
abbrev pub RejectsReceipt : CamelReceipt → Option Object → Option Object → Type 0
RejectsReceipt receipt before after = (own : ThreadSession) × (before ≡ Some (object.Session own))
    × (((receipt.store ≢ own.store) × (after ≡ before))
    ⊎ ((shown : SessionData) × (left : ThreadSession) × (after ≡ Some (object.Session left)) × Shows own shown left
    × (length shown.seen < receipt.front)))

-- what is held is as before, or a session that has looked
abbrev pub MayLook : Option Object → Option Object → Type 0
MayLook before after = (after ≡ before) ⊎ ShowsInVain before after
