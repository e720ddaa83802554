-- The store and its sessions, as their public calls see them.
use Rattle.std.specs.Prelude.{◌≡◌, Bool, true, false, List, [], ◌∷◌, ◌++◌, All, Option, ℕ, length, fold, Some, None}
use Rattle.std.specs.Prelude.{if◌then◌else◌}
use Rattle.std.specs.List.{filter}
use Rattle.camel_vlr.specs.History.{PrefixData, StoreId}
use Rattle.camel_rows.specs.Update.{Extends, IsFront, leaves_record, is_of, records_of}
use Rattle.camel_rows.specs.declared.subscriber.update.Update.{Update}
use Rattle.camel_criteria.specs.declared.refusal.Refusal.{Refusal}
use Rattle.camel_rows.specs.Store.{Updates, all_published, store_refusal, with_update}
use Rattle.camel_rows.specs.Decision.{answer_over, EventData, DecisionData, decision, event_imsi}
use Rattle.camel_rows.specs.declared.trigger.outcome.Answer.{Answer}
use Rattle.camel_criteria.specs.declared.refusal.Refusal.TheVariants.{UnexpectedDataValue}

-- Sessions: what one has seen and been told, and what its calls make of that.

pub record SessionData : Type 0 where
  pub store : StoreId
  pub seen : List Update  -- the front of its last look
  pub told : List (List Update)  -- the fronts of the receipts that it learnt, in their order
  pub looks : Bool  -- whether it has a look

-- a session that has seen a front, and has learnt nothing
abbrev pub session_told_nothing : StoreId → List Update → SessionData
session_told_nothing store seen = record { store = store; seen = seen; told = []; looks = false }

-- the front extends each of these
pub record ExtendsAll (front : List Update) (earlier : List (List Update)) : Type 0 where
  pub each : All (Extends front) earlier

-- a look at a front that extends what the session saw before and all that it was told of
pub record Sees (before after : SessionData) : Type 0 where
  pub looks : after.looks ≡ true
  pub store : after.store ≡ before.store
  pub front : IsFront after.store.limit after.seen
  pub later : Extends after.seen before.seen
  pub told : ExtendsAll after.seen before.told
  pub keeps : after.told ≡ before.told

-- the session has no look, and all else is as before
abbrev pub LeavesLook : SessionData → SessionData → Type 0
LeavesLook before after = after ≡ record before { looks = false }

-- the session has learnt the front of a receipt too, and has no look
abbrev pub Learns : SessionData → PrefixData → SessionData → Type 0
Learns before receipt after = after ≡ record before { told = before.told ++ receipt.updates ∷ []; looks = false }

-- The store, as its public calls see it.

-- which store it is, the updates that it has accepted, and what is known of its next publication
pub record StoreData : Type 0 where
  pub store : StoreId
  pub updates : Updates
  pub free : Bool  -- it is known that no look holds it up
  pub held : Bool  -- a look was found that holds it up
  pub ahead : Bool  -- it was tried, and failed once the front was made that it would show

-- why an update is not accepted
abbrev pub submission_refusal : StoreData → Update → Option Refusal
submission_refusal store update = store_refusal store.store.limit store.updates update

-- the store has accepted an update more
abbrev pub with_accepted : StoreData → Update → StoreData
with_accepted store update = record store { updates = with_update store.updates update }

-- the store has published all that it has accepted, and nothing is known of the next publication
abbrev pub with_all_published : StoreData → StoreData
with_all_published store = record store { updates = all_published store.updates; free = false; held = false; ahead = false }

-- the published updates are all that the store has accepted
abbrev pub with_none_pending : StoreData → StoreData
with_none_pending store = record store { updates = record { published = store.updates.published; pending = [] } }

-- each of these updates leaves a record if it is accepted: none is a Cancel or a ClearAll
abbrev pub AllLeave : List Update → Type 0
AllLeave updates = All (λ update. leaves_record update ≡ true) updates

-- a session of this store that has seen and learnt nothing
abbrev pub fresh_session : StoreId → SessionData
fresh_session store = session_told_nothing store []

-- The answers that a session gives to call events.

-- an event is answered over a front that extends the front that was seen before, and each front that was told, under the
-- profile of the store
pub record IsAnswered (store : StoreId) (seen : List Update) (told : List (List Update)) (event : EventData) (answer : Answer)
    (front : List Update) : Type 0 where
  pub is_front : IsFront store.limit front
  pub later : Extends front seen
  pub reaches : ExtendsAll front told
  pub decided : answer ≡ answer_over store.profile front event

-- the events are answered in turn, each over a front of its own, which the next answer has to extend
abbrev pub Run : StoreId → List Update → List (List Update) → List EventData → List Answer → List (List Update) → Type 0
Run store seen told [] [] [] = Unit {0}
Run store seen told (event ∷ events) (answer ∷ answers) (front ∷ fronts) =
    IsAnswered store seen told event answer front × Run store front told events answers fronts
Run store seen told events answers fronts = ⊥

-- the front that was seen last
abbrev pub last_seen : List Update → List (List Update) → List Update
last_seen seen [] = seen
last_seen seen (front ∷ fronts) = last_seen front fronts

-- a session answers these events so
pub record Answers (before : SessionData) (events : List EventData) (answers : List Answer) (after : SessionData) : Type 0 where
  pub fronts : List (List Update)
  pub run : Run before.store before.seen before.told events answers fronts
  pub seen : after.seen ≡ last_seen before.seen fronts
  pub told : after.told ≡ before.told
  pub store : after.store ≡ before.store

-- Several updates that are accepted in their order, or none of them.

-- why an update is not accepted among others: for its own reason, or since it leaves no record (UnexpectedDataValue)
abbrev pub refusal_among : Option Refusal → Update → Option Refusal
refusal_among (Some why) update = Some why
refusal_among None update = if leaves_record update then None else Some UnexpectedDataValue

-- What refuses updates is of `S`: `refusal` says why it does not accept an update, and `after` what an accepted one leaves.
module _ {S : Type 0} (refusal : S → Update → Option Refusal) (after : S → Update → S) where
  -- each of the updates is accepted over those before it
  abbrev pub AcceptsAll : S → List Update → Type 0
  AcceptsAll s [] = Unit {0}
  AcceptsAll s (update ∷ updates) = (refusal_among (refusal s update) update ≡ None) × AcceptsAll (after s update) updates

  -- this one of the updates, the first being 0, is the first that is not accepted over those before it, and why
  pub record RejectsAt (s : S) (updates : List Update) (at : ℕ) (why : Refusal) : Type 0 where
    pub before : List Update
    pub rejected : Update
    pub behind : List Update
    pub order : updates ≡ before ++ rejected ∷ behind
    pub place : at ≡ length before
    pub accepts : AcceptsAll s before
    pub refused : refusal_among (refusal (fold after s before) rejected) rejected ≡ Some why

-- The updates of one subscriber only.

-- the updates of this subscriber, in their order; ClearAll is one of each
abbrev pub own_updates : List ℕ → List Update → List Update
own_updates imsi updates = filter (is_of imsi) updates

-- the updates of the event's subscriber are a front by themselves too, over whose data the decision is the same
pub record DecidedByOwn (store : StoreId) (front : List Update) (event : EventData) (decided : DecisionData) : Type 0 where
  pub own_front : IsFront store.limit (own_updates (event_imsi event) front)
  pub decision : decided ≡ decision store.profile (records_of (own_updates (event_imsi event) front)) event
