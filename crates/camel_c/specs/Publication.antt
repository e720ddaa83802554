-- Publications of C, and updates that are published at once.
use Rattle.std.specs.Prelude.{◌≡◌, ◌≢◌, ◌⊎◌, ◌≤◌, ℕ, false, List, ◌∷◌, ◌++◌, length, Option, Some, All, true}
use Rattle.std.specs.List.{AllZip}
use Rattle.camel_vlr.specs.Store.{SessionData}
use Rattle.camel_c_data.specs.declared.receipt.CamelReceipt.{CamelReceipt}
use Rattle.camel_c.specs.Session.{ChangesStore, RefusesStore, with_held, with_published, GivesReceipt, LearnsReceipt}
use Rattle.camel_c.specs.Session.{MayLook, with_dropped, with_free, receipt_of}
use Rattle.camel_c.specs.Object.{HoldsAnySession, HoldsFreeStore, HoldsLiveStore, HoldsLook, HoldsSession, live_store}
use Rattle.camel_c.specs.declared.handle.CamelHandle.{CamelHandle}
use Rattle.camel_c.specs.declared.store.LiveStore.{LiveStore}
use Rattle.camel_c.specs.declared.object.Object.{Object}
use Rattle.camel_c.specs.declared.session.ThreadSession.{ThreadSession}
use Rattle.camel_criteria.specs.Refusal.{refusal_code}
use Rattle.camel_criteria.specs.declared.refusal.Refusal.{Refusal}
use Rattle.camel_rows.specs.declared.subscriber.update.Update.{Update}
use Rattle.camel_c.specs.Submission.{AcceptsTogether, RejectsTogether, with_all_pending}
use Rattle.camel_c.specs.Updates.{HoldUpdates}
use Rattle.camel_c.specs.declared.object.Object.TheVariants as object

-- A publication that sessions are told of.

-- it is a session without a look, of the store of this number
abbrev pub IsReady : ℕ → CamelHandle → Type 0
IsReady number handle = (own : ThreadSession) × (handle.value ≡ Some (object.Session own))
    × (own.session.looks ≡ false) × (own.store ≡ number)

abbrev pub AllReady : ℕ → List CamelHandle → Type 0
AllReady number handles = All (IsReady number) handles

-- it is no session (503), or has begun a look (501), or is of another store (505)
pub record IsUnready (number : ℕ) (held : Option Object) (status : ℕ) : Type 0 where
  pub session : HoldsAnySession held → (status ≡ 501) ⊎ (status ≡ 505)
  pub none : HoldsAnySession held ⊎ (status ≡ 503)
  pub looks : HoldsLook held → status ≡ 501
  pub foreign : HoldsSession held → status ≡ 505

-- all handles before this one are ready, and it is not
pub record FirstUnready (number : ℕ) (handles : List CamelHandle) (status : ℕ) : Type 0 where
  pub ready : List CamelHandle
  pub one : CamelHandle
  pub rest : List CamelHandle
  pub whole : handles ≡ ready ++ one ∷ rest
  pub before : AllReady number ready
  pub is : IsUnready number one.value status

-- it is a session, which has learnt the receipt
abbrev pub Learns : CamelReceipt → CamelHandle → CamelHandle → Type 0
Learns receipt before after = (own : ThreadSession) × (shown : SessionData) × (left : ThreadSession)
    × (before.value ≡ Some (object.Session own)) × (after.value ≡ Some (object.Session left))
    × LearnsReceipt receipt own shown left

-- each is as before, or has looked
abbrev pub AllMayLook : List CamelHandle → List CamelHandle → Type 0
AllMayLook before after = AllZip (λ handle left. MayLook handle.value left.value) before after

abbrev pub AllLearn : CamelReceipt → List CamelHandle → List CamelHandle → Type 0
AllLearn receipt before after = AllZip (Learns receipt) before after

-- it is a store that takes updates, with sessions of its own, none of which has begun a look
abbrev pub AreReady : Option Object → List CamelHandle → Type 0
AreReady held sessions = (live : LiveStore) × (held ≡ Some (live_store live)) × AllReady live.number sessions

-- neither the store nor a session has changed
abbrev pub IsAsBefore : Option Object → Option Object → List CamelHandle → List CamelHandle → Type 0
IsAsBefore before after sessions left = (after ≡ before) × (left ≡ sessions)

-- What is pending is published, and these sessions learn it, or this is the status that says why not.
pub record PublishesTo (status : ℕ) (before after : Option Object) (sessions left : List CamelHandle) : Type 0 where
  pub published : status ≡ 0 → ChangesStore with_published before after
  pub learnt : status ≡ 0 → (receipt : CamelReceipt) × GivesReceipt after receipt × AllLearn receipt sessions left
  -- a look held the publication up, which is counted
  pub held : AreReady before sessions → status ≡ 501 → ChangesStore with_held before after × (left ≡ sessions)
  pub refused : AreReady before sessions → status ≡ 102 → RefusesStore before after × (left ≡ sessions)
  -- it is published, and a session has not seen it
  pub unseen : AreReady before sessions → (status ≡ 104) ⊎ (status ≡ 505)
      → ChangesStore with_published before after × AllMayLook sessions left
  pub only : length sessions ≤ 64 → AreReady before sessions
      → (status ≡ 0) ⊎ ((status ≡ 102) ⊎ ((status ≡ 501) ⊎ ((status ≡ 104) ⊎ (status ≡ 505))))
  pub free : HoldsFreeStore before → AreReady before sessions → status ≢ 501
  -- if the call is wrong, all is as before
  pub many : (length sessions ≤ 64) ⊎ ((status ≡ 502) × IsAsBefore before after sessions left)
  pub wrong : length sessions ≤ 64 → HoldsLiveStore before ⊎ ((status ≡ 503) × IsAsBefore before after sessions left)
  pub unready : length sessions ≤ 64 → (live : LiveStore) → before ≡ Some (live_store live)
      → AllReady live.number sessions ⊎ (FirstUnready live.number sessions status × IsAsBefore before after sessions left)

-- Updates that are published by themselves, and that sessions are told of, or that are as if they had not been submitted.

-- a store that has published these updates behind those that it had published, and no other
abbrev pub with_committed : List Update → LiveStore → LiveStore
with_committed updates live = with_published (with_all_pending updates (with_dropped live))

-- a store that has dropped all that was pending, and whose next publication no look holds up
abbrev pub with_cleared : LiveStore → LiveStore
with_cleared live = with_free true (with_dropped live)

-- a store has published what it had published; what is pending may be another
abbrev pub ShowsNoMore : LiveStore → LiveStore → Type 0
ShowsNoMore before after = after ≡ record before {
  vlr = record before.vlr {
    updates =
        record { published = before.vlr.updates.published; pending = after.vlr.updates.pending };
    free = after.vlr.free;
    held = after.vlr.held;
    ahead = after.vlr.ahead;
  };
}

-- What becomes of updates that a store is to publish, and have sessions learn: one of five. This is the status, and this
-- the index of the update that the store rejects, or how many there are if it rejects none.
module _ (updates : List Update) (status rejected : ℕ) (before after : LiveStore) (sessions left : List CamelHandle) where
  -- all are accepted and published, and each session has learnt it
  pub record IsCommitted : Type 0 where
    pub status_is : status ≡ 0
    pub none : rejected ≡ length updates
    pub after_is : after ≡ with_committed updates before
    pub accepted : AcceptsTogether (with_cleared before).vlr updates
    pub learnt : AllLearn (receipt_of after) sessions left

  -- one is not accepted; nothing is pending, and nothing is published
  pub record IsRejected : Type 0 where
    pub why : Refusal
    pub status_is : status ≡ refusal_code why
    pub is : RejectsTogether (with_cleared before).vlr updates rejected why
    pub store : after ≡ with_cleared before
    pub same : left ≡ sessions

  -- a look holds the publication up, which is counted; nothing is pending, and nothing is published
  pub record IsHeldOff : Type 0 where
    pub status_is : status ≡ 501
    pub none : rejected ≡ length updates
    pub store : after ≡ with_held (with_dropped before)
    pub same : left ≡ sessions

  -- memory is refused; nothing is published
  pub record IsWithoutMemory : Type 0 where
    pub status_is : status ≡ 102
    pub none : rejected ≡ length updates
    pub store : ShowsNoMore before after
    pub same : left ≡ sessions

  -- all is published, and a session has not seen it, which no run meets
  pub record IsUnseen : Type 0 where
    pub status_is : (status ≡ 104) ⊎ (status ≡ 505)
    pub store : after ≡ with_committed updates before
    pub looked : AllMayLook sessions left

  abbrev pub Commits : Type 0
  Commits = IsCommitted ⊎ (IsRejected ⊎ (IsHeldOff ⊎ (IsWithoutMemory ⊎ IsUnseen)))

-- The updates that handles hold are committed so, or memory is refused while they are copied. If the call is wrong, all is
-- as before.
pub record CommitsTo (updates : List CamelHandle) (status rejected : ℕ) (before after : Option Object)
    (sessions left : List CamelHandle) : Type 0 where
  pub commits : (live : LiveStore) (held : List Update) → length sessions ≤ 64 → HoldUpdates updates held
      → before ≡ Some (live_store live) → AllReady live.number sessions
      → (changed : LiveStore) × (after ≡ Some (live_store changed)) × Commits held status rejected live changed sessions left
  pub many : (length sessions ≤ 64) ⊎ ((status ≡ 502) × IsAsBefore before after sessions left)
  pub none : length sessions ≤ 64
      → ((held : List Update) × HoldUpdates updates held) ⊎ ((status ≡ 503) × IsAsBefore before after sessions left)
  pub wrong : length sessions ≤ 64 → HoldsLiveStore before ⊎ ((status ≡ 503) × IsAsBefore before after sessions left)
  pub unready : length sessions ≤ 64 → (held : List Update) → HoldUpdates updates held
      → (live : LiveStore) → before ≡ Some (live_store live)
      → AllReady live.number sessions ⊎ (FirstUnready live.number sessions status × IsAsBefore before after sessions left)
