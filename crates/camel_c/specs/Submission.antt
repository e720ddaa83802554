-- Submissions, of one update and of several together.
use Rattle.std.specs.Prelude.{◌≡◌, ◌≢◌, ◌⊎◌, ◌≤◌, ℕ, Option, Some, Result, Ok, Err, IfSome, IsSome, List, [], ◌∷◌, ◌++◌}
use Rattle.std.specs.Prelude.{length, None}
use Rattle.camel_criteria.specs.Refusal.{refusal_code}
use Rattle.camel_rows.specs.declared.subscriber.update.Update.{Update}
use Rattle.camel_vlr.specs.Store.{submission_refusal, AcceptsAll, RejectsAt, StoreData, with_accepted}
use Rattle.camel_c_data.specs.Fields.{data_fault_code, imsi_in}
use Rattle.camel_reading.specs.Reading.{◌>>=◌}
use Rattle.camel_c_data.specs.declared.data_fault.DataFault.{DataFault}
use Rattle.camel_c_data.specs.declared.imsi.CamelImsi.{CamelImsi}
use Rattle.camel_c.specs.Session.{ChangesStore, with_pending}
use Rattle.camel_c.specs.Object.{HoldsLiveStore, live_store}
use Rattle.camel_c.specs.declared.store.LiveStore.{LiveStore}
use Rattle.camel_c.specs.declared.object.Object.{Object}
use Rattle.camel_criteria.specs.declared.refusal.Refusal.{Refusal}
use Rattle.camel_rows.specs.declared.subscriber.update.Update.TheVariants as update

-- Submissions: the update that the data of a caller are, and what the store makes of it.

-- the Register of an IMSI
abbrev pub register_in : CamelImsi → Result Update DataFault
register_in held = imsi_in held >>= λ imsi. Ok (update.Register imsi)

-- the Cancel of an IMSI
abbrev pub cancel_in : CamelImsi → Result Update DataFault
cancel_in held = imsi_in held >>= λ imsi. Ok (update.Cancel imsi)

-- no update is of this number
abbrev pub IsNoKind : ℕ → Type 0
IsNoKind kind = (kind ≡ 0) ⊎ (6 ≤ kind)

-- Data that read so are submitted to what a handle held before, and this is the status. Memory may be refused (102) while
-- the store takes the update.
pub record Submits (reading : Result Update DataFault) (status : ℕ) (before after : Option Object) : Type 0 where
  -- the data are an update, which the store has taken
  pub submitted : status ≡ 0 → (update : Update) × (reading ≡ Ok update) × ChangesStore (with_pending update) before after
  pub unchanged : status ≢ 0 → after ≡ before
  -- the data are none
  pub faulty : (fault : DataFault) → reading ≡ Err fault → status ≡ data_fault_code fault
  -- the store does not accept the update
  pub refused : (update : Update) (live : LiveStore) → reading ≡ Ok update → before ≡ Some (live_store live)
      → IfSome (submission_refusal live.vlr update) (λ why. status ≡ refusal_code why)
  -- a store takes an update that it accepts, unless memory is refused
  pub only : (update : Update) (live : LiveStore) → reading ≡ Ok update → before ≡ Some (live_store live)
      → (status ≡ 0) ⊎ ((status ≡ 102) ⊎ IsSome (submission_refusal live.vlr update))
  -- no store takes updates
  pub wrong : (update : Update) → reading ≡ Ok update → HoldsLiveStore before ⊎ (status ≡ 503)

-- they are submitted so, or memory is refused (102) while they are read
abbrev pub ReadsAndSubmits : Result Update DataFault → ℕ → Option Object → Option Object → Type 0
ReadsAndSubmits reading status before after = Submits reading status before after ⊎ ((status ≡ 102) × (after ≡ before))

-- Submissions of several updates together: what the store makes of them.

-- a store with updates more
abbrev pub with_all_pending : List Update → LiveStore → LiveStore
with_all_pending updates live = record live {
  vlr = record live.vlr {
    updates =
        record live.vlr.updates { pending = live.vlr.updates.pending ++ updates };
  };
}

-- updates are accepted together: one for itself, and several each over those before it
abbrev pub AcceptsTogether : StoreData → List Update → Type 0
AcceptsTogether store (update ∷ []) = submission_refusal store update ≡ None
AcceptsTogether store updates = AcceptsAll submission_refusal with_accepted store updates

-- one of the updates, the first being 0, is the first that is not accepted so, and why
abbrev pub RejectsTogether : StoreData → List Update → ℕ → Refusal → Type 0
RejectsTogether store (update ∷ []) at why = (at ≡ 0) × (submission_refusal store update ≡ Some why)
RejectsTogether store updates at why = RejectsAt submission_refusal with_accepted store updates at why

-- A store is given updates together; this is the status, and this the index of the one that is rejected, or how many there
-- are if none is. Memory may be refused (102).
pub record TakesAll (updates : List Update) (status rejected : ℕ) (before after : LiveStore) : Type 0 where
  pub taken : status ≡ 0 → (after ≡ with_all_pending updates before) × AcceptsTogether before.vlr updates
  pub none : status ≡ 0 → rejected ≡ length updates
  pub unchanged : status ≢ 0 → after ≡ before
  -- or one is the first that is not
  pub refused : (status ≡ 0) ⊎ (((status ≡ 102) × (rejected ≡ length updates))
      ⊎ ((why : Refusal) × (status ≡ refusal_code why) × RejectsTogether before.vlr updates rejected why))

-- Updates are submitted together to what a handle held before.
pub record SubmitsAll (updates : List Update) (status rejected : ℕ) (before after : Option Object) : Type 0 where
  pub taken : (live : LiveStore) → before ≡ Some (live_store live)
      → (left : LiveStore) × (after ≡ Some (live_store left)) × TakesAll updates status rejected live left
  pub unchanged : status ≢ 0 → after ≡ before
  -- no store takes updates
  pub wrong : HoldsLiveStore before ⊎ ((status ≡ 503) × (rejected ≡ length updates))

-- they are submitted so, or memory is refused (102) while they are copied
abbrev pub ReadsAndSubmitsAll : List Update → ℕ → ℕ → Option Object → Option Object → Type 0
ReadsAndSubmitsAll updates status rejected before after = SubmitsAll updates status rejected before after
    ⊎ ((status ≡ 102) × (rejected ≡ length updates) × (after ≡ before))
