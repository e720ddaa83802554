-- The data of a store from its fields, and updates that are accepted together. It is for the proof.
use Rattle.std.specs.Prelude.{◌≡◌, ℕ, ◌≤◌, Bool, List, [], ◌++◌, None, not, true, false, unwrap_or, ◌∷◌, Some}
use Rattle.camel_rows.specs.Store.{no_admissions, IsAdmissionOfUpdates, Updates, accepted_updates, AdmissionData}
use Rattle.camel_rows.specs.Store.{with_admission}
use Rattle.camel_rows.specs.Update.{Extends, IsFront, value_of, csis_after, update_imsi}
use Rattle.camel_rows.specs.declared.subscriber.update.Update.{Update}
use Rattle.camel_vlr.specs.Operation.{updates_among}
use Rattle.camel_vlr.specs.History.{PrefixData}
use Rattle.camel_vlr.specs.Seat.{IsOfItsFront}
use Rattle.camel_vlr.specs.Store.{StoreData}
use Rattle.camel_vlr.specs.declared.base.publisher.Publisher.{Ghosts}
use Rattle.camel_vlr.specs.declared.writer.TheConstants.{MAX_UPDATES}
use Rattle.camel_vlr.specs.declared.writer.Vlr.TheInside.{Inside}
use Rattle.camel_vlr.specs.declared.writer.operation.Operation.{Operation}
use Rattle.camel_vlr.specs.declared.writer.state.State.{State}
use Rattle.camel_rows.specs.declared.subscriber.csis_present.CsisPresent.{CsisPresent}
use Rattle.camel_vlr.specs.declared.writer.group.Accepted.{Accepted}
use Rattle.std.specs.FinMap as map

-- The data of a store from its fields, and what the fields keep.

abbrev pub published_in : {W S : Type 0} → Ghosts W S → Inside W S → List Update
published_in g a = (g.shown a.writer).front.updates

-- the operations that are pending: those that the base has, and behind them those that it was not handed yet
abbrev pub operations_in : {W S : Type 0} → Ghosts W S → Inside W S → List Operation
operations_in g a = g.pending a.writer ++ a.state.pending.items

abbrev pub pending_in : {W S : Type 0} → Ghosts W S → Inside W S → List Update
pending_in g a = updates_among (operations_in g a)

abbrev pub updates_in : {W S : Type 0} → Ghosts W S → Inside W S → Updates
updates_in g a = record { published = published_in g a; pending = pending_in g a }

abbrev pub limit_in : {W S : Type 0} → Ghosts W S → Inside W S → ℕ
limit_in g a = (g.shown a.writer).front.store.limit

abbrev pub known_free : {W S : Type 0} → Inside W S → Bool
known_free a = unwrap_or a.state.is_free false

abbrev pub known_held : {W S : Type 0} → Inside W S → Bool
known_held a = not (unwrap_or a.state.is_free true)

abbrev pub store_of : {W S : Type 0} → Ghosts W S → Inside W S → StoreData
store_of g a =
    record { store = (g.shown a.writer).front.store; updates = updates_in g a; free = known_free a; held = known_held a; ahead = a.state.is_ahead }

pub record IsStore {W S : Type 0} (g : Ghosts W S) (a : Inside W S) : Type 0 where
  pub shown : IsOfItsFront (g.shown a.writer)
  pub all : IsFront (limit_in g a) (accepted_updates (updates_in g a))
  pub admits : IsAdmissionOfUpdates a.state.admission (limit_in g a) (updates_in g a)
  pub greatest : limit_in g a ≤ MAX_UPDATES
  pub tells : g.tells a.writer (g.shown a.writer).front
  pub store : a.state.history.store ≡ (g.shown a.writer).front.store
  pub profile : a.state.profile ≡ (g.shown a.writer).front.store.profile
  -- the history goes beyond what is published, and not beyond what is pending
  pub within : Extends (accepted_updates (updates_in g a)) a.state.history.updates
  pub beyond : Extends a.state.history.updates (published_in g a)
  pub ahead : a.state.is_ahead ≡ false → a.state.history.updates ≡ published_in g a
  pub free : known_free a ≡ true → g.free a.writer
  pub held : known_held a ≡ true → g.held a.writer

-- the state of a store that has this history, and no updates yet
pub record IsNew (history : PrefixData) (state : State) : Type 0 where
  pub same : state.history ≡ history
  pub none : state.pending.items ≡ []
  pub admission : state.admission ≡ no_admissions history.store.limit
  pub profile : state.profile ≡ history.store.profile
  pub level : state.is_ahead ≡ false
  pub unknown : state.is_free ≡ None

-- How several updates are accepted or taken back. It is for the proof: no promise cites it.

-- an admission with this accepted update more
abbrev pub admitted : AdmissionData → Update → AdmissionData
admitted admission update =
    with_admission admission (update_imsi update) (csis_after (value_of admission.directory (update_imsi update)) update)

-- taking this update back leads to the first of the two admissions
abbrev pub IsTakenBackTo : AdmissionData → Accepted → AdmissionData → Type 0
IsTakenBackTo first one admission = (csis : CsisPresent) × (admission ≡ with_admission first (Some one.imsi) (Some csis))
    × (one.before ≡ map.get first.directory one.imsi)

-- so does taking these back, in this order
abbrev pub AllTakenBackTo : AdmissionData → List Accepted → AdmissionData → Type 0
AllTakenBackTo first [] admission = admission ≡ first
AllTakenBackTo first (one ∷ accepted) admission =
    (before : AdmissionData) × IsTakenBackTo before one admission × AllTakenBackTo first accepted before

-- an admission and a list as these updates have made them, from the first ones on
abbrev pub IsMadeFrom : AdmissionData → List Operation → AdmissionData → List Operation → List Accepted → Type 0
IsMadeFrom first before admission pending accepted =
    AllTakenBackTo first accepted admission × ((more : List Operation) × (pending ≡ before ++ more))
