-- What the handles of C hold, and how stores, sessions and lists get into them.
use Rattle.std.specs.Prelude.{◌≡◌, true, false, List, Option, Some, ◌≢◌, ◌⊎◌, ℕ, None, ◌==◌, ◌≤◌, map, All}
use Rattle.std.specs.Prelude.{if◌then◌else◌, length, [], ◌∷◌, ◌++◌, Ok, ◌-◌, replicate}
use Rattle.camel_rows.specs.declared.subscriber.update.Update.{Update}
use Rattle.camel_vlr.specs.Store.{AllLeave, fresh_session, SessionData}
use Rattle.camel_c.specs.declared.store.LiveStore.{LiveStore}
use Rattle.camel_c.specs.declared.object.Object.{Object}
use Rattle.camel_c.specs.declared.store.Stage.{Stage}
use Rattle.camel_c.specs.declared.store.Store.{Store}
use Rattle.camel_c.specs.declared.session.ThreadSession.{ThreadSession}
use Rattle.camel_c.specs.declared.handle.CamelHandle.{CamelHandle}
use Rattle.camel_tbcd.specs.declared.profile.Profile.{Profile}
use Rattle.camel_tbcd.specs.declared.profile.Profile.TheVariants.{One, Two}
use Rattle.camel_rows.specs.Store.{no_updates}
use Rattle.camel_vlr.specs.History.{StoreId}
use Rattle.camel_c_data.specs.Event.{no_decisions}
use Rattle.camel_rows.specs.Update.{records_of}
use Rattle.camel_c_data.specs.declared.counts.CamelCounts.{CamelCounts}
use Rattle.camel_table.specs.ByImsi.{ListsEachOnce}
use Rattle.camel_c_data.specs.Fields.{imsi_in}
use Rattle.camel_c_data.specs.declared.imsi.CamelImsi.{CamelImsi}
use Rattle.camel_rows.specs.Subscriber.{SubscriberData}
use Rattle.camel_map.specs.Encoding.{insert_of_record, octets_of_update}
use Rattle.camel_c.specs.declared.data.CamelArgument.{CamelArgument}
use Rattle.camel_c.specs.declared.object.Object.TheVariants as object
use Rattle.camel_c.specs.declared.store.Stage.TheVariants as stage
use Rattle.std.specs.FinMap as map

-- What a handle of C holds.

-- a store that takes updates
abbrev pub live_store : LiveStore → Object
live_store store = object.Store (record { stage = stage.Live store })

-- a store whose end a look holds up, with the updates that it published last
abbrev pub closing_store : List Update → Object
closing_store published = object.Store (record { stage = stage.Closing published })

-- a store at this stage
abbrev pub at_stage : Stage → Option Object
at_stage s = Some (object.Store (record { stage = s }))

abbrev pub HoldsLiveStore : Option Object → Type 0
HoldsLiveStore held = (store : LiveStore) × (held ≡ Some (live_store store))

-- a store that takes updates, and of which it is known that no look holds the next publication up
abbrev pub HoldsFreeStore : Option Object → Type 0
HoldsFreeStore held = (store : LiveStore) × (held ≡ Some (live_store store)) × (store.vlr.free ≡ true)

-- a store that takes updates, and of which no publication has failed once its front was made
abbrev pub HoldsLevelStore : Option Object → Type 0
HoldsLevelStore held = (store : LiveStore) × (held ≡ Some (live_store store)) × (store.vlr.ahead ≡ false)

-- such a store, and nothing that is pending is a Cancel or a ClearAll
abbrev pub HoldsDroppable : Option Object → Type 0
HoldsDroppable held = (store : LiveStore) × (held ≡ Some (live_store store)) × (store.vlr.ahead ≡ false)
    × AllLeave store.vlr.updates.pending

abbrev pub HoldsStore : Option Object → Type 0
HoldsStore held = (store : Store) × (held ≡ Some (object.Store store))

-- a session, with a look or without one
abbrev pub HoldsAnySession : Option Object → Type 0
HoldsAnySession held = (own : ThreadSession) × (held ≡ Some (object.Session own))

-- a session without a look
abbrev pub HoldsSession : Option Object → Type 0
HoldsSession held = (own : ThreadSession) × (held ≡ Some (object.Session own)) × (own.session.looks ≡ false)

-- a session whose look has begun
abbrev pub HoldsLook : Option Object → Type 0
HoldsLook held = (own : ThreadSession) × (held ≡ Some (object.Session own)) × (own.session.looks ≡ true)

-- A handle after its object was changed in its place.

-- the handle with another object in the place of the one that it holds
abbrev pub with_object : CamelHandle → Object → CamelHandle
with_object handle object = record { at = handle.at; is_full = handle.is_full; value = Some object }

-- Filling a handle.

-- an object is to fill what was an empty handle, and this is the status
pub record Fills (made : Object) (status : ℕ) (before after : Option Object) : Type 0 where
  pub filled : status ≡ 0 → (before ≡ None) × (after ≡ Some made)
  pub unchanged : status ≢ 0 → after ≡ before
  -- memory may be refused for it
  pub only : before ≡ None → (status ≡ 0) ⊎ (status ≡ 102)
  pub full : (before ≡ None) ⊎ (status ≡ 504)

-- Opening a store with its sessions.

-- the profile of a number
abbrev pub profile_of : ℕ → Option Profile
profile_of number = if number == 1 then Some One else if number == 2 then Some Two else None

-- a store can have so many sessions, so many updates, and this profile
pub record CanOpen (sessions limit profile : ℕ) : Type 0 where
  pub one : 1 ≤ sessions
  pub places : sessions ≤ 64
  pub some : 1 ≤ limit
  pub updates : limit ≤ 9223372036854775807
  pub named : (p : Profile) × (profile_of profile ≡ Some p)

-- each handle holds this object
abbrev pub AllHold : Object → List CamelHandle → Type 0
AllHold held handles = All (λ handle. handle.value ≡ Some held) handles

abbrev pub AllEmpty : List CamelHandle → Type 0
AllEmpty handles = All (λ handle. handle.value ≡ None) handles

-- each handle holds what it held before
abbrev pub HoldAsBefore : List CamelHandle → List CamelHandle → Type 0
HoldAsBefore before after = map (λ (handle : CamelHandle). handle.value) after ≡ map (λ (handle : CamelHandle). handle.value) before

-- a session of a store of this number that has seen, learnt and decided nothing
abbrev pub new_session : StoreId → ℕ → ThreadSession
new_session store number = record { session = fresh_session store; store = number; decisions = no_decisions }

-- it is a store of this limit, profile and seed with no updates, and no publication was tried; its number is its seed
pub record IsNew (most : ℕ) (under : Profile) (seed : ℕ) (live : LiveStore) : Type 0 where
  pub number : live.number ≡ seed
  pub updates : live.vlr.updates ≡ no_updates
  pub limit : live.vlr.store.limit ≡ most
  pub profile : live.vlr.store.profile ≡ under
  pub level : live.vlr.ahead ≡ false
  pub held : live.held ≡ 0

-- a handle holds such a store, of the profile of this number, and the others hold each a new session of it
abbrev pub Opens : ℕ → ℕ → ℕ → Option Object → List CamelHandle → Type 0
Opens limit number seed held sessions = (live : LiveStore) × (profile : Profile) × (profile_of number ≡ Some profile)
    × (held ≡ Some (live_store live)) × IsNew limit profile seed live
    × AllHold (object.Session (new_session live.vlr.store live.number)) sessions

-- What a store has counted.

-- the counts are those of a store that takes updates
pub record AreCounts (live : LiveStore) (counts : CamelCounts) : Type 0 where
  pub subscribers : counts.subscribers ≡ map.len (records_of live.vlr.updates.published)
  pub published : counts.published ≡ length live.vlr.updates.published
  pub pending : counts.pending ≡ length live.vlr.updates.pending
  pub held : counts.held ≡ live.held

-- it is a store that takes updates, and these are its counts
abbrev pub Counts : Option Object → CamelCounts → Type 0
Counts held counts = (live : LiveStore) × (held ≡ Some (live_store live)) × AreCounts live counts

-- The IMSIs of a front, which C is told one by one.

abbrev pub HoldsImsis : Option Object → Type 0
HoldsImsis held = (imsis : List (List ℕ)) × (held ≡ Some (object.Imsis imsis))

-- a handle that was empty has each IMSI that has a record over the front of a look, once
pub record FillsImsis (shown : SessionData) (before after : Option Object) : Type 0 where
  pub empty : before ≡ None
  pub listed : (imsis : List (List ℕ)) × (after ≡ Some (object.Imsis imsis)) × ListsEachOnce imsis (records_of shown.seen)

-- an IMSI is told and the others are left, or none is left
abbrev pub TellsNext : Option (List ℕ) → List (List ℕ) → List (List ℕ) → CamelImsi → CamelImsi → ℕ → Type 0
TellsNext None imsis left before after is_there = (imsis ≡ []) × (left ≡ []) × (after ≡ before) × (is_there ≡ 0)
TellsNext (Some next) imsis left before after is_there =
    (imsis ≡ left ++ next ∷ []) × (imsi_in after ≡ Ok next) × (is_there ≡ 1)

-- The argument that makes a record, as C has it.

-- it has these octets, and 0 behind them
pub record HasOctets (octets : List ℕ) (argument : CamelArgument) : Type 0 where
  pub count : argument.count ≡ length octets
  pub room : argument.octets ≡ octets ++ replicate (1198 - length octets) 0

-- it is that of the Insert which makes this record, where the subscriber of this IMSI has just registered
abbrev pub MakesRecord : List ℕ → SubscriberData → CamelArgument → Type 0
MakesRecord imsi stored argument = HasOctets (octets_of_update (insert_of_record imsi stored)) argument
