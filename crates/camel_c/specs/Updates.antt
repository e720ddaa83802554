-- Updates that C keeps in handles.
use Rattle.std.specs.Prelude.{◌≡◌, ◌≢◌, ◌⊎◌, ℕ, List, length, Option, Some, None, Result, Ok, Err, IsOk, if◌then◌else◌}
use Rattle.std.specs.Prelude.{map, IfOk, IfSome, IsSome, is_some, min, unwrap_or}
use Rattle.camel_rows.specs.declared.subscriber.update.Update.{Update}
use Rattle.camel_map.specs.Arrival.{IsOfLists, IsReceived, IsJoin, join_fault}
use Rattle.camel_map.specs.declared.arrival.Arrival.{Arrival}
use Rattle.camel_map.specs.declared.arrival.ItemCounts.{ItemCounts}
use Rattle.camel_c_data.specs.Fields.{data_fault_code, is_set, flag_of}
use Rattle.camel_reading.specs.Reading.{◌>>=◌}
use Rattle.camel_c_data.specs.Update.{insert_in}
use Rattle.camel_c_data.specs.declared.data_fault.DataFault.{DataFault}
use Rattle.camel_c_data.specs.declared.imsi.CamelImsi.{CamelImsi}
use Rattle.camel_c_data.specs.declared.update.CamelLists.{CamelLists}
use Rattle.camel_c.specs.Object.{Fills}
use Rattle.camel_c.specs.Octets.{TakesOctets}
use Rattle.camel_c.specs.declared.object.Object.{Object}
use Rattle.camel_c.specs.declared.update.octets.OctetsFault.{OctetsFault}
use Rattle.camel_tbcd.specs.Imsi.{imsi_number}
use Rattle.camel_rows.specs.Update.{update_imsi}
use Rattle.camel_map.specs.Update.{join_fault_code}
use Rattle.camel_map.specs.declared.join.JoinFault.{JoinFault}
use Rattle.camel_c_data.specs.declared.update.CamelWithdrawal.{CamelWithdrawal}
use Rattle.camel_c.specs.declared.failure.Failure.{Failure}
use Rattle.camel_c.specs.declared.handle.CamelHandle.{CamelHandle}
use Rattle.camel_c.specs.declared.update.CamelUpdateParts.{CamelUpdateParts}
use Rattle.camel_c.specs.declared.object.Object.TheVariants as object
use Rattle.camel_criteria.specs.declared.refusal.Refusal.TheVariants as refusal
use Rattle.camel_rows.specs.declared.subscriber.update.Update.TheVariants as update
use Rattle.camel_c.specs.declared.failure.Failure.TheVariants as failure

-- Updates that C keeps.

-- how many items came in a list; none, if it is not sent
abbrev pub count_in : {A : Type 0} → ℕ → List A → ℕ
count_in has items = if is_set has then length items else 0

-- how many items came in each list
abbrev pub counts_in : CamelLists → ItemCounts
counts_in sent = record {
  o = count_in sent.o.has_rows sent.o.rows.now;
  o_criteria = count_in sent.o.has_criteria sent.o.criteria.now;
  vt = count_in sent.vt.has_rows sent.vt.rows.now;
  t_criteria = count_in sent.vt.has_criteria sent.vt.criteria.now;
}

-- an update, of which so many items came, and no camelCapabilityHandling
abbrev pub with_counts : ItemCounts → Update → Arrival
with_counts counts update =
    record { update = update; counts = counts; capabilities = record { o = None; vt = None } }

-- what was read, with these counts
abbrev pub counted : ItemCounts → Result Update DataFault → Result Arrival DataFault
counted counts reading = reading >>= λ update. Ok (with_counts counts update)

-- what was read, and nothing beside it
abbrev pub alone : Result Update DataFault → Result Arrival DataFault
alone reading = counted (record { o = 0; o_criteria = 0; vt = 0; t_criteria = 0 }) reading

-- the Insert of an IMSI and of the lists that are sent
abbrev pub lists_in : CamelLists → CamelImsi → Result Arrival DataFault
lists_in sent imsi = counted (counts_in sent) (insert_in sent imsi)

-- an Insert of received lists
abbrev pub HoldsLists : Option Object → Type 0
HoldsLists held = (arrival : Arrival) × (held ≡ Some (object.Update arrival)) × IsOfLists arrival

-- an update as it is received: of lists, if it is an Insert
abbrev pub HoldsReceived : Option Object → Type 0
HoldsReceived held = (arrival : Arrival) × (held ≡ Some (object.Update arrival)) × IsReceived arrival

-- A handle is to be filled with what data read so are, and this is the status.
pub record Makes (reading : Result Arrival DataFault) (status : ℕ) (before after : Option Object) : Type 0 where
  -- the handle has what the data are
  pub made : status ≡ 0 → IsOk reading
  pub unchanged : status ≢ 0 → after ≡ before
  -- the data are an update
  pub update : (arrival : Arrival) → reading ≡ Ok arrival → Fills (object.Update arrival) status before after
  -- the data are none
  pub faulty : (fault : DataFault) → reading ≡ Err fault → status ≡ data_fault_code fault

-- they make it so, or memory is refused (102) while they are read
abbrev pub ReadsAndMakes : Result Arrival DataFault → ℕ → Option Object → Option Object → Type 0
ReadsAndMakes reading status before after = Makes reading status before after ⊎ ((status ≡ 102) × (after ≡ before))

-- an update fills a handle, or memory is refused (102) while it is read
abbrev pub ReadsAndFills : Arrival → ℕ → Option Object → Option Object → Type 0
ReadsAndFills arrival status before after =
    Fills (object.Update arrival) status before after ⊎ ((status ≡ 102) × (after ≡ before))

-- A handle is to be filled with what octets that read so bring; this is the status, and this the place that is told.
abbrev pub MakesOfOctets : Result Arrival OctetsFault → ℕ → ℕ → Option Object → Option Object → Type 0
MakesOfOctets reading status place before after =
    TakesOctets (λ arrival. ReadsAndFills arrival status before after) reading status place before after

-- What calls make of an update that a handle holds.

abbrev pub HoldsUpdate : Option Object → Type 0
HoldsUpdate held = (arrival : Arrival) × (held ≡ Some (object.Update arrival))

-- the update that is held, if one is
abbrev pub update_held : Option Object → Option Update
update_held (Some (object.Update arrival)) = Some arrival.update
update_held other = None

-- each handle holds the update in its place
abbrev pub HoldUpdates : List CamelHandle → List Update → Type 0
HoldUpdates handles updates = map (λ (handle : CamelHandle). update_held handle.value) handles ≡ map (λ (held : Update). Some held) updates

-- why what is held is not copied: memory was refused (102), or it is no update (503)
abbrev pub IsNoCopy : Option Update → Failure → Type 0
IsNoCopy held why =
    ((why ≡ failure.Refused refusal.OutOfMemory) × IsSome held) ⊎ ((why ≡ failure.WrongHandle) × (held ≡ None))

-- the number of what an update is
abbrev pub kind_number : Update → ℕ
kind_number (update.Register imsi) = 1
kind_number (update.Insert imsi o o_criteria vt t_criteria) = 2
kind_number (update.Delete imsi what) = 3
kind_number (update.Cancel imsi) = 4
kind_number update.ClearAll = 5

-- the number of the IMSI of an update; 0, if it concerns all subscribers
abbrev pub concerned_number : Update → ℕ
concerned_number update = elim (update_imsi update) [ None ↦ 0 | Some imsi ↦ imsi_number imsi ]

-- what a Delete names, and of another update nothing
abbrev pub withdrawal_shown : Update → CamelWithdrawal
withdrawal_shown (update.Delete imsi what) =
    record { o = flag_of what.o; vt = flag_of what.vt; everything = flag_of what.everything }
withdrawal_shown other = record { o = 0; vt = 0; everything = 0 }

-- a count in an octet
abbrev pub count_shown : ℕ → ℕ
count_shown count = min count 255

-- the fields of an update
abbrev pub parts_of : Arrival → CamelUpdateParts
parts_of arrival = record {
  imsi = record { number = concerned_number arrival.update };
  kind = kind_number arrival.update;
  o_rows = count_shown arrival.counts.o;
  o_criteria = count_shown arrival.counts.o_criteria;
  vt_rows = count_shown arrival.counts.vt;
  t_criteria = count_shown arrival.counts.t_criteria;
  has_o_capability = flag_of (is_some arrival.capabilities.o);
  has_vt_capability = flag_of (is_some arrival.capabilities.vt);
  o_capability = unwrap_or arrival.capabilities.o 0;
  vt_capability = unwrap_or arrival.capabilities.vt 0;
  withdrawal = withdrawal_shown arrival.update;
}

-- it is told how many items came in each list
pub record TellsCounts (counts : ItemCounts) (parts : CamelUpdateParts) : Type 0 where
  pub o_rows : parts.o_rows ≡ counts.o
  pub o_criteria : parts.o_criteria ≡ counts.o_criteria
  pub vt_rows : parts.vt_rows ≡ counts.vt
  pub t_criteria : parts.t_criteria ≡ counts.t_criteria

-- An empty handle is filled with the join of an Insert and the next one, and this is the status.
pub record JoinsInto (one other : Arrival) (status : ℕ) (before after : Option Object) : Type 0 where
  pub answer : Result Arrival JoinFault
  -- the lists of both are as those that one operation brings
  pub joined : IsJoin one other answer
  pub fault : IfSome (join_fault one.update other.update) (λ why. answer ≡ Err why)
  -- so it may be joined with the next one of the dialogue
  pub received : IsOfLists one → IsOfLists other → IfOk answer IsOfLists
  pub refused : (why : JoinFault) → answer ≡ Err why → status ≡ join_fault_code why
  pub filled : (made : Arrival) → answer ≡ Ok made → Fills (object.Update made) status before after
