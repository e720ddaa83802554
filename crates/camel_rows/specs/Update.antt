-- The data of all subscribers, and what updates make of them.
use Rattle.std.specs.Prelude.{ℕ, Bool, true, List, Option, Some, None, false, ◌||◌, is_some, if◌then◌else◌, ◌≡◌, []}
use Rattle.std.specs.Prelude.{◌∷◌, unwrap_or, ◌≤◌, length}
use Rattle.std.specs.Str.{bytes_eq}
use Rattle.std.specs.Option.{option_map}
use mathlib.Core.List.{IsPrefix}
pub use Rattle.camel_table.specs.ByImsi.{ByImsi}
use Rattle.camel_rows.specs.Subscriber.{SubscriberData, StoredCsiData, empty_record}
use Rattle.camel_criteria.specs.Criteria.{OCriteriaData, TCriteriaData}
use Rattle.camel_criteria.specs.declared.refusal.Refusal.{Refusal}
use Rattle.camel_criteria.specs.declared.refusal.Refusal.TheVariants.{UnidentifiedSubscriber, DataMissing}
use Rattle.camel_rows.specs.TdpRow.{TdpRowData}
use Rattle.camel_rows.specs.declared.subscriber.csis_present.CsisPresent.{CsisPresent}
use Rattle.camel_rows.specs.declared.subscriber.update.Update.{Update}
use Rattle.camel_rows.specs.declared.subscriber.update.Update.TheVariants.{Register, Insert, Delete, Cancel, ClearAll}
use Rattle.camel_rows.specs.declared.subscriber.update.Withdrawal.{Withdrawal}
use Rattle.std.specs.FinMap as map

-- Data of subscribers, by IMSI.

-- the map with this value, or with none, at one IMSI
abbrev pub with_value : {X : Type 0} → ByImsi X → List ℕ → Option X → ByImsi X
with_value m imsi None = map.remove m imsi
with_value m imsi (Some value) = map.insert m imsi value

-- What concerns one subscriber has an IMSI, and what concerns all of them has none. The subscriber with this IMSI is
-- concerned.
abbrev pub concerns : Option (List ℕ) → List ℕ → Bool
concerns None imsi = true
concerns (Some own) imsi = bytes_eq own imsi

-- what the map holds of the one whom something concerns; nothing, if it concerns all
abbrev pub value_of : {X : Type 0} → ByImsi X → Option (List ℕ) → Option X
value_of m None = None
value_of m (Some imsi) = map.get m imsi

-- the map with this value, or with none, for the one whom something concerns; with none at all, if it concerns all
abbrev pub with_value_of : {X : Type 0} → ByImsi X → Option (List ℕ) → Option X → ByImsi X
with_value_of m None value = map.empty
with_value_of m (Some imsi) value = with_value m imsi value

-- The data of all subscribers.

-- the records of the subscribers
abbrev pub RecordsData : Type 0
RecordsData = ByImsi SubscriberData

abbrev pub no_records : RecordsData
no_records = map.empty

-- Which CSIs are stored for a subscriber, which is all that decides whether an update is refused.

-- the CSIs that are stored in a record
abbrev pub csis_of : SubscriberData → CsisPresent
csis_of subscriber = record { o = is_some subscriber.o; vt = is_some subscriber.vt }

-- entries come without their CSI, and that CSI is not stored
abbrev pub lacks_csi : {Entry : Type 0} → Bool → Option (List TdpRowData) → Option (List Entry) → Bool
lacks_csi false None (Some entries) = true
lacks_csi is_stored rows entries = false

-- why an Insert is refused: `UnidentifiedSubscriber` (5) with no record, `DataMissing` (35) with criteria that lack
-- their CSI
abbrev pub insert_refusal : Option CsisPresent → Option (List TdpRowData) → Option (List OCriteriaData) → Option (List TdpRowData)
    → Option (List TCriteriaData) → Option Refusal
insert_refusal None o o_criteria vt t_criteria = Some UnidentifiedSubscriber
insert_refusal (Some csis) o o_criteria vt t_criteria =
    if lacks_csi csis.o o o_criteria || lacks_csi csis.vt vt t_criteria then Some DataMissing else None

-- why an update is refused, by the CSIs in the record of its IMSI, or by none if that has no record
abbrev pub csis_refusal : Option CsisPresent → Update → Option Refusal
csis_refusal csis (Insert imsi o o_criteria vt t_criteria) = insert_refusal csis o o_criteria vt t_criteria
csis_refusal csis (Delete imsi what) = if is_some csis then None else Some UnidentifiedSubscriber
csis_refusal csis update = None

-- a Delete removes the O-CSI if it names it or everything
abbrev pub removes_o : Withdrawal → Bool
removes_o what = what.o || what.everything

-- a Delete removes the VT-CSI if it names it or everything
abbrev pub removes_vt : Withdrawal → Bool
removes_vt what = what.vt || what.everything

-- the CSIs that an update which is not refused leaves in the record of its IMSI, or that it leaves no record
abbrev pub csis_after : Option CsisPresent → Update → Option CsisPresent
csis_after csis (Register imsi) = Some (record { o = false; vt = false })
csis_after csis (Insert imsi o o_criteria vt t_criteria) =
    option_map (λ (old : CsisPresent). record { o = old.o || is_some o; vt = old.vt || is_some vt }) csis
csis_after csis (Delete imsi what) =
    option_map (λ (old : CsisPresent). record {
      o = if removes_o what then false else old.o;
      vt = if removes_vt what then false else old.vt;
    }) csis
csis_after csis (Cancel imsi) = None
csis_after csis ClearAll = None

-- What updates make of the subscriber data. Insert, Delete and Cancel are InsertSubscriberData, DeleteSubscriberData
-- and CancelLocation of TS 29.002; Register and ClearAll are profile 1's own, and so is what an update leaves of a CSI
-- that it does not name whole, that criteria without their CSI are refused if it is not stored, and that an update
-- which changes nothing is taken.

-- the subscriber whom an update concerns; none, if it concerns all of them
abbrev pub update_imsi : Update → Option (List ℕ)
update_imsi (Register imsi) = Some imsi
update_imsi (Insert imsi o o_criteria vt t_criteria) = Some imsi
update_imsi (Delete imsi what) = Some imsi
update_imsi (Cancel imsi) = Some imsi
update_imsi ClearAll = None

-- an update is an Insert
abbrev pub is_insert : Update → Bool
is_insert (Insert imsi o o_criteria vt t_criteria) = true
is_insert other = false

-- an update leaves a record, if it is accepted
abbrev pub leaves_record : Update → Bool
leaves_record (Cancel imsi) = false
leaves_record ClearAll = false
leaves_record update = true

-- an update is one of this subscriber: it concerns this one, or all
abbrev pub is_of : List ℕ → Update → Bool
is_of imsi update = concerns (update_imsi update) imsi

-- why the data refuse an update, if they do: by the CSIs that are stored in the record of its IMSI
abbrev pub refusal : RecordsData → Update → Option Refusal
refusal m update = csis_refusal (option_map csis_of (value_of m (update_imsi update))) update

-- What an Insert leaves of a CSI. A CSI replaces rows and entries, by no entries if none come with it; entries without
-- a CSI replace the entries; if neither comes, the CSI stays.
abbrev pub csi_after : {Entry : Type 0} → Option (StoredCsiData Entry) → Option (List TdpRowData) → Option (List Entry)
    → Option (StoredCsiData Entry)
csi_after csi (Some rows) entries = Some (record { rows = rows; entries = unwrap_or entries [] })
csi_after (Some csi) None (Some entries) = Some (record csi { entries = entries })
csi_after csi None entries = csi

-- what an Insert leaves of a record
abbrev pub record_with_insert : Option (List TdpRowData) → Option (List OCriteriaData) → Option (List TdpRowData)
    → Option (List TCriteriaData) → SubscriberData → SubscriberData
record_with_insert o o_criteria vt t_criteria subscriber =
    record { o = csi_after subscriber.o o o_criteria; vt = csi_after subscriber.vt vt t_criteria }

-- what a Delete leaves of a CSI: none, if it names it
abbrev pub csi_unless : {Entry : Type 0} → Bool → Option (StoredCsiData Entry) → Option (StoredCsiData Entry)
csi_unless is_named csi = if is_named then None else csi

-- what a Delete leaves of a record: each CSI that it names is removed, and both if it names everything
abbrev pub record_without : Withdrawal → SubscriberData → SubscriberData
record_without what subscriber = record { o = csi_unless (removes_o what) subscriber.o; vt = csi_unless (removes_vt what) subscriber.vt }

-- the record that an update which is not refused leaves, over the one that is there
abbrev pub record_after : Option SubscriberData → Update → Option SubscriberData
record_after old (Register imsi) = Some empty_record
record_after old (Insert imsi o o_criteria vt t_criteria) = option_map (record_with_insert o o_criteria vt t_criteria) old
record_after old (Delete imsi what) = option_map (record_without what) old
record_after old (Cancel imsi) = None
record_after old ClearAll = None

-- the data after an update: those before it, if it is refused; else only the record of its IMSI changes, and after
-- ClearAll there is none
abbrev pub records_after : RecordsData → Update → RecordsData
records_after m update =
    if is_some (refusal m update) then m
    else with_value_of m (update_imsi update) (record_after (value_of m (update_imsi update)) update)

-- the data after a list of updates
abbrev pub records_from : RecordsData → List Update → RecordsData
records_from m [] = m
records_from m (update ∷ updates) = records_from (records_after m update) updates

-- the data that a list of updates leaves, from no records on
abbrev pub records_of : List Update → RecordsData
records_of updates = records_from no_records updates

-- each update is refused by nothing over the data left by those before it
abbrev pub AcceptedFrom : RecordsData → List Update → Type 0
AcceptedFrom m [] = Unit {0}
AcceptedFrom m (update ∷ updates) = (refusal m update ≡ None) × AcceptedFrom (records_after m update) updates

abbrev pub Accepted : List Update → Type 0
Accepted updates = AcceptedFrom no_records updates

-- Fronts: the prefixes of the accepted updates.

-- an accepted list of at most `limit` updates, the first update first
pub record IsFront (limit : ℕ) (updates : List Update) : Type 0 where
  pub accepted : Accepted updates
  pub few : length updates ≤ limit

-- the first list extends the second: the second is a prefix of it
abbrev pub Extends : List Update → List Update → Type 0
Extends front earlier = IsPrefix earlier front
