-- The record of a subscriber: as clauses see it, and as it is stored.
use Rattle.std.specs.Prelude.{ℕ, ◌==◌, List, Option, None, find, if◌then◌else◌, [], Some, ◌≡◌, IsSome}
use Rattle.std.specs.Option.{option_and_then, option_map}
use Rattle.camel_criteria.specs.Criteria.{OCriteriaData, TCriteriaData}
use Rattle.camel_criteria.specs.DetectionPoint.{is_o_detection_point, is_vt_detection_point}
use Rattle.camel_rows.specs.TdpRow.{TdpRowData}
use Rattle.camel_rows.specs.declared.subscriber.lent.Lent.{Lent}
use Rattle.camel_rows.specs.declared.subscriber.stored_csi.StoredCsi.{StoredCsi}
use Rattle.camel_rows.specs.declared.subscriber.stored_csi.StoredCsi.TheVariants.{NotStored, InPlace, Apart}
use Rattle.camel_rows.specs.declared.subscriber.update.Update.{Update}
use Rattle.camel_rows.specs.declared.subscriber.update.Update.TheVariants.{Insert}
use Rattle.camel_rows.specs.declared.subscriber.lent.Lent.TheVariants as lent

-- The record of a subscriber: CAMEL subscription information of TS 23.078.

-- a stored CSI: its TDP rows and the entries of its criteria, both in the order received and without the ignored items
pub record StoredCsiData (Entry : Type 0) : Type 0 where
  pub rows : List TdpRowData
  pub entries : List Entry

-- The O-CSI and the VT-CSI. One that is not stored is none; one whose lists are empty is stored.
pub record SubscriberData : Type 0 where
  pub o : Option (StoredCsiData OCriteriaData)
  pub vt : Option (StoredCsiData TCriteriaData)

-- the record of a subscriber who has just registered
abbrev pub empty_record : SubscriberData
empty_record = record { o = None; vt = None }

abbrev pub rows_of : {Entry : Type 0} → StoredCsiData Entry → List TdpRowData
rows_of csi = csi.rows

-- the rows of the CSI that a detection point is tested against, if it is stored
abbrev pub rows_tested_at : ℕ → SubscriberData → Option (List TdpRowData)
rows_tested_at dp subscriber =
    if is_o_detection_point dp then option_map rows_of subscriber.o
    else if is_vt_detection_point dp then option_map rows_of subscriber.vt
    else None

-- the item of a detection point among items, that of each item being given by `dp_of`
abbrev pub item_among : {Item : Type 0} → (Item → ℕ) → ℕ → List Item → Option Item
item_among dp_of dp items = find (λ item. dp_of item == dp) items

-- the row of a detection point, if it is armed
abbrev pub row_at : ℕ → SubscriberData → Option TdpRowData
row_at dp subscriber = option_and_then (item_among (λ row. row.dp) dp) (rows_tested_at dp subscriber)

-- an entry of the criteria of a detection point, of the one CSI or of the other
pub data EntryData : Type 0 where
  O : OCriteriaData → EntryData
  T : TCriteriaData → EntryData

-- what a borrowed entry shows
abbrev pub entry_data : Lent → EntryData
entry_data (lent.O entry) = O entry.now
entry_data (lent.T entry) = T entry.now

-- the entry of a detection point, if a stored CSI has one
abbrev pub entry_of : {Entry : Type 0} → (Entry → ℕ) → ℕ → StoredCsiData Entry → Option Entry
entry_of dp_of dp csi = item_among dp_of dp csi.entries

-- the entry of a detection point, if the CSI that it is tested against has one
abbrev pub entry_at : ℕ → SubscriberData → Option EntryData
entry_at dp subscriber =
    if is_o_detection_point dp then option_map O (option_and_then (entry_of (λ entry. entry.dp) dp) subscriber.o)
    else if is_vt_detection_point dp then option_map T (option_and_then (entry_of (λ entry. entry.dp) dp) subscriber.vt)
    else None

-- What a record stores of a CSI, wherever it lies.

-- the rows with the entries, if the CSI is stored
abbrev pub stored_in : {Kind : Type 0} {most : ℕ} {Entry : Type 0} → StoredCsi Kind most Entry → Option (StoredCsiData Entry)
stored_in NotStored = None
stored_in (InPlace has_entry rows entry) = Some (record { rows = rows; entries = if has_entry then entry else [] })
stored_in (Apart rows entries) = Some (record { rows = rows; entries = entries.items })

-- The room that an Insert needs for a VT-CSI.

module _ {Kind : Type 0} {most : ℕ} {Entry : Type 0} where
  -- room with nothing in it; there is some, if a CSI comes and none is stored
  pub record IsRoomFor {Rows : Type 0} (csi : Option Rows) (stored : Option (StoredCsiData Entry)) (room : Option (StoredCsi Kind most Entry)) : Type 0 where
    pub empty : option_and_then stored_in room ≡ None
    pub there : stored ≡ None → IsSome csi → IsSome room

-- room for the VT-CSI of an Insert; any, for another update
abbrev pub IsRoomForUpdate : {Kind : Type 0} {most : ℕ} → Update → SubscriberData → Option (StoredCsi Kind most TCriteriaData) → Type 0
IsRoomForUpdate (Insert imsi o o_criteria vt t_criteria) subscriber room = IsRoomFor vt subscriber.vt room
IsRoomForUpdate other subscriber room = Unit {0}
