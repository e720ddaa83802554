-- What an argument brings is received: an Insert of lists, or another update with nothing beside it.
use Rattle.std.proofs.Common.{◌≡◌, Result, Ok, Err, refl, ◌∙◌, ℕ, List, Option, Some, None, ap, subst, false, inl, inr}
use Rattle.std.specs.Option.{option_map}
use Rattle.std.proofs.lemmas.Iterator.Adapters.{option_map_id}
use Rattle.camel_ber.specs.Elements.{◌>>=◌, PlacedData, OctetsData}
use Rattle.camel_criteria.specs.declared.refusal.Refusal.{Refusal}
use Rattle.camel_map.specs.Reading.{field_of, if_present, items_as, received_as, or_refused_at, identified, sequence}
use Rattle.camel_map.specs.Reading.{item_in, contents, elements_in, constructed, primitive, imsi_or_of_dialogue}
use Rattle.camel_map.specs.Reading.{mandatory, own_imsi}
use Rattle.camel_map.specs.Arrival.{list_of, rows_in, insert_of, IsOfLists, Lists, insert_of_lists, bare, IsReceived}
use Rattle.camel_map.specs.declared.items.ReceivedList.{ReceivedList}
use Rattle.camel_map.specs.declared.map_fault.MapFault.{MapFault}
use Rattle.camel_rows.specs.TdpRow.{TdpRowData, o_criteria_set_of, o_csi_of, t_criteria_set_of, vt_csi_of}
use Rattle.camel_map.specs.Csi.{capability_in, csi_in, first_of, lists_of_fields, row_of_fields, o_entry_of_fields}
use Rattle.camel_map.specs.Csi.{o_lists_in, t_entry_of_fields, vt_lists_in}
use Rattle.camel_map.specs.declared.row.ReceivedCsi.{ReceivedCsi}
use Rattle.camel_map.specs.declared.row.ReceivedLists.{ReceivedLists}
use Rattle.camel_map.specs.Update.{camel_fields, insert_in, insert_of_fields, arrival_in, arrival_of, cancel_in}
use Rattle.camel_map.specs.Update.{cancelled_in, delete_in, one_of, is_named, withdrawal_with}
use Rattle.camel_map.specs.declared.arrival.Arrival.{Arrival}
use Rattle.camel_rows.specs.Update.{is_insert}
use Rattle.camel_rows.specs.declared.subscriber.update.Update.{Update}
use Rattle.camel_map.specs.declared.operation.Operation.{Operation}
use Rattle.camel_rows.specs.declared.subscriber.update.Update.TheVariants as update
use Rattle.camel_map.specs.declared.operation.Operation.TheVariants as operation

-- What a reading in steps gave was given by each of its steps.

-- a step that gave a value was followed by one that gave the other
pub step : {A B E : Type 0} (first : Result A E) (next : A → Result B E) (value : B) → (first >>= next) ≡ Ok value
    → (middle : A) × (first ≡ Ok middle) × (next middle ≡ Ok value)
step (Ok middle) next value is = (middle, refl, is)
step (Err fault) next value is = absurd cc

-- A list that is decoded is what is kept of the received items.

module _ {Item : Type 0} (kept_of : List Item → Result (List Item) Refusal) where
  taken : (place : ℕ) (made : Result (List Item) Refusal) (kept : List Item) → or_refused_at place made ≡ Ok kept
      → made ≡ Ok kept
  taken place (Ok value) kept is = cc
  taken place (Err why) kept is = absurd cc

  -- a list is what is kept of some items
  abbrev pub IsOfItems : ReceivedList (List Item) → Type 0
  IsOfItems came = (items : List Item) × (list_of kept_of (Some items) ≡ Ok (Some came))

  -- so is one that was read
  pub of_received : (value_of : PlacedData → Result Item MapFault) (list : PlacedData) (came : ReceivedList (List Item))
      → received_as value_of kept_of list ≡ Ok came → IsOfItems came
  unfolding received_as
  of_received value_of list came is =
      let items = step (items_as value_of list) _ came is in
      let kept = step (or_refused_at list.place (kept_of items.0)) _ came items.2 in
      let made = taken list.place (kept_of items.0) kept.0 kept.1 in
      let whole = kept.2 in
      (items.0, rw made (ap option whole))
    where
      option : Result (ReceivedList (List Item)) MapFault → Result (Option (ReceivedList (List Item))) Refusal
      option (Ok came) = Ok (Some came)
      option (Err fault) = Ok None

  -- so is one that a field has
  pub of_field : {Read : Type 0} (value_of : PlacedData → Result Read MapFault) (list_in : Read → ReceivedList (List Item))
      (of : (field : PlacedData) (read : Read) → value_of field ≡ Ok read → IsOfItems (list_in read)) (octet : ℕ)
      (fields : List PlacedData) (came : Option Read) → (field_of octet fields >>= if_present value_of) ≡ Ok came
      → (list : Option (List Item)) × (list_of kept_of list ≡ Ok (option_map list_in came))
  of_field {Read = Read} value_of list_in of octet fields came is =
      let field = step (field_of octet fields) _ came is in by_field field.0 field.2
    where
      by_field : (field : Option PlacedData) → if_present value_of field ≡ Ok came
          → (list : Option (List Item)) × (list_of kept_of list ≡ Ok (option_map list_in came))
      by_field None none = let no : came ≡ None = cc in (None, rw no refl)
      by_field (Some field) there =
          let read = step (value_of field) _ came there in
          let one : Some read.0 ≡ came = cc in
          let items = of field read.0 read.1 in
          (Some items.0, items.1 ∙ ap (λ (came : Option Read). Ok (option_map list_in came)) one)

-- The rows and the criteria of a CSI that is decoded are what is kept of the received items.

of_csi : (kept_of : List TdpRowData → Result (List TdpRowData) Refusal) (csi : PlacedData)
    (read : ReceivedCsi (List TdpRowData)) → csi_in kept_of csi ≡ Ok read → IsOfItems kept_of read.rows
unfolding csi_in
of_csi kept_of csi read is =
    let parts = step (elements_in (contents csi)) _ read is in
    let list = step (first_of csi parts.0 >>= identified sequence) _ read parts.2 in
    let rows = step (received_as (item_in row_of_fields) kept_of list.0) _ read list.2 in
    let capability = step (capability_in parts.0) _ read rows.2 in
    let whole = capability.2 in
    let same : rows.0 ≡ read.rows = cc in
    let items = of_received kept_of (item_in row_of_fields) list.0 rows.0 rows.1 in
    (items.0, items.1 ∙ ap (λ (list : ReceivedList (List TdpRowData)). Ok (Some list)) same)

-- the rows and the criteria that came of a CSI
pub of_lists : {Entry : Type 0} (csi : ℕ) (kept_of : List TdpRowData → Result (List TdpRowData) Refusal) (criteria : ℕ)
    (value_of : PlacedData → Result Entry MapFault) (set_of : List Entry → Result (List Entry) Refusal)
    (fields : List PlacedData) (came : ReceivedLists (List TdpRowData) (List Entry))
    → lists_of_fields csi kept_of criteria (received_as value_of set_of) fields ≡ Ok came
    → ((rows : Option (List TdpRowData)) × (list_of kept_of rows ≡ Ok (rows_in came.csi)))
    × ((entries : Option (List Entry)) × (list_of set_of entries ≡ Ok came.criteria))
unfolding lists_of_fields
of_lists csi kept_of criteria value_of set_of fields came is =
    let first = step (field_of csi fields >>= if_present (csi_in kept_of)) _ came is in
    let second = step (field_of criteria fields >>= if_present (received_as value_of set_of)) _ came first.2 in
    let whole = second.2 in
    let one : first.0 ≡ came.csi = cc in
    let other : second.0 ≡ came.criteria = cc in
    let rows = of_field kept_of (csi_in kept_of) (λ csi. csi.rows) (of_csi kept_of) csi fields first.0 first.1 in
    let entries = of_field set_of (received_as value_of set_of) (λ list. list) (of_received set_of value_of) criteria fields
    second.0 second.1 in (
      (rows.0, rows.1 ∙ ap (λ (came : Option (ReceivedCsi (List TdpRowData))). Ok (rows_in came)) one),
      (entries.0, entries.1 ∙ ap Ok (option_map_id second.0 ∙ other)),
    )

-- An Insert that is decoded is of lists.

-- an Insert that was read of fields is of lists
fields_of_lists : (imsi : List ℕ) (fields : List PlacedData) (arrival : Arrival)
    → insert_of_fields imsi fields ≡ Ok arrival → IsOfLists arrival
unfolding insert_of_fields insert_of_lists
fields_of_lists imsi fields arrival is =
    let o = step (o_lists_in fields) _ arrival is in
    let vt = step (vt_lists_in fields) _ arrival o.2 in
    let came = vt.2 in
    let same : insert_of imsi o.0 vt.0 ≡ arrival = cc in
    let first = of_lists (constructed 0) o_csi_of (constructed 4) (item_in o_entry_of_fields) o_criteria_set_of fields o.0 o.1 in
    let second = of_lists (constructed 7) vt_csi_of (constructed 8) (item_in t_entry_of_fields) t_criteria_set_of fields vt.0 vt.1 in
    let lists : Lists =
    record { o = first.0.0; o_criteria = first.1.0; vt = second.0.0; t_criteria = second.1.0 } in record {
      imsi = imsi;
      lists = lists;
      whole =
          subst (λ (arrival : Arrival). insert_of_lists imsi lists arrival.capabilities ≡ Ok arrival) same
          (rw (first.0.1, first.1.1, second.0.1, second.1.1) refl);
    }

-- an Insert that is decoded is of lists
pub insert_of_lists_in : (dialogue : Option (List ℕ)) (element : PlacedData) (arrival : Arrival)
    → insert_in dialogue element ≡ Ok arrival → IsOfLists arrival
unfolding insert_in
insert_of_lists_in dialogue element arrival is =
    let argument = step (identified sequence element) _ arrival is in
    let fields = step (elements_in (contents argument.0)) _ arrival argument.2 in
    let imsi = step (field_of (primitive 0) fields.0 >>= imsi_or_of_dialogue argument.0 dialogue) _ arrival fields.2 in
    let camel = step (field_of (constructed 13) fields.0 >>= camel_fields) _ arrival imsi.2 in
    fields_of_lists imsi.0 camel.0 arrival camel.2

-- What an argument brings is received: an Insert of lists, or another update with nothing beside it.

module _ (dialogue : Option (List ℕ)) (argument : PlacedData) (made : Update) where
  delete_other : delete_in dialogue argument ≡ Ok made → is_insert made ≡ false
  unfolding delete_in
  delete_other is =
      let element = step (identified sequence argument) _ made is in
      let fields = step (elements_in (contents element.0)) _ made element.2 in
      let imsi = step (mandatory element.0 (primitive 0) fields.0 >>= own_imsi dialogue) _ made fields.2 in
      let everything = step (field_of (primitive 9) fields.0 >>= is_named) _ made imsi.2 in
      let what = step (field_of (primitive 15) fields.0 >>= withdrawal_with everything.0) _ made everything.2 in
      let whole = what.2 in
      let same : update.Delete imsi.0 what.0 ≡ made = cc in rw (← same) refl

  cancel_other : cancel_in dialogue argument ≡ Ok made → is_insert made ≡ false
  unfolding cancel_in
  cancel_other is =
      let imsi = step (cancelled_in dialogue argument) _ made is in
      let whole = imsi.2 in
      let same : update.Cancel imsi.0 ≡ made = cc in rw (← same) refl

-- what brings another update has nothing beside it
bare_received : (reading : Result Update MapFault) (arrival : Arrival)
    → ((update : Update) → reading ≡ Ok update → is_insert update ≡ false)
    → (reading >>= λ update. Ok (bare update)) ≡ Ok arrival → IsReceived arrival
bare_received (Ok update) arrival other is =
    let same : bare update ≡ arrival = cc in subst IsReceived same (inr (other update refl, refl))
bare_received (Err fault) arrival other is = absurd cc

in_argument : (which : Operation) (dialogue : Option (List ℕ)) (argument : PlacedData) (arrival : Arrival)
    → arrival_in which dialogue argument ≡ Ok arrival → IsReceived arrival
in_argument operation.InsertSubscriberData dialogue argument arrival is =
    inl (insert_of_lists_in dialogue argument arrival is)
in_argument operation.DeleteSubscriberData dialogue argument arrival is =
    bare_received (delete_in dialogue argument) arrival (delete_other dialogue argument) is
in_argument operation.CancelLocation dialogue argument arrival is =
    bare_received (cancel_in dialogue argument) arrival (cancel_other dialogue argument) is

-- what octets bring is received
pub arrival_received : (which : Operation) (dialogue : Option (List ℕ)) (octets : OctetsData) (arrival : Arrival)
    → arrival_of which dialogue octets ≡ Ok arrival → IsReceived arrival
unfolding arrival_of
arrival_received which dialogue octets arrival is =
    let argument = step (elements_in octets >>= one_of 0) _ arrival is in
    in_argument which dialogue argument.0 arrival argument.2
