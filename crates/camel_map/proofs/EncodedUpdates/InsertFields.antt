-- The encoded fields of VlrCamelSubscriptionInfo are read as the lists of their Insert.
use Rattle.std.proofs.Common.{◌≡◌, ℕ, List, Option, Some, None, Ok, refl, arith}
use Rattle.std.proofs.lemmas.Option.{IfSome_then}
use Rattle.std.specs.Option.{option_map}
use Rattle.camel_ber.specs.Elements.{PlacedData}
use Rattle.camel_rows.specs.TdpRow.{o_criteria_set_of, o_csi_of, t_criteria_set_of, vt_csi_of, TdpRowData}
use Rattle.camel_map.specs.Arrival.{insert_of, kept_in, rows_in, Lists}
use Rattle.camel_map.specs.Csi.{o_entry_of_fields, t_entry_of_fields, csi_in, lists_of_fields}
use Rattle.camel_map.specs.Encoding.{csi_element, ignored_in_o, ignored_in_vt, ignored_o_entry, ignored_row}
use Rattle.camel_map.specs.Encoding.{ignored_t_entry, o_entry_fields, t_entry_fields, IsKept, IsOEntry, IsTEntry}
use Rattle.camel_map.specs.Reading.{constructed, item_in, received_as}
use Rattle.camel_map.specs.Update.{insert_of_fields}
use Rattle.camel_map.specs.declared.arrival.Arrival.{Arrival}
use Rattle.camel_map.proofs.EncodedUpdates.CamelFields.{info, the_fields}
use Rattle.camel_map.proofs.EncodedUpdates.CamelFields as sent
use Rattle.camel_map.proofs.Encoded.Series.{came_read, AreRead}
use Rattle.camel_map.proofs.EncodedLists.Csis.{csi_came, csi_read, came, sent_read, is_ignored_row}
use Rattle.camel_map.proofs.EncodedLists.Entries.{is_ignored_o_entry, o_entry_read, is_ignored_t_entry, t_entry_read}

-- the items of a list that came are those that were sent
rows_kept : (ignored : TdpRowData) (o : Option (List TdpRowData)) → kept_in (rows_in (option_map (csi_came ignored) o)) ≡ o
rows_kept ignored None = refl
rows_kept ignored (Some rows) = refl

abbrev o_ignored : TdpRowData
o_ignored = ignored_row ignored_in_o

abbrev vt_ignored : TdpRowData
vt_ignored = ignored_row ignored_in_vt

items_kept : {Item : Type 0} (ignored : Item) (o : Option (List Item))
    → kept_in (option_map (came ignored) o) ≡ o
items_kept ignored None = refl
items_kept ignored (Some items) = refl

module _ (imsi : List ℕ) (lists : Lists) where
  -- what its argument brings
  abbrev pub came_insert : Arrival
  came_insert =
      insert_of imsi (record { csi = option_map (csi_came o_ignored) lists.o; criteria = option_map (came ignored_o_entry) lists.o_criteria })
      (record { csi = option_map (csi_came vt_ignored) lists.vt; criteria = option_map (came ignored_t_entry) lists.t_criteria })

  -- its fields are read as what it brings
  pub fields_read : IsKept (sent.insert_of imsi lists) → (fields : List PlacedData) → AreRead fields (info lists)
      → insert_of_fields imsi fields ≡ Ok came_insert
  unfolding insert_of_fields lists_of_fields
  fields_read kept fields read =
      let all = info lists in
      let the = the_fields lists in
      let rows = came_read (csi_in o_csi_of) (constructed 0) fields all (csi_element o_ignored (constructed 0))
      (csi_came o_ignored) lists.o (λ x. refl) read (the (constructed 0)) (IfSome_then lists.o kept.1
      (csi_read o_csi_of o_ignored (is_ignored_row ignored_in_o (omega arith)) refl (constructed 0))) in
      let entries = came_read (received_as (item_in o_entry_of_fields) o_criteria_set_of) (constructed 4) fields all _
      (came ignored_o_entry) lists.o_criteria (λ x. refl) read (the (constructed 4)) (IfSome_then lists.o_criteria
      kept.2 (sent_read o_entry_of_fields o_entry_fields IsOEntry o_criteria_set_of o_entry_read ignored_o_entry is_ignored_o_entry
      refl (constructed 4))) in
      let vt_rows = came_read (csi_in vt_csi_of) (constructed 7) fields all (csi_element vt_ignored (constructed 7))
      (csi_came vt_ignored) lists.vt (λ x. refl) read (the (constructed 7)) (IfSome_then lists.vt kept.3
      (csi_read vt_csi_of vt_ignored (is_ignored_row ignored_in_vt (omega arith)) refl (constructed 7))) in
      let vt_entries = came_read (received_as (item_in t_entry_of_fields) t_criteria_set_of) (constructed 8) fields all _
      (came ignored_t_entry) lists.t_criteria (λ x. refl) read (the (constructed 8)) (IfSome_then lists.t_criteria
      kept.4 (sent_read t_entry_of_fields t_entry_fields IsTEntry t_criteria_set_of t_entry_read ignored_t_entry is_ignored_t_entry
      refl (constructed 8))) in
      rw (rows, entries, vt_rows, vt_entries) refl

  -- its update is the one that was sent
  pub came_says : came_insert.update ≡ sent.insert_of imsi lists
  came_says =
      rw (rows_kept o_ignored lists.o, items_kept ignored_o_entry lists.o_criteria, rows_kept vt_ignored lists.vt, items_kept ignored_t_entry lists.t_criteria)
      refl
