-- The Insert of a record leaves that record.
use Rattle.std.proofs.Common.{◌≡◌, false, List, [], ◌∷◌, Option, Some, None, refl, ap, ◌∙◌, ◌||◌, ℕ, Bool, true, cond}
use Rattle.std.proofs.Common.{IsTrue, sym}
use Rattle.std.specs.Option.{option_and_then, option_map}
use Rattle.camel_rows.specs.Update.{lacks_csi, csi_after, csis_of, csis_refusal, no_records, is_insert, record_after}
use Rattle.camel_rows.specs.Update.{record_with_insert, records_after, update_imsi}
use Rattle.camel_rows.specs.Subscriber.{StoredCsiData, rows_of, SubscriberData, empty_record}
use Rattle.camel_rows.specs.TdpRow.{TdpRowData}
use Rattle.camel_map.specs.Encoding.{sent_criteria, some_entries, insert_of_record, with_some_entries}
use Rattle.camel_rows.proofs.UpdateLemmas.{get-with_value_there, insert_twice, with_record_after}
use Rattle.camel_criteria.specs.declared.refusal.Refusal.{Refusal}
use Rattle.camel_criteria.specs.declared.refusal.Refusal.TheVariants.{DataMissing}
use Rattle.camel_rows.specs.declared.subscriber.update.Update.{Update}
use Rattle.std.specs.FinMap as map
use Rattle.camel_rows.specs.declared.subscriber.update.Update.TheVariants as update

-- A CSI that is sent with its criteria is stored as it is.

module _ {Entry : Type 0} where
  -- a CSI that is sent with its criteria is stored as it is
  pub csi_stands : (csi : Option (StoredCsiData Entry))
      → csi_after None (option_map rows_of csi) (sent_criteria csi) ≡ csi
  csi_stands None = refl
  csi_stands (Some csi) = either csi.entries
    where
      either : (entries : List Entry)
          → csi_after None (Some csi.rows) (some_entries entries) ≡ Some (record { rows = csi.rows; entries = entries })
      either [] = refl
      either (first ∷ more) = refl

  -- criteria are sent with their CSI
  pub none_lacks : (csi : Option (StoredCsiData Entry))
      → lacks_csi false (option_map rows_of csi) (sent_criteria csi) ≡ false
  none_lacks None = refl
  none_lacks (Some csi) = refl

  -- a CSI that criteria leave stored was sent with its own
  pub csi_sent : (rows : Option (List TdpRowData)) (entries : Option (List Entry)) (csi : Option (StoredCsiData Entry))
      → csi_after None rows entries ≡ csi → lacks_csi false rows entries ≡ false
      → (rows ≡ option_map rows_of csi) × (option_and_then some_entries entries ≡ sent_criteria csi)
  csi_sent None None csi is whole = (ap (option_map rows_of) is, ap sent_criteria is)
  csi_sent None (Some entries) csi is whole = absurd cc
  csi_sent (Some rows) None csi is whole = (ap (option_map rows_of) is, ap sent_criteria is)
  csi_sent (Some rows) (Some entries) csi is whole = (ap (option_map rows_of) is, ap sent_criteria is)

-- The Insert of a record leaves that record.

none_refused : (first second : Bool) (why : Refusal) → cond (first || second) (Some why) None ≡ None
    → (first ≡ false) × (second ≡ false)
none_refused true second why is = absurd cc
none_refused false true why is = absurd cc
none_refused false false why is = (refl, refl)

module _ (imsi : List ℕ) (subscriber : SubscriberData) where
  accepted : csis_refusal (Some (csis_of empty_record)) (insert_of_record imsi subscriber) ≡ None
  accepted = rw (none_lacks subscriber.o, none_lacks subscriber.vt) refl

  left : record_after (Some empty_record) (insert_of_record imsi subscriber) ≡ Some subscriber
  left = rw (csi_stands subscriber.o, csi_stands subscriber.vt) refl

  -- over no records, a Register and the Insert of a record leave that record and no other
  pub record_stands : records_after (records_after no_records (update.Register imsi)) (insert_of_record imsi subscriber)
      ≡ map.insert no_records imsi subscriber
  record_stands =
      let m = records_after no_records (update.Register imsi) in
      sym (with_record_after m (insert_of_record imsi subscriber) imsi empty_record subscriber refl
      (get-with_value_there no_records imsi (Some empty_record)) (λ refused. let never = rw accepted at refused in absurd cc)
      (λ taken. sym left))
      ∙ insert_twice no_records imsi empty_record subscriber

  -- an Insert that makes a record is that of the record, but for lists of criteria with no entries
  pub record_sent : (sent : Update) → record_after (Some empty_record) sent ≡ Some subscriber
      → csis_refusal (Some (csis_of empty_record)) sent ≡ None → update_imsi sent ≡ Some imsi → IsTrue (is_insert sent)
      → with_some_entries sent ≡ insert_of_record imsi subscriber
  record_sent (update.Insert own o o_criteria vt t_criteria) equal taken whom is =
      let same : own ≡ imsi = cc in
      let made : record_with_insert o o_criteria vt t_criteria empty_record ≡ subscriber = cc in
      let whole = none_refused (lacks_csi false o o_criteria) (lacks_csi false vt t_criteria) DataMissing taken in
      let first = csi_sent o o_criteria subscriber.o (ap (λ (made : SubscriberData). made.o) made) whole.0 in
      let second = csi_sent vt t_criteria subscriber.vt (ap (λ (made : SubscriberData). made.vt) made) whole.1 in
      rw (same, first.0, first.1, second.0, second.1) refl
  record_sent (update.Register own) equal taken whom is = absurd cc
  record_sent (update.Delete own what) equal taken whom is = absurd cc
  record_sent (update.Cancel own) equal taken whom is = absurd cc
  record_sent update.ClearAll equal taken whom is = absurd cc
