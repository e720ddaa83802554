-- What an item reads as, and what it adds to the lists of an insert.
use Rattle.std.proofs.Common.{◌≡◌, ◌⊎◌, ◌==◌, inl, inr, ℕ, Bool, true, false, if◌then◌else◌, List, length, Result, Ok}
use Rattle.std.proofs.Common.{Err, refl, ◌∙◌, nat_le, sym, ap, cond, codes, [], ◌∷◌, ◌++◌, map}
use Rattle.std.specs.Prelude.{◌&&◌}
use Rattle.std.specs.Str.{bytes_eq}
use Rattle.std.proofs.lemmas.List.{map-append}
use Rattle.std.proofs.lemmas.Slice.Eq.{bytes_eq-Decides}
use Rattle.camel_criteria.specs.declared.refusal.Refusal.{Refusal}
use Rattle.camel_script.specs.Fields.{at_part, part_count, with_parts, item_separator, parts_of, or_refused, item_part}
use Rattle.camel_script.specs.Fields.{elements_as, basic_service_of, call_type_of, decimal_of, isdn_address_of}
use Rattle.camel_script.specs.Fields.{octets_of}
use Rattle.camel_script.specs.declared.mistake.Expected.{Expected}
use Rattle.camel_script.specs.declared.mistake.Mistake.{Mistake}
use Rattle.camel_script.specs.declared.text.record_fault.RecordFault.{RecordFault}
use Rattle.camel_criteria.specs.Criteria.{OCriteriaData, TCriteriaData, are_causes_at, o_criteria_of, t_criteria_of}
use Rattle.camel_criteria.specs.DetectionPoint.{handling_of}
use Rattle.camel_reading.proofs.StepLemmas.{step_ok}
use Rattle.camel_rows.specs.TdpRow.{TdpRowData, max_service_key, tdp_row_of}
use Rattle.camel_script.specs.Item.{item_dp, number_criterion_from, number_texts_of, refused_part, o_entry_of}
use Rattle.camel_script.specs.Item.{o_entry_texts, row_of, row_texts, t_entry_of, t_entry_texts, ItemsData, item_into}
use Rattle.camel_script.specs.declared.mistake.Expected.TheVariants.{DetectionPoint, ServiceKey, GsmScfAddress}
use Rattle.camel_script.specs.declared.mistake.Expected.TheVariants.{Handling, NumberCriterion, BasicServices}
use Rattle.camel_script.specs.declared.mistake.Expected.TheVariants.{ItemCallType, Causes}
use Rattle.camel_reading.specs.Reading.{◌>>=◌}
use Rattle.camel_script.proofs.ReceivedLists.{dps_in}
use Rattle.camel_script.specs.Record.{InsertList, ORows, OCriteria, VtRows, TCriteria, item_name}

-- What the steps of a reading that ends well have read.

pub part_ok : {A : Type 0} (number part : ℕ) (expected : Expected) (reading : Result A RecordFault) (value : A)
    → at_part number part expected reading ≡ Ok value → reading ≡ Ok value
part_ok number part expected (Ok other) value e = cc
part_ok number part expected (Err fault) value e = absurd (cc)

pub data_ok : {A : Type 0} (number part : ℕ) (expected : Expected) (made : Result A Refusal) (value : A)
    → at_part number part expected (or_refused made) ≡ Ok value → made ≡ Ok value
data_ok number part expected (Ok other) value e = cc
data_ok number part expected (Err why) value e = absurd (cc)

pub either_ok : {A F : Type 0} (test : Bool) (then_reading else_reading : Result A F) (value : A)
    → (if test then then_reading else else_reading) ≡ Ok value
    → ((test ≡ true) × (then_reading ≡ Ok value)) ⊎ (else_reading ≡ Ok value)
either_ok true then_reading else_reading value e = inl (refl, e)
either_ok false then_reading else_reading value e = inr e

pub parts_ok : {A : Type 0} (texts : List Expected) (number : ℕ) (item : List ℕ) (reading : Result A Mistake) (value : A)
    → with_parts texts number item reading ≡ Ok value → reading ≡ Ok value
parts_ok texts number item reading value e =
    let count = length (parts_of item_separator item) in
    elim (either_ok (count == length texts) reading (Err (part_count number texts count)) value e) [
      | inl counted ↦ counted.1
      | inr other ↦ absurd (cc)
    ]

-- The detection point of what an item reads as.

if_ok : {A F : Type 0} (test : Bool) (made : A) (fault : F) (value : A) → (if test then Ok made else Err fault) ≡ Ok value
    → made ≡ value
if_ok true made fault value e = cc
if_ok false made fault value e = absurd (cc)

module _ (number : ℕ) (item : List ℕ) where
  dp_is : (dp : ℕ) → at_part number 2 DetectionPoint (decimal_of 255 (item_part item 1)) ≡ Ok dp → dp ≡ item_dp item
  dp_is dp read = rw (part_ok number 2 DetectionPoint (decimal_of 255 (item_part item 1)) dp read) refl

  pub row_dp : (row : TdpRowData) → row_of (number, item) ≡ Ok row → row.dp ≡ item_dp item
  unfolding row_of
  row_dp row e =
      let dp = step_ok _ _ row (parts_ok row_texts number item _ row e) in
      let key = step_ok (at_part number 3 ServiceKey (decimal_of 4294967295 (item_part item 2))) _ row dp.2 in
      let octets = step_ok (at_part number 4 GsmScfAddress (octets_of (item_part item 3))) _ row key.2 in
      let received = step_ok (at_part number 5 Handling (decimal_of 4294967295 (item_part item 4))) _ row octets.2 in
      let scf = step_ok (at_part number 4 GsmScfAddress (isdn_address_of octets.0)) _ row received.2 in
      let made = data_ok number 3 ServiceKey (tdp_row_of dp.0 key.0 scf.0 (handling_of received.0)) row scf.2 in
      ap (λ (row : TdpRowData). row.dp) (sym (if_ok (nat_le key.0 max_service_key) _ _ row made)) ∙ dp_is dp.0 dp.1

  pub o_entry_dp : (entry : OCriteriaData) → o_entry_of (number, item) ≡ Ok entry → entry.dp ≡ item_dp item
  unfolding o_entry_of
  o_entry_dp entry e =
      let dp = step_ok _ _ entry (parts_ok o_entry_texts number item _ entry e) in
      let texts = step_ok (at_part number 3 NumberCriterion (number_texts_of (item_part item 2))) _ entry dp.2 in
      let basic = step_ok (at_part number 4 BasicServices (elements_as basic_service_of (item_part item 3))) _ entry texts.2 in
      let call_type = step_ok (at_part number 5 ItemCallType (call_type_of (item_part item 4))) _ entry basic.2 in
      let causes = step_ok (at_part number 6 Causes (elements_as (decimal_of 255) (item_part item 5))) _ entry call_type.2 in
      let criterion = step_ok (at_part number 3 NumberCriterion (number_criterion_from texts.0)) _ entry causes.2 in
      let place = refused_part 4 6 basic.0 in
      let made = data_ok number place.0 place.1 (o_criteria_of dp.0 criterion.0 basic.0 call_type.0 causes.0) entry criterion.2 in
      ap (λ (entry : OCriteriaData). entry.dp)
      (sym (if_ok (nat_le (length basic.0) 5 && are_causes_at 2 dp.0 causes.0) _ _ entry made)) ∙ dp_is dp.0 dp.1

  pub t_entry_dp : (entry : TCriteriaData) → t_entry_of (number, item) ≡ Ok entry → entry.dp ≡ item_dp item
  unfolding t_entry_of
  t_entry_dp entry e =
      let dp = step_ok _ _ entry (parts_ok t_entry_texts number item _ entry e) in
      let basic = step_ok (at_part number 3 BasicServices (elements_as basic_service_of (item_part item 2))) _ entry dp.2 in
      let causes = step_ok (at_part number 4 Causes (elements_as (decimal_of 255) (item_part item 3))) _ entry basic.2 in
      let place = refused_part 3 4 basic.0 in
      let made = data_ok number place.0 place.1 (t_criteria_of dp.0 basic.0 causes.0) entry causes.2 in
      ap (λ (entry : TCriteriaData). entry.dp)
      (sym (if_ok (nat_le (length basic.0) 5 && are_causes_at 12 dp.0 causes.0) _ _ entry made)) ∙ dp_is dp.0 dp.1

-- What an item that can be read adds to the lists of an insert: its detection point, to the list of its name.

-- the detection points of a list with an item of a name more
abbrev pub dps_with : InsertList → List ℕ → List ℕ → List ℕ → List ℕ
dps_with list name item dps = cond (bytes_eq name (item_name list)) (dps ++ item_dp item ∷ []) dps

module _ (made next : ItemsData) (number : ℕ) (item : List ℕ) where
  -- a list with an item more has its detection point at the end
  joins : {A : Type 0} (dp_of : A → ℕ) (item_of : ℕ × List ℕ → Result A Mistake) (items : List A) (put : List A → ItemsData)
      → ((value : A) → item_of (number, item) ≡ Ok value → dp_of value ≡ item_dp item)
      → (item_of (number, item) >>= λ value. Ok (put (items ++ value ∷ []))) ≡ Ok next
      → (more : List A) × (map dp_of more ≡ map dp_of items ++ item_dp item ∷ []) × (put more ≡ next)
  joins dp_of item_of items put reads e =
      let value = step_ok (item_of (number, item)) (λ value. Ok (put (items ++ value ∷ []))) next e in
      let is = value.2 in
      let grown = map-append dp_of items (value.0 ∷ []) ∙ ap (λ dp. map dp_of items ++ dp ∷ []) (reads value.0 value.1) in
      (items ++ value.0 ∷ [], grown, cc)

  abbrev Adds : Type 0
  Adds = (list : InsertList) → dps_in list next ≡ dps_with list (item_part item 0) item (dps_in list made)

  to_list : (own : InsertList) (changed : ItemsData) → bytes_eq (item_part item 0) (item_name own) ≡ true → changed ≡ next
      → ((list : InsertList) → dps_in list changed ≡ dps_with list (item_name own) item (dps_in list made)) → Adds
  to_list own changed named is grown list =
      rw ((bytes_eq-Decides (item_part item 0) (item_name own)).0 named) (ap (dps_in list) (sym is) ∙ grown list)

  pub adds : item_into made (number, item) ≡ Ok next → Adds
  unfolding item_into
  adds e = elim (either_ok (bytes_eq (item_part item 0) (codes "o")) _ _ next e) [
    | inl here ↦
        let rows = joins (λ row. row.dp) row_of made.o (λ rows. record made { o = rows }) (row_dp number item) here.1 in
        to_list ORows _ here.0 rows.2 (elim [ ORows ↦ rows.1 | OCriteria ↦ refl | VtRows ↦ refl | TCriteria ↦ refl ])
    | inr other ↦ elim (either_ok (bytes_eq (item_part item 0) (codes "t")) _ _ next other) [
      | inl here ↦
          let rows = joins (λ row. row.dp) row_of made.vt (λ rows. record made { vt = rows }) (row_dp number item) here.1 in
          to_list VtRows _ here.0 rows.2 (elim [ ORows ↦ refl | OCriteria ↦ refl | VtRows ↦ rows.1 | TCriteria ↦ refl ])
      | inr other ↦ elim (either_ok (bytes_eq (item_part item 0) (codes "oc")) _ _ next other) [
        | inl here ↦
            let entries = joins (λ entry. entry.dp) o_entry_of made.o_criteria (λ it. record made { o_criteria = it })
            (o_entry_dp number item) here.1 in
            to_list OCriteria _ here.0 entries.2 (elim [ ORows ↦ refl | OCriteria ↦ entries.1 | VtRows ↦ refl | TCriteria ↦ refl ])
        | inr other ↦ elim (either_ok (bytes_eq (item_part item 0) (codes "tc")) _ _ next other) [
          | inl here ↦
              let entries = joins (λ entry. entry.dp) t_entry_of made.t_criteria (λ it. record made { t_criteria = it })
              (t_entry_dp number item) here.1 in
              to_list TCriteria _ here.0 entries.2 (elim [ ORows ↦ refl | OCriteria ↦ refl | VtRows ↦ refl | TCriteria ↦ entries.1 ])
          | inr none ↦ absurd (cc)
        ]
      ]
    ]
  ]
