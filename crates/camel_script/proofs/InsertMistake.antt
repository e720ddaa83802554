-- The mistake of an insert that can be read: the item with which one of its lists is first refused.
use Rattle.std.proofs.Common.{◌≡◌, ◌∙◌, inl, inr, ℕ, suc, ◌+◌, List, [], ◌∷◌, ◌++◌, length, Some, None, Ok, refl, sym}
use Rattle.std.proofs.Common.{ap, arith, append_assoc, length-append, ◌⊎◌, zero, ◌<◌, ◌≤◌, drop, Result, Err, add-one}
use Rattle.std.proofs.Common.{take, codes, false, nat_lt, Option}
use Rattle.std.proofs.lemmas.List.{drop_all}
use Rattle.std.proofs.Math.Seq.{drop-append_seam, take-append-add, take-append_seam}
use Rattle.std.proofs.lemmas.Bool.Decides.{nat_tests}
use Rattle.std.specs.Result.{result_err}
use Rattle.camel_criteria.specs.declared.refusal.Refusal.{Refusal}
use Rattle.camel_criteria.specs.declared.refusal.Refusal.TheVariants.{UnexpectedDataValue, DataMissing}
use Rattle.camel_reading.proofs.StepLemmas.{step_ok, step_err}
use Rattle.camel_script.proofs.FirstRefused.{at_item}
use Rattle.camel_script.proofs.ItemLemmas.{adds}
use Rattle.camel_script.proofs.ReceivedLists.{by_dps_in, dps_in, points_of, none_refused, refused_as}
use Rattle.camel_script.specs.Item.{ItemsData, item_into, items_of, no_items, refused_item}
use Rattle.camel_script.specs.Fields.{item_part, in_turn, numbered, field, record_fault_of, imsi_of_text}
use Rattle.camel_script.specs.Record.{InsertList, item_name, refusal_in, IsAtRefusedItem, imsi_of, insert_of}
use Rattle.camel_script.specs.Record.{insert_of_items, kind_of_word, list_or_mistake, reading_of, ORows, OCriteria}
use Rattle.camel_script.specs.Record.{VtRows, TCriteria, IsReadInsert, refusal_of}
use Rattle.camel_script.specs.declared.mistake.Mistake.{Mistake}
use Rattle.camel_script.specs.declared.text.record_fault.RecordFault.{RecordFault}
use Rattle.csv.specs.Records.{field_at}
use Rattle.camel_criteria.specs.DetectionPoint.{o_detection_points, vt_detection_points}
use Rattle.camel_rows.specs.TdpRow.{o_criteria_set_of, o_csi_of, t_criteria_set_of, vt_csi_of}

-- The first item with which a list is refused, in the items of an insert.

pub none_read : items_of [] ≡ Ok no_items
unfolding in_turn numbered
none_read = refl

-- items before which there are others make what those make, and what the item adds
pub reads_more : (start : ItemsData) (before : List (List ℕ)) (first number : ℕ) (item : List ℕ) (made next : ItemsData) → number ≡ length before + first
    → in_turn item_into start (numbered first before) ≡ Ok made → item_into made (number, item) ≡ Ok next
    → in_turn item_into start (numbered first (before ++ item ∷ [])) ≡ Ok next
unfolding in_turn numbered
reads_more start [] first number item made next at reads e =
    let same : start ≡ made = cc in
    let here : number ≡ first = omega arith in
    rw (same, ← here, e) refl
reads_more start (text ∷ before) first number item made next at reads e =
    let step = step_ok (item_into start (first, text)) (λ next. in_turn item_into next (numbered (suc first) before)) made reads in
    rw step.1 (reads_more step.0 before (suc first) number item made next (omega arith) step.2 e)

-- the items up to the first with which a list is refused
pub record IsFirstRefused (list : InsertList) (of_list : RecordFault) (items : List (List ℕ)) (mistake : Mistake) : Type 0 where
  pub before : List (List ℕ)
  pub item : List ℕ
  pub more : List (List ℕ)
  pub made : ItemsData
  pub next : ItemsData
  pub parts : items ≡ before ++ item ∷ more
  pub number : mistake.field ≡ length before + 3
  pub named : item_part item 0 ≡ item_name list
  pub reads_before : items_of before ≡ Ok made
  pub taken : refusal_in made list ≡ None
  pub reads_with : items_of (before ++ item ∷ []) ≡ Ok next
  pub refused : refusal_in next list ≡ Some UnexpectedDataValue
  pub fault : mistake.fault ≡ of_list

module _ (list : InsertList) (fault : RecordFault) (whole : ItemsData) (why : Refusal) (mistake : Mistake) (refused : refusal_in whole list ≡ Some why) where
  pub find : (before rest : List (List ℕ)) (number : ℕ) (made : ItemsData) → number ≡ length before + 3
      → items_of before ≡ Ok made → refusal_in made list ≡ None → in_turn item_into made (numbered number rest) ≡ Ok whole
      → refused_item fault (item_name list) (points_of list) (dps_in list made) (numbered number rest) ≡ mistake
      → IsFirstRefused list fault (before ++ rest) mistake
  unfolding in_turn numbered
  find before [] number made at reads taken done so_far =
      let same : made ≡ whole = cc in
      absurd (let none = ap (λ items. refusal_in items list) same in cc)
  find before (item ∷ rest) number made at reads taken left so_far =
      let next = step_ok (item_into made (number, item)) (λ next. in_turn item_into next (numbered (suc number) rest)) whole left in
      let with_item = reads_more no_items before 3 number item made next.0 at reads next.1 in
      let grown = adds made next.0 number item next.1 list in
      let taken_at = sym (by_dps_in list made) ∙ taken in
      elim (at_item fault (item_name list) (points_of list) (dps_in list made) (dps_in list next.0) number item (numbered (suc number) rest) mistake
      grown taken_at so_far) [
        | inl here ↦ record {
          before = before;
          item = item;
          more = rest;
          made = made;
          next = next.0;
          parts = refl;
          number = here.2 ∙ at;
          named = here.0;
          reads_before = reads;
          taken = taken;
          reads_with = with_item;
          refused = by_dps_in list next.0 ∙ here.1;
          fault = here.3;
        }
        | inr on ↦
            let longer : suc number ≡ length (before ++ item ∷ []) + 3 = omega (arith, length-append before (item ∷ [])) in
            rw append_assoc at (find (before ++ item ∷ []) rest (suc number) next.0 longer with_item (by_dps_in list next.0 ∙ on.0) next.2 on.1)
      ]

-- Fields and other sources in turn, as a loop takes them.

-- the fields from a place on begin with the one there
pub drop-field : (fields : List (List ℕ)) (at : ℕ) → at < length fields → drop at fields ≡ field fields at ∷ drop (suc at) fields
unfolding field_at
drop-field [] at h = absurd (omega arith)
drop-field (first ∷ fields) zero h = refl
drop-field (first ∷ fields) (suc at) h = drop-field fields at (omega arith)

-- the numbered fields from a place on begin with the one there
pub numbered-field : (fields : List (List ℕ)) (at : ℕ) → at < length fields
    → numbered (at + 1) (drop at fields) ≡ (at + 1, field fields at) ∷ numbered (at + 1 + 1) (drop (at + 1) fields)
unfolding numbered
numbered-field fields at lt = rw (drop-field fields at lt, add-one, add-one) refl

-- no field is behind the last
pub numbered-none : (fields : List (List ℕ)) (at : ℕ) → length fields ≤ at → numbered (at + 1) (drop at fields) ≡ []
unfolding numbered
numbered-none fields at le = rw (drop_all at fields le) refl

module _ {A S F : Type 0} (take_source : A → S → Result A F) {left : List S} (made : A) (total : Result A F)
    (so_far : in_turn take_source made left ≡ total) where
  pub goes_on : {source : S} {more : List S} {next : A} → left ≡ source ∷ more → take_source made source ≡ Ok next
      → in_turn take_source next more ≡ total
  unfolding in_turn
  goes_on here taken = rw (here, taken) at so_far

  pub fails_here : {source : S} {more : List S} {fault : F} → left ≡ source ∷ more → take_source made source ≡ Err fault
      → total ≡ Err fault
  unfolding in_turn
  fails_here here fails = sym (rw (here, fails) at so_far)

  -- also if memory is refused
  pub fails_at : {source : S} {more : List S} {fault : F} {Memory : Type 0} → left ≡ source ∷ more
      → Memory ⊎ (take_source made source ≡ Err fault) → Memory ⊎ (total ≡ Err fault)
  fails_at here (inl memory) = inl memory
  fails_at here (inr fails) = inr (fails_here here fails)

  pub is_done : left ≡ [] → total ≡ Ok made
  unfolding in_turn
  is_done none = sym (rw none at so_far)

-- The place of the item with which a list is first refused, in the fields of its insert.

-- the field behind some
field-behind : (before : List (List ℕ)) (item : List ℕ) (more : List (List ℕ)) → field (before ++ item ∷ more) (length before) ≡ item
field-behind before item more =
    let here : length before < length (before ++ item ∷ more) = rw (length-append before (item ∷ more)) (omega arith) in
    let rest = sym (drop-field (before ++ item ∷ more) (length before) here) ∙ drop-append_seam before (item ∷ more) in
    cc

-- a word and an IMSI are before the items
first_two : (fields : List (List ℕ)) (before : List (List ℕ)) (item : List ℕ) (more : List (List ℕ)) → drop 2 fields ≡ before ++ item ∷ more
    → (all : List (List ℕ)) × (fields ≡ all ++ item ∷ more) × (drop 2 all ≡ before)
    × (drop 2 (all ++ item ∷ []) ≡ before ++ item ∷ []) × (length all ≡ length before + 2)
first_two [] [] item more parts = absurd (cc)
first_two [] (first ∷ before) item more parts = absurd (cc)
first_two (word ∷ []) [] item more parts = absurd (cc)
first_two (word ∷ []) (first ∷ before) item more parts = absurd (cc)
first_two (word ∷ imsi ∷ items) before item more parts = (word ∷ imsi ∷ before, ap (λ items. word ∷ imsi ∷ items) parts, refl, refl, omega arith)

module _ (fields : List (List ℕ)) (mistake : Mistake) (list : InsertList) (fault : RecordFault)
    (unexpected : fault ≡ record_fault_of UnexpectedDataValue) where
  placed : (all : List (List ℕ)) (first : IsFirstRefused list fault (drop 2 fields) mistake) → fields ≡ all ++ first.item ∷ first.more
      → drop 2 all ≡ first.before → drop 2 (all ++ first.item ∷ []) ≡ first.before ++ first.item ∷ [] → length all ≡ length first.before + 2
      → IsAtRefusedItem fields mistake
  placed all first whole front with_item long =
      let cut_before = rw (take-append_seam all (first.item ∷ first.more)) at (ap (take (length all)) whole) in
      let cut_behind = rw (take-append-add all (first.item ∷ first.more) 1) at (ap (take (length all + 1)) whole) in
      let there = ap (λ fields. field fields (length all)) whole ∙ field-behind all first.item first.more in
      record {
        list = list;
        before = length all;
        why = UnexpectedDataValue;
        number = first.number ∙ omega (arith, long);
        named = rw there first.named;
        taken = rw (cut_before, front, first.reads_before, first.taken) refl;
        refused = rw (cut_behind, with_item, first.reads_with, first.refused) refl;
        fault = first.fault ∙ unexpected;
      }

  pub at_place : IsFirstRefused list fault (drop 2 fields) mistake → IsAtRefusedItem fields mistake
  at_place first =
      let two = first_two fields first.before first.item first.more first.parts in
      placed two.0 first two.1 two.2 two.3 two.4

-- The mistake of an insert that can be read: a list that its items make is refused.

module _ (fields : List (List ℕ)) (mistake : Mistake) where
  -- why a list is refused, and what the definition names then
  RefusedFor : List ℕ → List ℕ → Option Refusal → Type 0
  RefusedFor name points refusal =
      (why : Refusal) × (refusal ≡ Some why) × (refused_item (record_fault_of why) name points [] (numbered 3 (drop 2 fields)) ≡ mistake)

  of_list : {A : Type 0} (name points : List ℕ) (kept_of : List A → Result (List A) Refusal) (items : List A)
      → kept_of [] ≡ Err DataMissing → list_or_mistake name points fields (kept_of items) ≡ Err mistake
      → RefusedFor name points (refusal_of kept_of items)
  unfolding RefusedFor
  of_list name points kept_of [] omitted e = absurd (let none = rw omitted at e in cc)
  of_list name points kept_of (first ∷ more) omitted e = by (kept_of (first ∷ more)) e
    where
      by : {B : Type 0} (kept : Result B Refusal) → list_or_mistake name points fields kept ≡ Err mistake
          → RefusedFor name points (result_err kept)
      by (Ok kept) e = absurd (cc)
      by (Err DataMissing) e = absurd (cc)
      by (Err why) e = (why, refl, cc)

  of_items : (imsi : List ℕ) (items : ItemsData) → insert_of_items fields imsi items ≡ Err mistake
      → (list : InsertList) × RefusedFor (item_name list) (points_of list) (refusal_in items list)
  unfolding insert_of_items
  of_items imsi items e =
      elim (step_err (list_or_mistake (codes "o") o_detection_points fields (o_csi_of items.o)) _ mistake e) [
        | inl refused ↦ (ORows, of_list (codes "o") o_detection_points o_csi_of items.o refl refused)
        | inr o ↦ elim (step_err (list_or_mistake (codes "oc") o_detection_points fields (o_criteria_set_of items.o_criteria)) _ mistake o.2) [
          | inl refused ↦ (OCriteria, of_list (codes "oc") o_detection_points o_criteria_set_of items.o_criteria refl refused)
          | inr o_criteria ↦ elim (step_err (list_or_mistake (codes "t") vt_detection_points fields (vt_csi_of items.vt)) _ mistake o_criteria.2) [
            | inl refused ↦ (VtRows, of_list (codes "t") vt_detection_points vt_csi_of items.vt refl refused)
            | inr vt ↦ elim (step_err (list_or_mistake (codes "tc") vt_detection_points fields (t_criteria_set_of items.t_criteria)) _ mistake vt.2) [
              | inl refused ↦ (TCriteria, of_list (codes "tc") vt_detection_points t_criteria_set_of items.t_criteria refl refused)
              | inr t_criteria ↦ absurd (let none = t_criteria.2 in cc)
            ]
          ]
        ]
      ]

  first_refused : (items : ItemsData) (list : InsertList) → items_of (drop 2 fields) ≡ Ok items
      → RefusedFor (item_name list) (points_of list) (refusal_in items list) → IsAtRefusedItem fields mistake
  unfolding RefusedFor
  first_refused items list reads (why, refused, is) =
      let none = none_refused list in
      let so_far = rw (sym none.1) at is in
      let unexpected = refused_as (points_of list) (dps_in list items) why (sym (by_dps_in list items) ∙ refused) in
      let fault = record_fault_of why in
      at_place fields mistake list fault (ap record_fault_of unexpected)
      (find list fault items why mistake refused [] (drop 2 fields) 3 no_items (omega arith) none_read none.0 reads so_far)

two_fields : (fields : List (List ℕ)) (imsi : List ℕ) → imsi_of fields ≡ Ok imsi → nat_lt (length fields) 2 ≡ false
unfolding imsi_of_text field_at
two_fields [] imsi read = absurd (cc)
two_fields (word ∷ []) imsi read = absurd (cc)
two_fields (word ∷ text ∷ more) imsi read = grind (arith, nat_tests)

as_insert : (fields : List (List ℕ)) (imsi : List ℕ) (items : ItemsData) → field fields 0 ≡ codes "insert" → imsi_of fields ≡ Ok imsi
    → items_of (drop 2 fields) ≡ Ok items → reading_of fields ≡ insert_of_items fields imsi items
unfolding reading_of kind_of_word insert_of
as_insert fields imsi items word reads_imsi reads_items = rw (word, two_fields fields imsi reads_imsi, reads_imsi, reads_items) refl

pub at_refused_item : (fields : List (List ℕ)) (mistake : Mistake) → IsReadInsert fields → reading_of fields ≡ Err mistake
    → IsAtRefusedItem fields mistake
at_refused_item fields mistake read e =
    let of_items = of_items fields mistake read.imsi read.items
    (sym (as_insert fields read.imsi read.items read.word read.reads_imsi read.reads_items) ∙ e) in
    first_refused fields mistake read.items of_items.0 read.reads_items of_items.1
