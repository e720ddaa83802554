-- The records of a script (profile 1's own format), and where a refused list has its mistake.
use Rattle.std.specs.Prelude.{ℕ, nat_lt, List, [], ◌∷◌, length, codes, Result, Ok, Err, if◌then◌else◌, true, false}
use Rattle.std.specs.Prelude.{drop, Option, Some, None, ◌≡◌, ◌+◌, take}
use Rattle.std.specs.Str.{bytes_eq}
use Rattle.std.specs.Result.{result_err}
use Rattle.camel_criteria.specs.declared.basic_service.BasicService.{BasicService}
use Rattle.camel_rows.specs.declared.trigger.event.TdpEvent.TheVariants.{CollectedInfo, RouteSelectFailure}
use Rattle.camel_rows.specs.declared.trigger.event.TdpEvent.TheVariants.{TerminatingAttempt, Busy, NoAnswer}
use Rattle.camel_script.specs.Fields.{field, at_field, field_count, mistake_at, with_fields, basic_service_of}
use Rattle.camel_script.specs.Fields.{call_address_of, cause_of_value, decimal_of, imsi_of_text, is_forwarded_of}
use Rattle.camel_script.specs.Fields.{octets_of, in_turn, numbered, record_fault_of, item_part}
use Rattle.camel_reading.specs.Reading.{◌>>=◌}
use Rattle.camel_script.specs.declared.mistake.Expected.{Expected}
use Rattle.camel_script.specs.declared.mistake.Mistake.{Mistake}
use Rattle.camel_script.specs.declared.record.Record.{Record}
use Rattle.camel_script.specs.declared.record.Record.TheVariants.{Call}
use Rattle.camel_criteria.specs.declared.refusal.Refusal.{Refusal}
use Rattle.camel_criteria.specs.declared.refusal.Refusal.TheVariants.{DataMissing}
use Rattle.camel_criteria.specs.DetectionPoint.{o_detection_points, vt_detection_points}
use Rattle.camel_rows.specs.TdpRow.{o_criteria_set_of, o_csi_of, t_criteria_set_of, vt_csi_of}
use Rattle.camel_rows.specs.declared.subscriber.update.Withdrawal.{Withdrawal}
use Rattle.camel_script.specs.Item.{ItemsData, items_of, refused_item}
use Rattle.camel_script.specs.declared.mistake.Expected.TheVariants.{Word, Imsi, Withdrawal as What}
use Rattle.camel_script.specs.declared.record.RecordKind.{RecordKind}
use Rattle.camel_script.specs.declared.script_fault.ScriptFault.{ScriptFault}
use Rattle.camel_script.specs.declared.text.record_fault.RecordFault.{RecordFault}
use Rattle.camel_script.specs.declared.mistake.Expected.TheVariants as expected
use Rattle.camel_script.specs.declared.text.record_fault.RecordFault.TheVariants as record_fault
use Rattle.camel_rows.specs.declared.subscriber.update.Update.TheVariants as update
use Rattle.camel_script.specs.declared.record.Record.TheVariants as record_of_script
use Rattle.camel_script.specs.declared.record.RecordKind.TheVariants as kind
use Rattle.camel_script.specs.declared.script_fault.ScriptFault.TheVariants as fault

-- The calls of a script (profile 1's own format). The texts of all fields are read before the data are checked.

-- the word and the detection point
abbrev pub call_texts : List Expected
call_texts = expected.Word ∷ expected.CallDetectionPoint ∷ []

-- call,2,IMSI,BASIC,DEST,TYPE
abbrev pub collected_info_texts : List Expected
collected_info_texts =
    expected.Word ∷ expected.CallDetectionPoint ∷ expected.Imsi ∷ expected.BasicService ∷ expected.Destination
    ∷ expected.Forwarded ∷ []

-- call,4,IMSI,BASIC,DEST,TYPE,CAUSE
abbrev pub route_select_failure_texts : List Expected
route_select_failure_texts =
    expected.Word ∷ expected.CallDetectionPoint ∷ expected.Imsi ∷ expected.BasicService ∷ expected.Destination
    ∷ expected.Forwarded ∷ expected.Cause ∷ []

-- call,12,IMSI,BASIC
abbrev pub terminating_attempt_texts : List Expected
terminating_attempt_texts = expected.Word ∷ expected.CallDetectionPoint ∷ expected.Imsi ∷ expected.BasicService ∷ []

-- call,13,IMSI,BASIC,CAUSE and call,14,IMSI,BASIC,CAUSE
abbrev pub not_reached_texts : List Expected
not_reached_texts =
    expected.Word ∷ expected.CallDetectionPoint ∷ expected.Imsi ∷ expected.BasicService ∷ expected.Cause ∷ []

-- the IMSI and the basic service of a call
unfoldable pub subscriber_of : List (List ℕ) → Result (List ℕ × BasicService) Mistake
subscriber_of fields = do
  imsi ← at_field 3 expected.Imsi (imsi_of_text (field fields 2))
  basic ← at_field 4 expected.BasicService (basic_service_of (field fields 3))
  Ok (imsi, basic)

unfoldable pub collected_info_of : List (List ℕ) → Result Record Mistake
collected_info_of fields = do
  subscriber ← subscriber_of fields
  octets ← at_field 5 expected.Destination (octets_of (field fields 4))
  forwarded ← at_field 6 expected.Forwarded (is_forwarded_of (field fields 5))
  destination ← at_field 5 expected.Destination (call_address_of octets)
  Ok (Call (CollectedInfo subscriber.0 destination subscriber.1 forwarded))

unfoldable pub route_select_failure_of : List (List ℕ) → Result Record Mistake
route_select_failure_of fields = do
  subscriber ← subscriber_of fields
  octets ← at_field 5 expected.Destination (octets_of (field fields 4))
  forwarded ← at_field 6 expected.Forwarded (is_forwarded_of (field fields 5))
  value ← at_field 7 expected.Cause (decimal_of 255 (field fields 6))
  destination ← at_field 5 expected.Destination (call_address_of octets)
  cause ← at_field 7 expected.Cause (cause_of_value value)
  Ok (Call (RouteSelectFailure subscriber.0 destination subscriber.1 forwarded cause))

unfoldable pub terminating_attempt_of : List (List ℕ) → Result Record Mistake
terminating_attempt_of fields = subscriber_of fields >>= λ subscriber. Ok (Call (TerminatingAttempt subscriber.0 subscriber.1))

-- the IMSI, the basic service and the cause of a call that was not reached
unfoldable pub not_reached_of : List (List ℕ) → Result (List ℕ × BasicService × ℕ) Mistake
not_reached_of fields = with_fields not_reached_texts fields (do
  subscriber ← subscriber_of fields
  value ← at_field 5 expected.Cause (decimal_of 255 (field fields 4))
  cause ← at_field 5 expected.Cause (cause_of_value value)
  Ok (subscriber.0, subscriber.1, cause))

-- the record that a call reads as; its second field is the detection point, which says what the others are
unfoldable pub call_of : List (List ℕ) → Result Record Mistake
call_of fields =
    if nat_lt (length fields) 2 then Err (field_count call_texts (length fields))
    else if bytes_eq (field fields 1) (codes "2") then with_fields collected_info_texts fields (collected_info_of fields)
    else if bytes_eq (field fields 1) (codes "4")
    then with_fields route_select_failure_texts fields (route_select_failure_of fields)
    else if bytes_eq (field fields 1) (codes "12")
    then with_fields terminating_attempt_texts fields (terminating_attempt_of fields)
    else if bytes_eq (field fields 1) (codes "13")
    then (not_reached_of fields >>= λ call. Ok (Call (Busy call.0 call.1 call.2)))
    else if bytes_eq (field fields 1) (codes "14")
    then (not_reached_of fields >>= λ call. Ok (Call (NoAnswer call.0 call.1 call.2)))
    else Err (mistake_at 2 0 expected.CallDetectionPoint record_fault.Word)

-- The record that the fields of a CSV record stand for (profile 1's own format). The checks are made in the order in
-- which a definition names them.

-- a record that has only a word
abbrev pub word_texts : List Expected
word_texts = Word ∷ []

-- a record that has only a word and an IMSI
abbrev pub imsi_texts : List Expected
imsi_texts = Word ∷ Imsi ∷ []

abbrev pub imsi_of : List (List ℕ) → Result (List ℕ) Mistake
imsi_of fields = at_field 2 Imsi (imsi_of_text (field fields 1))

unfoldable pub imsi_alone_of : List (List ℕ) → Result (List ℕ) Mistake
imsi_alone_of fields = with_fields imsi_texts fields (imsi_of fields)

-- register,IMSI
abbrev pub register_of : List (List ℕ) → Result Record Mistake
register_of fields = imsi_alone_of fields >>= λ imsi. Ok (record_of_script.Update (update.Register imsi))

-- cancel,IMSI
abbrev pub cancel_of : List (List ℕ) → Result Record Mistake
cancel_of fields = imsi_alone_of fields >>= λ imsi. Ok (record_of_script.Update (update.Cancel imsi))

-- the received list that the items of a name make; without items the list is omitted. If it is refused, the mistake is at
-- the first item that it can't take
abbrev pub list_or_mistake : {A : Type 0} → List ℕ → List ℕ → List (List ℕ) → Result A Refusal → Result (Option A) Mistake
list_or_mistake name points fields (Ok kept) = Ok (Some kept)
list_or_mistake name points fields (Err DataMissing) = Ok None
list_or_mistake name points fields (Err refusal) =
    Err (refused_item (record_fault_of refusal) name points [] (numbered 3 (drop 2 fields)))

-- the update Insert of an IMSI and the lists of its items
unfoldable pub insert_of_items : List (List ℕ) → List ℕ → ItemsData → Result Record Mistake
insert_of_items fields imsi items = do
  o ← list_or_mistake (codes "o") o_detection_points fields (o_csi_of items.o)
  o_criteria ← list_or_mistake (codes "oc") o_detection_points fields (o_criteria_set_of items.o_criteria)
  vt ← list_or_mistake (codes "t") vt_detection_points fields (vt_csi_of items.vt)
  t_criteria ← list_or_mistake (codes "tc") vt_detection_points fields (t_criteria_set_of items.t_criteria)
  Ok (record_of_script.Update (update.Insert imsi o o_criteria vt t_criteria))

-- insert,IMSI,ITEM..
unfoldable pub insert_of : List (List ℕ) → Result Record Mistake
insert_of fields =
    if nat_lt (length fields) 2 then Err (field_count imsi_texts (length fields))
    else do
      imsi ← imsi_of fields
      items ← items_of (drop 2 fields)
      insert_of_items fields imsi items

-- a withdrawal with one text more of what a delete names, in the field of this number
unfoldable pub withdrawal_with : Withdrawal → ℕ × List ℕ → Result Withdrawal Mistake
withdrawal_with what (number, text) =
    if bytes_eq text (codes "o") then Ok (record what { o = true })
    else if bytes_eq text (codes "vt") then Ok (record what { vt = true })
    else if bytes_eq text (codes "all") then Ok (record what { everything = true })
    else Err (mistake_at number 0 What record_fault.Word)

-- the withdrawal of nothing
abbrev pub no_withdrawal : Withdrawal
no_withdrawal = record { o = false; vt = false; everything = false }

-- delete,IMSI,WHAT..
abbrev pub delete_texts : List Expected
delete_texts = Word ∷ Imsi ∷ What ∷ []

unfoldable pub delete_of : List (List ℕ) → Result Record Mistake
delete_of fields =
    if nat_lt (length fields) 3 then Err (field_count delete_texts (length fields))
    else do
      imsi ← imsi_of fields
      what ← in_turn withdrawal_with no_withdrawal (numbered 3 (drop 2 fields))
      Ok (record_of_script.Update (update.Delete imsi what))

unfoldable pub word_alone_of : List (List ℕ) → Record → Result Record Mistake
word_alone_of fields read = with_fields word_texts fields (Ok read)

-- clear
abbrev pub clear_of : List (List ℕ) → Result Record Mistake
clear_of fields = word_alone_of fields (record_of_script.Update update.ClearAll)

-- publish
abbrev pub publish_of : List (List ℕ) → Result Record Mistake
publish_of fields = word_alone_of fields record_of_script.Publish

-- the kind of record that a word names
unfoldable pub kind_of_word : List ℕ → Result RecordKind RecordFault
kind_of_word word =
    if bytes_eq word (codes "register") then Ok kind.Register
    else if bytes_eq word (codes "insert") then Ok kind.Insert
    else if bytes_eq word (codes "delete") then Ok kind.Delete
    else if bytes_eq word (codes "cancel") then Ok kind.Cancel
    else if bytes_eq word (codes "clear") then Ok kind.Clear
    else if bytes_eq word (codes "publish") then Ok kind.Publish
    else if bytes_eq word (codes "call") then Ok kind.Call
    else Err record_fault.Word

-- what the fields of a record of each kind read as
abbrev pub reading_of_kind : RecordKind → List (List ℕ) → Result Record Mistake
reading_of_kind kind.Register fields = register_of fields
reading_of_kind kind.Insert fields = insert_of fields
reading_of_kind kind.Delete fields = delete_of fields
reading_of_kind kind.Cancel fields = cancel_of fields
reading_of_kind kind.Clear fields = clear_of fields
reading_of_kind kind.Publish fields = publish_of fields
reading_of_kind kind.Call fields = call_of fields

-- what fields read as; the first one is the word
unfoldable pub reading_of : List (List ℕ) → Result Record Mistake
reading_of fields = at_field 1 Word (kind_of_word (field fields 0)) >>= λ kind. reading_of_kind kind fields

-- a record whose data are refused is a record, and a fault of its text is the script's
abbrev pub refused_or_fault : RecordFault → Result Record ScriptFault
refused_or_fault (record_fault.Refused refusal) = Ok (record_of_script.Refused refusal)
refused_or_fault record_fault.OutOfMemory = Err fault.OutOfMemory
refused_or_fault record_fault.Word = Err fault.Word
refused_or_fault record_fault.FieldCount = Err fault.FieldCount
refused_or_fault record_fault.Hexadecimal = Err fault.Hexadecimal
refused_or_fault record_fault.Number = Err fault.Number

abbrev pub record_or_fault : Result Record Mistake → Result Record ScriptFault
record_or_fault (Ok read) = Ok read
record_or_fault (Err mistake) = refused_or_fault mistake.fault

-- the record that fields are, or the fault of the script
unfoldable pub record_of : List (List ℕ) → Result Record ScriptFault
record_of fields = record_or_fault (reading_of fields)

-- Where the mistake of an insert is whose IMSI and items can be read: a list that its items make is refused, and the
-- mistake is at the item with which that list is first refused.

-- the lists of an insert
pub data InsertList : Type 0 where
  ORows : InsertList
  OCriteria : InsertList
  VtRows : InsertList
  TCriteria : InsertList

-- the name of the items of a list
abbrev pub item_name : InsertList → List ℕ
item_name ORows = codes "o"
item_name OCriteria = codes "oc"
item_name VtRows = codes "t"
item_name TCriteria = codes "tc"

-- why a received list is refused, if it is; without items it is omitted
abbrev pub refusal_of : {A : Type 0} → (List A → Result (List A) Refusal) → List A → Option Refusal
refusal_of kept_of [] = None
refusal_of kept_of (first ∷ more) = result_err (kept_of (first ∷ more))

abbrev pub refusal_in : ItemsData → InsertList → Option Refusal
refusal_in items ORows = refusal_of o_csi_of items.o
refusal_in items OCriteria = refusal_of o_criteria_set_of items.o_criteria
refusal_in items VtRows = refusal_of vt_csi_of items.vt
refusal_in items TCriteria = refusal_of t_criteria_set_of items.t_criteria

-- the same of the list that the items among the first so many fields make
abbrev pub refusal_in_first : ℕ → List (List ℕ) → InsertList → Result (Option Refusal) Mistake
refusal_in_first count fields list = items_of (drop 2 (take count fields)) >>= λ items. Ok (refusal_in items list)

-- a mistake is at an item of a list: the items before it make one that is taken, and with it one that is refused
pub record IsAtRefusedItem (fields : List (List ℕ)) (mistake : Mistake) : Type 0 where
  pub list : InsertList
  pub before : ℕ
  pub why : Refusal
  pub number : mistake.field ≡ before + 1
  pub named : item_part (field fields before) 0 ≡ item_name list
  pub taken : refusal_in_first before fields list ≡ Ok None
  pub refused : refusal_in_first (before + 1) fields list ≡ Ok (Some why)
  pub fault : mistake.fault ≡ record_fault_of why

-- an insert whose IMSI and items can be read
pub record IsReadInsert (fields : List (List ℕ)) : Type 0 where
  pub imsi : List ℕ
  pub items : ItemsData
  pub word : field fields 0 ≡ codes "insert"
  pub reads_imsi : imsi_of fields ≡ Ok imsi
  pub reads_items : items_of (drop 2 fields) ≡ Ok items
