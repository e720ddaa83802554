-- The items of an insert (profile 1's own format): rows and entries of criteria, in two lists for each CSI. The
-- texts of an item are read before its data are checked.
use Rattle.std.specs.Prelude.{ℕ, ◌&&◌, not, nat_le, List, [], ◌∷◌, ◌++◌, length, codes, Option, Some, None, Result, Ok, Err, if◌then◌else◌}
use Rattle.std.specs.Result.{result_unwrap_or}
use Rattle.std.specs.Str.{bytes_eq}
use Rattle.camel_criteria.specs.Criteria.{NumberCriterionData, OCriteriaData, TCriteriaData, number_criterion_of, o_criteria_of, t_criteria_of}
use Rattle.camel_criteria.specs.DetectionPoint.{is_among, handling_of}
use Rattle.camel_criteria.specs.declared.basic_service.BasicService.{BasicService}
use Rattle.camel_criteria.specs.declared.criteria.MatchType.{MatchType}
use Rattle.camel_rows.specs.TdpRow.{max_tdp_data, TdpRowData, tdp_row_of}
use Rattle.camel_reading.specs.Reading.{◌>>=◌, each_of}
use Rattle.camel_script.specs.Fields.{at_part, mistake_at, with_parts, elements_as, in_turn, numbered, of_count}
use Rattle.camel_script.specs.Fields.{or_refused, item_part, number_separator, part, parts_of, basic_service_of}
use Rattle.camel_script.specs.Fields.{call_type_of, decimal_of, isdn_address_of, match_type_of, octets_of}
use Rattle.camel_script.specs.declared.mistake.Expected.{Expected}
use Rattle.camel_script.specs.declared.mistake.Expected.TheVariants.{ItemName, DetectionPoint, ServiceKey}
use Rattle.camel_script.specs.declared.mistake.Expected.TheVariants.{GsmScfAddress, Handling, NumberCriterion}
use Rattle.camel_script.specs.declared.mistake.Expected.TheVariants.{BasicServices, ItemCallType, Causes}
use Rattle.camel_script.specs.declared.mistake.Mistake.{Mistake}
use Rattle.camel_script.specs.declared.text.record_fault.RecordFault.{RecordFault}
use Rattle.camel_script.specs.declared.text.record_fault.RecordFault.TheVariants as record_fault

-- o:DP:KEY:SCF:HANDLING and t:DP:KEY:SCF:HANDLING
abbrev pub row_texts : List Expected
row_texts = ItemName ∷ DetectionPoint ∷ ServiceKey ∷ GsmScfAddress ∷ Handling ∷ []

unfoldable pub row_of : ℕ × List ℕ → Result TdpRowData Mistake
row_of (number, item) = with_parts row_texts number item (do
  dp ← at_part number 2 DetectionPoint (decimal_of 255 (item_part item 1))
  key ← at_part number 3 ServiceKey (decimal_of 4294967295 (item_part item 2))
  octets ← at_part number 4 GsmScfAddress (octets_of (item_part item 3))
  received ← at_part number 5 Handling (decimal_of 4294967295 (item_part item 4))
  scf ← at_part number 4 GsmScfAddress (isdn_address_of octets)
  at_part number 3 ServiceKey (or_refused (tdp_row_of dp key scf (handling_of received))))

-- the texts of NUMBER: its match type, the octets of its listed numbers, and its lengths
pub record NumberTextsData : Type 0 where
  pub match_type : MatchType
  pub numbers : List (List ℕ)
  pub lengths : List ℕ

-- what the three parts of NUMBER read as
unfoldable pub number_texts_of_parts : List ℕ → Result NumberTextsData RecordFault
number_texts_of_parts text = of_count 3 (parts_of number_separator text) (do
  match_type ← match_type_of (part number_separator text 0)
  numbers ← elements_as octets_of (part number_separator text 1)
  lengths ← elements_as (decimal_of 255) (part number_separator text 2)
  Ok (record { match_type = match_type; numbers = numbers; lengths = lengths }))

-- what NUMBER reads as; an empty one is no criterion
unfoldable pub number_texts_of : List ℕ → Result (Option NumberTextsData) RecordFault
number_texts_of [] = Ok None
number_texts_of (first ∷ more) = number_texts_of_parts (first ∷ more) >>= λ texts. Ok (Some texts)

-- the criterion that the texts of NUMBER make: first each listed number, and then the whole
unfoldable pub number_criterion_from : Option NumberTextsData → Result (Option NumberCriterionData) RecordFault
number_criterion_from None = Ok None
number_criterion_from (Some texts) = do
  numbers ← each_of isdn_address_of texts.numbers
  criterion ← or_refused (number_criterion_of texts.match_type numbers texts.lengths)
  Ok (Some criterion)

-- what of an entry is refused, and in which part: the basic services if there are too many, else the causes
abbrev pub refused_part : ℕ → ℕ → List BasicService → ℕ × Expected
refused_part basic_part causes_part basic =
    if nat_le (length basic) 5 then (causes_part, Causes) else (basic_part, BasicServices)

-- oc:DP:NUMBER:BASICS:TYPE:CAUSES
abbrev pub o_entry_texts : List Expected
o_entry_texts = ItemName ∷ DetectionPoint ∷ NumberCriterion ∷ BasicServices ∷ ItemCallType ∷ Causes ∷ []

unfoldable pub o_entry_of : ℕ × List ℕ → Result OCriteriaData Mistake
o_entry_of (number, item) = with_parts o_entry_texts number item (do
  dp ← at_part number 2 DetectionPoint (decimal_of 255 (item_part item 1))
  texts ← at_part number 3 NumberCriterion (number_texts_of (item_part item 2))
  basic ← at_part number 4 BasicServices (elements_as basic_service_of (item_part item 3))
  call_type ← at_part number 5 ItemCallType (call_type_of (item_part item 4))
  causes ← at_part number 6 Causes (elements_as (decimal_of 255) (item_part item 5))
  criterion ← at_part number 3 NumberCriterion (number_criterion_from texts)
  at_part number (refused_part 4 6 basic).0 (refused_part 4 6 basic).1
      (or_refused (o_criteria_of dp criterion basic call_type causes)))

-- tc:DP:BASICS:CAUSES
abbrev pub t_entry_texts : List Expected
t_entry_texts = ItemName ∷ DetectionPoint ∷ BasicServices ∷ Causes ∷ []

unfoldable pub t_entry_of : ℕ × List ℕ → Result TCriteriaData Mistake
t_entry_of (number, item) = with_parts t_entry_texts number item (do
  dp ← at_part number 2 DetectionPoint (decimal_of 255 (item_part item 1))
  basic ← at_part number 3 BasicServices (elements_as basic_service_of (item_part item 2))
  causes ← at_part number 4 Causes (elements_as (decimal_of 255) (item_part item 3))
  at_part number (refused_part 3 4 basic).0 (refused_part 3 4 basic).1 (or_refused (t_criteria_of dp basic causes)))

-- the rows and entries of an insert, each list in the order of its items
pub record ItemsData : Type 0 where
  pub o : List TdpRowData
  pub o_criteria : List OCriteriaData
  pub vt : List TdpRowData
  pub t_criteria : List TCriteriaData

-- no row and no entry
abbrev pub no_items : ItemsData
no_items = record { o = []; o_criteria = []; vt = []; t_criteria = [] }

-- the lists with what an item reads as at the end of the one that its name says
unfoldable pub item_into : ItemsData → ℕ × List ℕ → Result ItemsData Mistake
item_into items (number, item) =
    if bytes_eq (item_part item 0) (codes "o")
    then (row_of (number, item) >>= λ row. Ok (record items { o = items.o ++ row ∷ [] }))
    else if bytes_eq (item_part item 0) (codes "t")
    then (row_of (number, item) >>= λ row. Ok (record items { vt = items.vt ++ row ∷ [] }))
    else if bytes_eq (item_part item 0) (codes "oc")
    then (o_entry_of (number, item) >>= λ entry. Ok (record items { o_criteria = items.o_criteria ++ entry ∷ [] }))
    else if bytes_eq (item_part item 0) (codes "tc")
    then (t_entry_of (number, item) >>= λ entry. Ok (record items { t_criteria = items.t_criteria ++ entry ∷ [] }))
    else Err (mistake_at number 1 ItemName record_fault.Word)

-- the lists that the items of an insert make, whose first stands in field 3
abbrev pub items_of : List (List ℕ) → Result ItemsData Mistake
items_of items = in_turn item_into no_items (numbered 3 items)

-- the detection point of an item; 0 if its text is none
abbrev pub item_dp : List ℕ → ℕ
item_dp item = result_unwrap_or (decimal_of 255 (item_part item 1)) 0

-- the first item of a name that its list can't take, behind items of these detection points: the eleventh, or the second
-- of a detection point that counts for the list. An insert with a list that is refused has one (`IsAtRefusedItem`)
unfoldable pub refused_item : RecordFault → List ℕ → List ℕ → List ℕ → List (ℕ × List ℕ) → Mistake
refused_item fault name points dps [] = mistake_at 3 1 ItemName fault
refused_item fault name points dps ((number, item) ∷ more) =
    if not (bytes_eq (item_part item 0) name) then refused_item fault name points dps more
    else if nat_le max_tdp_data (length dps) then mistake_at number 1 ItemName fault
    else if is_among points (item_dp item) && is_among dps (item_dp item) then mistake_at number 2 DetectionPoint fault
    else refused_item fault name points (dps ++ item_dp item ∷ []) more
