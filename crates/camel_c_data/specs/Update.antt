-- The updates of C, with their rows and entries of criteria.
use Rattle.std.specs.Prelude.{◌≡◌, ℕ, Result, Ok, ◌≤◌, List, if◌then◌else◌, All, map, ◌||◌, Bool, true, false, Option}
use Rattle.std.specs.Prelude.{Some, None, IfSome, is_some, Err, nat_le, length}
use Rattle.camel_criteria.specs.DetectionPoint.{handling_of, o_detection_points, vt_detection_points}
use Rattle.camel_criteria.specs.declared.handling.Handling.{Handling}
use Rattle.camel_criteria.specs.declared.handling.Handling.TheVariants.{Continue, Release}
use Rattle.camel_rows.specs.TdpRow.{TdpRowData, tdp_row_of, max_tdp_data, kept_of}
use Rattle.camel_c_data.specs.Fields.{isdn_address_in, or_refused, is_set, first_items, basic_service_in, flag_of}
use Rattle.camel_c_data.specs.Fields.{imsi_in}
use Rattle.camel_reading.specs.Reading.{◌>>=◌, each_of}
use Rattle.camel_c_data.specs.declared.data_fault.DataFault.{DataFault}
use Rattle.camel_c_data.specs.declared.row.CamelRow.{CamelRow}
use Rattle.camel_criteria.specs.Criteria.{NumberCriterionData, number_criterion_of, OCriteriaData, TCriteriaData}
use Rattle.camel_criteria.specs.Criteria.{o_criteria_of, t_criteria_of}
use Rattle.camel_criteria.specs.declared.criteria.MatchType.{MatchType}
use Rattle.camel_criteria.specs.declared.criteria.MatchType.TheVariants.{Inhibiting, Enabling}
use Rattle.camel_c_data.specs.declared.number_criterion.CamelNumberCriterion.{CamelNumberCriterion}
use Rattle.camel_criteria.specs.declared.basic_service.BasicService.{BasicService}
use Rattle.camel_c_data.specs.declared.entry_lists.CamelBasicServices.{CamelBasicServices}
use Rattle.camel_c_data.specs.declared.entry_lists.CamelCauses.{CamelCauses}
use Rattle.camel_criteria.specs.declared.criteria.CallType.{CallType}
use Rattle.camel_criteria.specs.declared.criteria.CallType.TheVariants.{Forwarded, NotForwarded}
use Rattle.camel_criteria.specs.declared.refusal.Refusal.TheVariants.{UnexpectedDataValue}
use Rattle.camel_c_data.specs.declared.criteria.CamelCriteria.{CamelCriteria}
use Rattle.camel_c_data.specs.declared.data_fault.DataFault.TheVariants.{Refused}
use Rattle.camel_criteria.specs.declared.refusal.Refusal.{Refusal}
use Rattle.camel_c_data.specs.declared.csi_lists.CamelCsiLists.{CamelCsiLists}
use Rattle.camel_rows.specs.declared.subscriber.update.Update.{Update}
use Rattle.camel_rows.specs.declared.subscriber.update.Withdrawal.{Withdrawal}
use Rattle.camel_c_data.specs.declared.imsi.CamelImsi.{CamelImsi}
use Rattle.camel_c_data.specs.declared.update.CamelLists.{CamelLists}
use Rattle.camel_c_data.specs.declared.update.CamelWithdrawal.{CamelWithdrawal}
use Rattle.camel_rows.specs.declared.subscriber.update.Update.TheVariants as update

-- TDP rows and CSIs by their fields.

-- the row that the fields are
unfoldable pub row_in : CamelRow → Result TdpRowData DataFault
row_in row = isdn_address_in row.scf >>= λ scf. or_refused (tdp_row_of row.dp row.key scf (handling_of row.handling))

-- the number of a default call handling, of those that TS 29.002 names
abbrev pub handling_number : Handling → ℕ
handling_number Continue = 0
handling_number Release = 1

-- the fields are those of a row, whose default call handling is one of the two that TS 29.002 names
pub record ShowsRow (row : TdpRowData) (fields : CamelRow) : Type 0 where
  pub same : row_in fields ≡ Ok row
  pub handling : fields.handling ≡ handling_number row.handling

-- A destination number criterion by its fields.

abbrev pub match_type_in : CamelNumberCriterion → MatchType
match_type_in criterion = if is_set criterion.is_enabling then Enabling else Inhibiting

-- the listed numbers, each as its octets
abbrev pub numbers_in : CamelNumberCriterion → Result (List (List ℕ)) DataFault
numbers_in criterion = first_items criterion.number_count criterion.numbers >>= each_of isdn_address_in

-- the listed lengths
abbrev pub lengths_in : CamelNumberCriterion → Result (List ℕ) DataFault
lengths_in criterion = first_items criterion.length_count criterion.lengths

-- the fields are each part of a criterion
pub record ShowsNumber (criterion : NumberCriterionData) (fields : CamelNumberCriterion) : Type 0 where
  pub match_type : match_type_in fields ≡ criterion.match_type
  pub is_enabling : fields.is_enabling ≤ 1
  pub numbers : numbers_in fields ≡ Ok criterion.numbers
  pub lengths : lengths_in fields ≡ Ok criterion.lengths

-- the criterion that the fields are: first each listed number, then the lengths, and then the whole
unfoldable pub number_criterion_in : CamelNumberCriterion → Result NumberCriterionData DataFault
number_criterion_in criterion = do
  numbers ← numbers_in criterion
  lengths ← lengths_in criterion
  or_refused (number_criterion_of (match_type_in criterion) numbers lengths)

-- The lists of an entry of criteria, by their fields.

-- the basic services that the fields are
unfoldable pub basic_services_in : CamelBasicServices → Result (List BasicService) DataFault
basic_services_in listed = first_items listed.count listed.services >>= λ services. Ok (map basic_service_in services)

-- each service is said to be a bearer service by 0 or 1
abbrev pub AreFlags : CamelBasicServices → Type 0
AreFlags listed = All (λ service. service.is_bearer ≤ 1) listed.services

-- the causes that the fields are
unfoldable pub causes_in : CamelCauses → Result (List ℕ) DataFault
causes_in listed = first_items listed.count listed.causes

-- Entries of criteria, and sets of them, by their fields.

-- the destination number criterion, if there is one
unfoldable pub number_in : CamelCriteria → Result (Option NumberCriterionData) DataFault
number_in entry =
    if is_set entry.has_number then (number_criterion_in entry.number >>= λ number. Ok (Some number)) else Ok None

-- the call type criterion, if there is one
abbrev pub call_type_in : CamelCriteria → Option CallType
call_type_in entry = if is_set entry.has_call_type then Some (if is_set entry.is_forwarded then Forwarded else NotForwarded) else None

-- a call type criterion asks for forwarded calls
abbrev pub is_forwarded_type : Option CallType → Bool
is_forwarded_type None = false
is_forwarded_type (Some NotForwarded) = false
is_forwarded_type (Some Forwarded) = true

-- the entry of the criteria of the O-CSI that the fields are
unfoldable pub o_entry_in : CamelCriteria → Result OCriteriaData DataFault
o_entry_in entry = do
  number ← number_in entry
  basic ← basic_services_in entry.basic
  causes ← causes_in entry.causes
  or_refused (o_criteria_of entry.dp number basic (call_type_in entry) causes)

-- the entry of the criteria of the VT-CSI that the fields are, which has no criterion of numbers or of the call type
unfoldable pub t_entry_in : CamelCriteria → Result TCriteriaData DataFault
t_entry_in entry = if is_set entry.has_number || is_set entry.has_call_type then Err (Refused UnexpectedDataValue) else do
  basic ← basic_services_in entry.basic
  causes ← causes_in entry.causes
  or_refused (t_criteria_of entry.dp basic causes)

-- the fields are each part of an entry of the criteria of the O-CSI
pub record ShowsO (entry : OCriteriaData) (fields : CamelCriteria) : Type 0 where
  pub dp : fields.dp ≡ entry.dp
  pub has_number : fields.has_number ≡ flag_of (is_some entry.number)
  pub number : IfSome entry.number (λ number. ShowsNumber number fields.number)
  pub basic : basic_services_in fields.basic ≡ Ok entry.basic
  pub bearers : AreFlags fields.basic
  pub call_type : call_type_in fields ≡ entry.call_type
  pub has_call_type : fields.has_call_type ≡ flag_of (is_some entry.call_type)
  pub is_forwarded : fields.is_forwarded ≡ flag_of (is_forwarded_type entry.call_type)
  pub causes : causes_in fields.causes ≡ Ok entry.causes

-- the fields are each part of an entry of the criteria of the VT-CSI
pub record ShowsT (entry : TCriteriaData) (fields : CamelCriteria) : Type 0 where
  pub dp : fields.dp ≡ entry.dp
  pub has_number : fields.has_number ≡ 0
  pub has_call_type : fields.has_call_type ≡ 0
  pub is_forwarded : fields.is_forwarded ≡ 0
  pub basic : basic_services_in fields.basic ≡ Ok entry.basic
  pub bearers : AreFlags fields.basic
  pub causes : causes_in fields.causes ≡ Ok entry.causes

-- A list of rows or of entries of criteria, which may be sent or not.

-- what each item is; a list of more items than may be sent is refused, whatever they are
unfoldable pub few_of : {A S : Type 0} → (S → Result A DataFault) → List S → Result (List A) DataFault
few_of item_in items = if nat_le (length items) max_tdp_data then each_of item_in items else Err (Refused UnexpectedDataValue)

-- a list, if it is sent: what each item is, and then what the received items leave
abbrev pub sent_list : {A S : Type 0} → (S → Result A DataFault) → (List A → Result (List A) Refusal) → Bool → List S
    → Result (Option (List A)) DataFault
sent_list item_in kept_of false items = Ok None
sent_list item_in kept_of true items = do
  received ← few_of item_in items
  kept ← or_refused (kept_of received)
  Ok (Some kept)

-- What an Insert sends of a CSI: its rows and the entries of its criteria, each list if it is sent.

-- the rows that are kept of a CSI with these detection points
unfoldable pub rows_in : List ℕ → CamelCsiLists → Result (Option (List TdpRowData)) DataFault
rows_in points sent = sent_list row_in (kept_of points (λ row. row.dp)) (is_set sent.has_rows) sent.rows.now

-- the entries that are kept of the criteria of such a CSI
unfoldable pub entries_in : {Entry : Type 0} → (CamelCriteria → Result Entry DataFault) → List ℕ → (Entry → ℕ) → CamelCsiLists
    → Result (Option (List Entry)) DataFault
entries_in entry_in points dp_of sent = sent_list entry_in (kept_of points dp_of) (is_set sent.has_criteria) sent.criteria.now

-- The updates Insert and Delete (TS 29.002) by their fields.

-- the Insert of an IMSI and of the lists that are sent
unfoldable pub insert_in : CamelLists → CamelImsi → Result Update DataFault
insert_in sent held = do
  imsi ← imsi_in held
  o ← rows_in o_detection_points sent.o
  o_criteria ← entries_in o_entry_in o_detection_points (λ entry. entry.dp) sent.o
  vt ← rows_in vt_detection_points sent.vt
  t_criteria ← entries_in t_entry_in vt_detection_points (λ entry. entry.dp) sent.vt
  Ok (update.Insert imsi o o_criteria vt t_criteria)

-- what is named
abbrev pub withdrawal_in : CamelWithdrawal → Withdrawal
withdrawal_in named = record { o = is_set named.o; vt = is_set named.vt; everything = is_set named.everything }

-- the Delete of an IMSI and of what is named
unfoldable pub delete_in : CamelWithdrawal → CamelImsi → Result Update DataFault
delete_in named held = imsi_in held >>= λ imsi. Ok (update.Delete imsi (withdrawal_in named))
