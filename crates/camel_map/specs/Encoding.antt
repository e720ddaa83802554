-- The encoding of updates and records as arguments of MAP.
use Rattle.std.specs.Prelude.{◌≡◌, ℕ, Bool, true, false, ◌/◌, ◌%◌, ◌+◌, ◌*◌, nat_lt, List, [], ◌∷◌, ◌++◌, length, map}
use Rattle.std.specs.Prelude.{Option, Some, None, IfSome, if◌then◌else◌, ◌≤◌, ◌⊎◌, All, Result, Ok}
use Rattle.std.specs.Option.{option_map, option_and_then}
use Rattle.camel_ber.specs.Elements.{ElementData}
use Rattle.camel_criteria.specs.Criteria.{NumberCriterionData, OCriteriaData, TCriteriaData, number_criterion_of}
use Rattle.camel_criteria.specs.Criteria.{o_criteria_of, t_criteria_of}
use Rattle.camel_criteria.specs.declared.basic_service.BasicService.{BasicService}
use Rattle.camel_criteria.specs.declared.basic_service.BasicService.TheVariants.{Bearer, Tele}
use Rattle.camel_criteria.specs.declared.criteria.CallType.{CallType}
use Rattle.camel_criteria.specs.declared.criteria.CallType.TheVariants.{Forwarded, NotForwarded}
use Rattle.camel_criteria.specs.declared.criteria.MatchType.{MatchType}
use Rattle.camel_criteria.specs.declared.criteria.MatchType.TheVariants.{Enabling, Inhibiting}
use Rattle.camel_criteria.specs.declared.handling.Handling.{Handling}
use Rattle.camel_criteria.specs.declared.handling.Handling.TheVariants.{Continue, Release}
use Rattle.camel_rows.specs.TdpRow.{TdpRowData, o_criteria_set_of, o_csi_of, t_criteria_set_of, vt_csi_of}
use Rattle.camel_rows.specs.TdpRow.{max_service_key}
use Rattle.camel_rows.specs.Update.{update_imsi}
use Rattle.camel_rows.specs.declared.subscriber.update.Update.{Update}
use Rattle.camel_map.specs.Reading.{constructed, enumerated, integer, octet_string, primitive, sequence}
use Rattle.camel_map.specs.declared.operation.Operation.{Operation}
use Rattle.camel_criteria.specs.declared.refusal.Refusal.{Refusal}
use Rattle.camel_tbcd.specs.AddressString.{IsAddress, max_isdn_address_length}
use Rattle.camel_tbcd.specs.Imsi.{IsImsi}
use Rattle.camel_rows.specs.Subscriber.{StoredCsiData, SubscriberData, rows_of}
use Rattle.camel_rows.specs.declared.subscriber.update.Update.TheVariants as update
use Rattle.camel_map.specs.declared.operation.Operation.TheVariants as operation

-- An encoding of each update that an operation can say: fields in the order of TS 29.002, definite lengths, and numbers
-- and lengths in as few octets as hold them (ITU-T X.690).

-- a number in octets, the greatest place first, in as few as hold it below 2^32
abbrev pub octets_of : ℕ → List ℕ
octets_of number =
    if nat_lt number 256 then number ∷ []
    else if nat_lt number 65536 then number / 256 ∷ number % 256 ∷ []
    else if nat_lt number 16777216 then number / 65536 ∷ number / 256 % 256 ∷ number % 256 ∷ []
    else number / 16777216 ∷ number / 65536 % 256 ∷ number / 256 % 256 ∷ number % 256 ∷ []

-- a length below 2^32: itself below 128, or how many octets follow, and these
abbrev pub length_octets : ℕ → List ℕ
length_octets count = if nat_lt count 128 then count ∷ [] else (128 + length (octets_of count)) ∷ octets_of count

-- the octets of an element
abbrev pub encoding : ElementData → List ℕ
encoding one = one.identifier ++ (length_octets (length one.content) ++ one.content)

-- the octets of elements, one behind the other
unfoldable pub encodings : List ElementData → List ℕ
encodings [] = []
encodings (first ∷ more) = encoding first ++ encodings more

-- an element of an identifier octet with these contents
abbrev pub leaf : ℕ → List ℕ → ElementData
leaf identifier content = record { identifier = identifier ∷ []; content = content }

-- an element of an identifier octet whose contents are elements
abbrev pub parent : ℕ → List ElementData → ElementData
parent identifier parts = leaf identifier (encodings parts)

-- a field that may be absent
abbrev pub if_any : {A : Type 0} → (A → ElementData) → Option A → List ElementData
if_any element_of None = []
if_any element_of (Some value) = element_of value ∷ []

-- a list that is absent if it has no items
abbrev pub if_some : {A : Type 0} → ℕ → (A → ElementData) → List A → List ElementData
if_some identifier element_of [] = []
if_some identifier element_of (first ∷ more) = parent identifier (map element_of (first ∷ more)) ∷ []

-- the contents of an INTEGER or ENUMERATED below 2^31: bit 8 of the first octet is clear
abbrev pub number_octets : ℕ → List ℕ
number_octets number =
    if nat_lt number 128 then number ∷ []
    else if nat_lt number 32768 then number / 256 ∷ number % 256 ∷ []
    else if nat_lt number 8388608 then number / 65536 ∷ number / 256 % 256 ∷ number % 256 ∷ []
    else number / 16777216 ∷ number / 65536 % 256 ∷ number / 256 % 256 ∷ number % 256 ∷ []

-- TBCD octets of digits, with a filler behind an odd number of them
unfoldable pub tbcd_octets : List ℕ → List ℕ
tbcd_octets [] = []
tbcd_octets (last ∷ []) = (240 + last) ∷ []
tbcd_octets (low ∷ high ∷ more) = (high * 16 + low) ∷ tbcd_octets more

-- DefaultCallHandling
abbrev pub handling_number : Handling → ℕ
handling_number Continue = 0
handling_number Release = 1

-- a list of one item at least: in the place of none it has one that every receiver ignores
abbrev pub sent : {A : Type 0} → A → List A → List A
sent ignored [] = ignored ∷ []
sent ignored (first ∷ more) = first ∷ more

-- The detection point of that item is one of the other CSI: termAttemptAuthorized in an O-CSI, and collectedInfo in a
-- VT-CSI. TS 29.002 lists neither for the CSI that it is sent in, and both of its ENUMERATED types may be extended.
abbrev pub ignored_in_o : ℕ
ignored_in_o = 12

abbrev pub ignored_in_vt : ℕ
ignored_in_vt = 2

-- an item that is a SEQUENCE of its fields
abbrev pub item_element : {A : Type 0} → (A → List ElementData) → A → ElementData
item_element fields_of item = parent sequence (fields_of item)

-- a list of such items, as it is sent
abbrev pub list_element : {A : Type 0} → (A → List ElementData) → A → ℕ → List A → ElementData
list_element fields_of ignored identifier items = parent identifier (map (item_element fields_of) (sent ignored items))

-- O-BcsmCamelTDPData and T-BcsmCamelTDPData
abbrev pub row_fields : TdpRowData → List ElementData
row_fields row =
    leaf enumerated (number_octets row.dp)
    ∷ leaf integer (number_octets row.key)
    ∷ leaf (primitive 0) row.scf
    ∷ leaf (primitive 1) (handling_number row.handling ∷ [])
    ∷ []

-- the row that is sent for none: of a detection point that its CSI has not
abbrev pub ignored_row : ℕ → TdpRowData
ignored_row dp = record { dp = dp; key = 0; scf = 0 ∷ []; handling = Continue }

-- O-CSI and T-CSI, with the row that is sent for none
abbrev pub csi_element : TdpRowData → ℕ → List TdpRowData → ElementData
csi_element ignored identifier rows = parent identifier (list_element row_fields ignored sequence rows ∷ [])

-- MatchType
abbrev pub match_type_number : MatchType → ℕ
match_type_number Inhibiting = 0
match_type_number Enabling = 1

-- CallTypeCriteria
abbrev pub call_type_number : CallType → ℕ
call_type_number Forwarded = 0
call_type_number NotForwarded = 1

-- DestinationNumberCriteria
abbrev pub number_element : NumberCriterionData → ElementData
number_element criterion = parent (constructed 0) (
    leaf (primitive 0) (match_type_number criterion.match_type ∷ [])
    ∷ if_some (constructed 1) (leaf octet_string) criterion.numbers
    ++ if_some (constructed 2) (λ count. leaf integer (count ∷ [])) criterion.lengths
    )

-- Ext-BasicServiceCode
abbrev pub service_element : BasicService → ElementData
service_element (Bearer octet) = leaf (primitive 2) (octet ∷ [])
service_element (Tele octet) = leaf (primitive 3) (octet ∷ [])

-- CauseValue
abbrev pub cause_element : ℕ → ElementData
cause_element cause = leaf octet_string (cause ∷ [])

-- O-BcsmCamelTDP-Criteria
abbrev pub o_entry_fields : OCriteriaData → List ElementData
o_entry_fields entry =
    leaf enumerated (number_octets entry.dp)
    ∷ if_any number_element entry.number
    ++ if_some (constructed 1) service_element entry.basic
    ++ if_any (λ call_type. leaf (primitive 2) (call_type_number call_type ∷ [])) entry.call_type
    ++ if_some (constructed 3) cause_element entry.causes

-- T-BCSM-CAMEL-TDP-Criteria
abbrev pub t_entry_fields : TCriteriaData → List ElementData
t_entry_fields entry =
    leaf enumerated (number_octets entry.dp)
    ∷ if_some (constructed 0) service_element entry.basic
    ++ if_some (constructed 1) cause_element entry.causes

abbrev pub ignored_o_entry : OCriteriaData
ignored_o_entry = record { dp = ignored_in_o; number = None; basic = []; call_type = None; causes = [] }

abbrev pub ignored_t_entry : TCriteriaData
ignored_t_entry = record { dp = ignored_in_vt; basic = []; causes = [] }

-- the fields of VlrCamelSubscriptionInfo
abbrev pub camel_parts : Option (List TdpRowData) → Option (List OCriteriaData) → Option (List TdpRowData)
    → Option (List TCriteriaData) → List ElementData
camel_parts o o_criteria vt t_criteria =
    if_any (csi_element (ignored_row ignored_in_o) (constructed 0)) o
    ++ if_any (list_element o_entry_fields ignored_o_entry (constructed 4)) o_criteria
    ++ if_any (csi_element (ignored_row ignored_in_vt) (constructed 7)) vt
    ++ if_any (list_element t_entry_fields ignored_t_entry (constructed 8)) t_criteria

-- the specificCSI-Withdraw of the CSIs that a Delete names, if it names any
abbrev pub specific_parts : Bool → Bool → List ElementData
specific_parts false false = []
specific_parts true false = leaf (primitive 15) (0 ∷ 0x80 ∷ []) ∷ []
specific_parts false true = leaf (primitive 15) (0 ∷ 0x08 ∷ []) ∷ []
specific_parts true true = leaf (primitive 15) (0 ∷ 0x88 ∷ []) ∷ []

-- the camelSubscriptionInfoWithdraw of a Delete of everything
abbrev pub everything_parts : Bool → List ElementData
everything_parts false = []
everything_parts true = leaf (primitive 9) [] ∷ []

-- the argument of an operation
pub record Argument : Type 0 where
  pub operation : Operation
  pub element : ElementData

-- the operation that says an update, with its argument; there is none for a Register and a ClearAll
abbrev pub argument_of : Update → Option Argument
argument_of (update.Insert imsi o o_criteria vt t_criteria) = Some (record {
  operation = operation.InsertSubscriberData;
  element = parent sequence (
      leaf (primitive 0) (tbcd_octets imsi)
      ∷ parent (constructed 13) (camel_parts o o_criteria vt t_criteria)
      ∷ []
      );
})
argument_of (update.Delete imsi what) = Some (record {
  operation = operation.DeleteSubscriberData;
  element = parent sequence (
      leaf (primitive 0) (tbcd_octets imsi) ∷ everything_parts what.everything ++ specific_parts what.o what.vt
      );
})
argument_of (update.Cancel imsi) = Some (record {
  operation = operation.CancelLocation;
  element = parent (constructed 3) (leaf octet_string (tbcd_octets imsi) ∷ []);
})
argument_of (update.Register imsi) = None
argument_of update.ClearAll = None

-- octets are the encoding of an update, as the argument of an operation
pub record Encodes (which : Operation) (update : Update) (octets : List ℕ) : Type 0 where
  pub element : ElementData
  pub said : argument_of update ≡ Some (record { operation = which; element = element })
  pub spelled : octets ≡ encoding element

-- an update concerns the subscriber of a dialogue, if the dialogue has one
abbrev pub IsInDialogue : Option (List ℕ) → Update → Type 0
IsInDialogue dialogue update = IfSome dialogue (λ imsi. update_imsi update ≡ Some imsi)

-- Octets as they are written: from the last one to the first, since the length of an element stands in front of its
-- contents.

-- elements in front of octets
abbrev pub before : List ElementData → List ℕ → List ℕ
before [] rest = rest
before (first ∷ more) rest = encoding first ++ before more rest

-- the octets of an argument; none where there is none
abbrev pub argument_octets : Option Argument → List ℕ
argument_octets None = []
argument_octets (Some argument) = encoding argument.element

-- the operation that says an update, and the octets of its argument
abbrev pub operation_of_update : Update → Option Operation
operation_of_update update = option_map (λ argument. argument.operation) (argument_of update)

abbrev pub octets_of_update : Update → List ℕ
octets_of_update update = argument_octets (argument_of update)

-- The updates whose data are those that the constructors keep.

-- an octet
abbrev pub IsOctet : ℕ → Type 0
IsOctet value = value ≤ 255

-- a row of an octet, a service key and a gsmSCF address
pub record IsRow (row : TdpRowData) : Type 0 where
  pub dp : IsOctet row.dp
  pub key : row.key ≤ max_service_key
  pub scf : IsAddress max_isdn_address_length row.scf

-- a number criterion that its constructor keeps, of addresses
abbrev pub IsNumberCriterion : NumberCriterionData → Type 0
IsNumberCriterion criterion =
    (number_criterion_of criterion.match_type criterion.numbers criterion.lengths ≡ Ok criterion)
    × All (IsAddress max_isdn_address_length) criterion.numbers

-- an entry of the O-CSI of an octet, of a number criterion, and of what its constructor keeps
pub record IsOEntry (entry : OCriteriaData) : Type 0 where
  pub dp : IsOctet entry.dp
  pub number : IfSome entry.number IsNumberCriterion
  pub whole : o_criteria_of entry.dp entry.number entry.basic entry.call_type entry.causes ≡ Ok entry

-- an entry of the VT-CSI of an octet, and of what its constructor keeps
pub record IsTEntry (entry : TCriteriaData) : Type 0 where
  pub dp : IsOctet entry.dp
  pub whole : t_criteria_of entry.dp entry.basic entry.causes ≡ Ok entry

-- a list whose items are such, which a constructor keeps whole; it keeps none of a list of which all are ignored
abbrev pub IsKeptList : {A : Type 0} → (A → Type 0) → (List A → Result (List A) Refusal) → List A → Type 0
IsKeptList Is kept_of items = All Is items × ((items ≡ []) ⊎ (kept_of items ≡ Ok items))

-- an update of an IMSI, and of lists that are kept
abbrev pub IsKept : Update → Type 0
IsKept (update.Register imsi) = IsImsi imsi
IsKept (update.Insert imsi o o_criteria vt t_criteria) =
    IsImsi imsi
    × IfSome o (IsKeptList IsRow o_csi_of)
    × IfSome o_criteria (IsKeptList IsOEntry o_criteria_set_of)
    × IfSome vt (IsKeptList IsRow vt_csi_of)
    × IfSome t_criteria (IsKeptList IsTEntry t_criteria_set_of)
IsKept (update.Delete imsi what) = IsImsi imsi
IsKept (update.Cancel imsi) = IsImsi imsi
IsKept update.ClearAll = Unit {0}

-- The Insert that makes a record, where a subscriber has just registered.

-- entries, if there are any
abbrev pub some_entries : {Entry : Type 0} → List Entry → Option (List Entry)
some_entries [] = None
some_entries (first ∷ more) = Some (first ∷ more)

-- an Insert without lists of criteria that have no entries
abbrev pub with_some_entries : Update → Update
with_some_entries (update.Insert imsi o o_criteria vt t_criteria) =
    update.Insert imsi o (option_and_then some_entries o_criteria) vt (option_and_then some_entries t_criteria)
with_some_entries other = other

-- the criteria that are sent with a CSI: none if it has no entries
abbrev pub sent_criteria : {Entry : Type 0} → Option (StoredCsiData Entry) → Option (List Entry)
sent_criteria csi = option_and_then (λ csi. some_entries csi.entries) csi

-- each CSI that is stored, with its criteria
abbrev pub insert_of_record : List ℕ → SubscriberData → Update
insert_of_record imsi subscriber =
    update.Insert imsi (option_map rows_of subscriber.o) (sent_criteria subscriber.o) (option_map rows_of subscriber.vt)
    (sent_criteria subscriber.vt)
