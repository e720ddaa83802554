-- The reading of an argument of MAP (TS 29.002, encoded as in ITU-T X.690): fields, lists and values, each of which may
-- end it with a fault.
use Rattle.std.specs.Prelude.{◌≡◌, ℕ, List, length, Option, Result, Ok, Err, ◌+◌, Bool, ◌==◌, ◌&&◌, ◌/◌, ◌%◌, [], ◌∷◌}
use Rattle.std.specs.Prelude.{filter, slice_index, Some, None, if◌then◌else◌, min, nat_le}
use Rattle.std.specs.Option.{option_map}
use Rattle.std.specs.Str.{bytes_eq}
use Rattle.camel_ber.specs.Elements.{OctetsData, PlacedData, series_of, view, ◌>>=◌, value_of}
use Rattle.camel_ber.specs.declared.element.Element.{Element}
use Rattle.camel_ber.specs.declared.fault.Fault.{Fault}
use Rattle.camel_ber.specs.declared.fault.ReadError.{ReadError}
use Rattle.camel_criteria.specs.declared.refusal.Refusal.{Refusal}
use Rattle.camel_criteria.specs.declared.refusal.Refusal.TheVariants.{OutOfMemory, UnexpectedDataValue, DataMissing}
use Rattle.camel_map.specs.declared.map_fault.MapFault.{MapFault}
use Rattle.camel_map.specs.declared.map_fault.MapFaultKind.{MapFaultKind}
use Rattle.camel_map.specs.declared.map_fault.MapFaultKind.TheVariants.{Malformed, Refused, FieldTwice, MissingField}
use Rattle.camel_map.specs.declared.map_fault.MapFaultKind.TheVariants.{WrongTag, WrongLength, NoImsi, OtherImsi}
use Rattle.camel_criteria.specs.declared.basic_service.BasicService.{BasicService}
use Rattle.camel_criteria.specs.declared.basic_service.BasicService.TheVariants.{Bearer, Tele}
use Rattle.camel_criteria.specs.declared.criteria.CallType.{CallType}
use Rattle.camel_criteria.specs.declared.criteria.CallType.TheVariants.{Forwarded, NotForwarded}
use Rattle.camel_criteria.specs.declared.criteria.MatchType.{MatchType}
use Rattle.camel_criteria.specs.declared.criteria.MatchType.TheVariants.{Enabling, Inhibiting}
use Rattle.camel_tbcd.specs.AddressString.{max_isdn_address_length}
use Rattle.camel_reading.specs.Reading.{each_of}
use Rattle.camel_map.specs.declared.items.ReceivedList.{ReceivedList}
use Rattle.camel_tbcd.specs.Imsi.{imsi_of_tbcd}
use Rattle.camel_ber.specs.declared.fault.ReadError.TheVariants as errors

-- The reading of an argument in steps, each of which may end it with a fault at a place in the argument.

-- the fault says that memory was refused
abbrev pub IsMemory : MapFault → Type 0
IsMemory fault = fault.kind ≡ Refused OutOfMemory

-- the fault of a reading for which memory was refused
abbrev pub out_of_memory : MapFault
out_of_memory = record { kind = Refused OutOfMemory; place = 0 }

-- the fault of octets that could not be read as elements
abbrev pub fault_of_error : ReadError → MapFault
fault_of_error errors.Memory = out_of_memory
fault_of_error (errors.Fault fault) = record { kind = Malformed fault.kind; place = fault.place }

-- how deep indefinite lengths may stand within one another
abbrev pub max_depth : ℕ
max_depth = 16

-- a reading that ends with a fault at a place
abbrev pub fails_at : {A : Type 0} → ℕ → MapFaultKind → Result A MapFault
fails_at place kind = Err (record { kind = kind; place = place })

-- data that may be refused, and then at a place
abbrev pub or_refused_at : {A : Type 0} → ℕ → Result A Refusal → Result A MapFault
or_refused_at place (Ok value) = Ok value
or_refused_at place (Err refusal) = fails_at place (Refused refusal)

-- elements that may be malformed
abbrev pub or_malformed : {A : Type 0} → Result A Fault → Result A MapFault
or_malformed (Ok value) = Ok value
or_malformed (Err fault) = fails_at fault.place (Malformed fault.kind)

-- the elements that octets are
abbrev pub elements_in : OctetsData → Result (List PlacedData) MapFault
elements_in octets = or_malformed (series_of max_depth octets)

-- the contents of an element
abbrev pub contents : PlacedData → OctetsData
contents placed = record { bytes = placed.element.content; end = placed.end }

-- a function lends the element that a reading gives
abbrev pub LendsElement : Result Element MapFault → Result PlacedData MapFault → Type 0
LendsElement (Ok element) reading = reading ≡ Ok (view element)
LendsElement (Err fault) reading = reading ≡ Err fault

-- a function lends the field that a reading gives, if there is any
abbrev pub LendsField : Result (Option Element) MapFault → Result (Option PlacedData) MapFault → Type 0
LendsField (Ok field) reading = reading ≡ Ok (option_map view field)
LendsField (Err fault) reading = reading ≡ Err fault

-- octets that are a whole argument
abbrev pub whole : List ℕ → OctetsData
whole octets = record { bytes = octets; end = length octets }

-- The identifier octets of the types and fields that are read (TS 29.002, encoded as in ITU-T X.690): bits 8 and 7 are
-- the class, bit 6 says that the contents are elements, and bits 5 to 1 are the tag number.

abbrev pub integer : ℕ
integer = 0x02

abbrev pub octet_string : ℕ
octet_string = 0x04

abbrev pub enumerated : ℕ
enumerated = 0x0a

-- of SEQUENCE, and of SEQUENCE OF
abbrev pub sequence : ℕ
sequence = 0x30

-- a field of this tag number, 0 to 30, whose contents are octets
abbrev pub primitive : ℕ → ℕ
primitive number = 0x80 + number

-- a field of this tag number, 0 to 30, whose contents are elements
abbrev pub constructed : ℕ → ℕ
constructed number = 0xa0 + number

-- The fields of a SEQUENCE, by their tags, in whatever order they come. Those that no definition names are skipped.

-- the identifier is this octet
abbrev pub is_identified : ℕ → PlacedData → Bool
is_identified octet placed = length placed.element.identifier == 1 && slice_index placed.element.identifier 0 == octet

-- two identifier octets are of one class and one tag number
abbrev pub same_tag : ℕ → ℕ → Bool
same_tag one other = one / 64 == other / 64 && one % 32 == other % 32

-- the tag is that of this identifier octet
abbrev pub is_tagged : ℕ → PlacedData → Bool
is_tagged octet placed =
    length placed.element.identifier == 1 && same_tag (slice_index placed.element.identifier 0) octet

-- an element that has this identifier, and else a wrong tag
abbrev pub identified : ℕ → PlacedData → Result PlacedData MapFault
identified octet placed = if is_identified octet placed then Ok placed else fails_at placed.place WrongTag

-- the one field among those of a tag, if there is any
abbrev pub only_field : ℕ → List PlacedData → Result (Option PlacedData) MapFault
only_field octet [] = Ok None
only_field octet (field ∷ []) = identified octet field >>= λ field. Ok (Some field)
only_field octet (field ∷ again ∷ more) = fails_at again.place FieldTwice

-- the field of this identifier octet, if it is there
unfoldable pub field_of : ℕ → List PlacedData → Result (Option PlacedData) MapFault
field_of octet fields = only_field octet (filter (is_tagged octet) fields)

-- what is there, or a missing field at a place
abbrev pub present_at : {A : Type 0} → ℕ → Option A → Result A MapFault
present_at place None = fails_at place MissingField
present_at place (Some value) = Ok value

-- the field that an element must have among its fields
unfoldable pub mandatory : PlacedData → ℕ → List PlacedData → Result PlacedData MapFault
mandatory element octet fields = field_of octet fields >>= present_at element.place

-- what a field is, if it is there
abbrev pub if_present : {A : Type 0} → (PlacedData → Result A MapFault) → Option PlacedData → Result (Option A) MapFault
if_present value_of None = Ok None
if_present value_of (Some field) = value_of field >>= λ value. Ok (Some value)

-- the list that a field is; absent, it has no items
abbrev pub if_listed : {A : Type 0} → (PlacedData → Result (List A) MapFault) → Option PlacedData
    → Result (List A) MapFault
if_listed value_of None = Ok []
if_listed value_of (Some field) = value_of field

-- What the contents of a primitive element stand for (TS 29.002, encoded as in ITU-T X.690). Which faults they have,
-- and that a value over the greatest that is told apart is taken as that one, is this product's own.

-- a value is refused at a place
abbrev pub refused_at : {A : Type 0} → ℕ → Result A MapFault
refused_at place = fails_at place (Refused UnexpectedDataValue)

-- the greatest value of an INTEGER or ENUMERATED that is told apart: a greater one is taken as it
abbrev pub greatest : ℕ
greatest = 4294967295

-- an INTEGER or ENUMERATED, in two's complement: one below 0 is refused
unfoldable pub unsigned_in : PlacedData → Result ℕ MapFault
unsigned_in placed =
    if length placed.element.content == 0 then fails_at placed.place WrongLength
    else if nat_le 128 (slice_index placed.element.content 0) then refused_at placed.place
    else Ok (min (value_of placed.element.content) greatest)

-- a detection point is none of the CSIs' if it is below 0 or over 255, as 255 is
unfoldable pub detection_point_in : PlacedData → Result ℕ MapFault
detection_point_in placed =
    if length placed.element.content == 0 then fails_at placed.place WrongLength
    else if nat_le 128 (slice_index placed.element.content 0) then Ok 255
    else Ok (min (value_of placed.element.content) 255)

-- a listed length: one over 255 is as far out of range as 255 is
unfoldable pub length_in : PlacedData → Result ℕ MapFault
length_in placed = identified integer placed >>= unsigned_in >>= λ value. Ok (min value 255)

-- MatchType
unfoldable pub match_type_in : PlacedData → Result MatchType MapFault
match_type_in placed = unsigned_in placed >>= λ value.
    if value == 0 then Ok Inhibiting else if value == 1 then Ok Enabling else refused_at placed.place

-- CallTypeCriteria
unfoldable pub call_type_in : PlacedData → Result CallType MapFault
call_type_in placed = unsigned_in placed >>= λ value.
    if value == 0 then Ok Forwarded else if value == 1 then Ok NotForwarded else refused_at placed.place

-- ISDN-AddressString
unfoldable pub isdn_address_in : PlacedData → Result (List ℕ) MapFault
isdn_address_in placed =
    if nat_le 1 (length placed.element.content) && nat_le (length placed.element.content) max_isdn_address_length
    then Ok placed.element.content
    else refused_at placed.place

-- a listed number
unfoldable pub number_in : PlacedData → Result (List ℕ) MapFault
number_in placed = identified octet_string placed >>= isdn_address_in

-- CauseValue: one octet, of which bit 8 says nothing
unfoldable pub cause_in : PlacedData → Result ℕ MapFault
cause_in placed = identified octet_string placed >>= λ cause.
    if length cause.element.content == 1 then Ok (slice_index cause.element.content 0 % 128)
    else fails_at cause.place WrongLength

-- the first of the one to five octets of a code
unfoldable pub service_code_in : PlacedData → Result ℕ MapFault
service_code_in placed =
    if nat_le 1 (length placed.element.content) && nat_le (length placed.element.content) 5
    then Ok (slice_index placed.element.content 0)
    else fails_at placed.place WrongLength

-- Ext-BasicServiceCode: ext-BearerService [2] or ext-Teleservice [3]
unfoldable pub basic_service_in : PlacedData → Result BasicService MapFault
basic_service_in placed =
    if is_identified (primitive 2) placed then (service_code_in placed >>= λ octet. Ok (Bearer octet))
    else if is_identified (primitive 3) placed then (service_code_in placed >>= λ octet. Ok (Tele octet))
    else fails_at placed.place WrongTag

-- The items of a SEQUENCE OF. That a list without items is refused, as TS 29.002 gives each at least one, is this
-- product's own.

-- the items of a list that has any
abbrev pub some_of : PlacedData → List PlacedData → Result (List PlacedData) MapFault
some_of list [] = fails_at list.place (Refused DataMissing)
some_of list (first ∷ more) = Ok (first ∷ more)

-- what the items of a list are
unfoldable pub items_as : {A : Type 0} → (PlacedData → Result A MapFault) → PlacedData → Result (List A) MapFault
items_as value_of list = elements_in (contents list) >>= some_of list >>= each_of value_of

-- an item that is a SEQUENCE, by what its fields are
unfoldable pub item_in : {A : Type 0} → (PlacedData → List PlacedData → Result A MapFault) → PlacedData → Result A MapFault
item_in of_fields item = do
  item ← identified sequence item
  fields ← elements_in (contents item)
  of_fields item fields

-- a list that came: the items that are kept of those that are received, and how many those are
unfoldable pub received_as : {A : Type 0} → (PlacedData → Result A MapFault) → (List A → Result (List A) Refusal)
    → PlacedData → Result (ReceivedList (List A)) MapFault
received_as value_of kept_of list = do
  items ← items_as value_of list
  kept ← or_refused_at list.place (kept_of items)
  Ok (record { kept = kept; count = length items })

-- The IMSI that an argument concerns (TS 29.002): its own, or that of the dialogue; if both are there, they are equal.

-- the IMSI of TBCD octets
unfoldable pub imsi_in : PlacedData → Result (List ℕ) MapFault
imsi_in placed = elim (imsi_of_tbcd placed.element.content) [ Ok imsi ↦ Ok imsi | Err fault ↦ refused_at placed.place ]

-- the IMSI of an element, which is that of the dialogue if the dialogue has one
unfoldable pub own_imsi : Option (List ℕ) → PlacedData → Result (List ℕ) MapFault
own_imsi None placed = imsi_in placed
own_imsi (Some dialogue) placed = imsi_in placed >>= λ imsi.
    if bytes_eq imsi dialogue then Ok imsi else fails_at placed.place OtherImsi

-- the IMSI of an argument that may leave it to the dialogue
unfoldable pub imsi_or_of_dialogue : PlacedData → Option (List ℕ) → Option PlacedData → Result (List ℕ) MapFault
imsi_or_of_dialogue argument dialogue (Some field) = own_imsi dialogue field
imsi_or_of_dialogue argument (Some dialogue) None = Ok dialogue
imsi_or_of_dialogue argument None None = fails_at argument.place NoImsi
