-- The operations, their arguments, and the updates that these say (TS 29.002).
use Rattle.std.specs.Prelude.{ℕ, ◌==◌, Option, Some, None, if◌then◌else◌, Bool, true, false, ◌&&◌, ◌||◌, ◌/◌, ◌%◌, ◌+◌}
use Rattle.std.specs.Prelude.{◌*◌, ◌-◌, nat_le, nat_lt, List, length, slice_index, Result, Ok, [], ◌∷◌}
use Rattle.camel_criteria.specs.Refusal.{refusal_code}
use Rattle.camel_map.specs.declared.join.JoinFault.{JoinFault}
use Rattle.camel_map.specs.declared.join.JoinFault.TheVariants.{NoInsert, OtherSubscriber}
use Rattle.camel_map.specs.declared.map_fault.MapFaultKind.{MapFaultKind}
use Rattle.camel_map.specs.declared.map_fault.MapFaultKind.TheVariants.{Malformed, MissingField, FieldTwice, WrongTag}
use Rattle.camel_map.specs.declared.map_fault.MapFaultKind.TheVariants.{WrongLength, NoImsi, OtherImsi, Refused}
use Rattle.camel_map.specs.declared.operation.Operation.{Operation}
use Rattle.camel_map.specs.declared.operation.Operation.TheVariants.{CancelLocation, DeleteSubscriberData}
use Rattle.camel_map.specs.declared.operation.Operation.TheVariants.{InsertSubscriberData}
use Rattle.camel_ber.specs.Elements.{PlacedData, ◌>>=◌, OctetsData}
use Rattle.camel_rows.specs.declared.subscriber.update.Withdrawal.{Withdrawal}
use Rattle.camel_map.specs.Reading.{fails_at, field_of, identified, is_identified, mandatory, constructed, octet_string}
use Rattle.camel_map.specs.Reading.{primitive, sequence, imsi_or_of_dialogue, own_imsi, contents, elements_in}
use Rattle.camel_map.specs.declared.map_fault.MapFault.{MapFault}
use Rattle.camel_rows.specs.declared.subscriber.update.Update.{Update}
use Rattle.camel_map.specs.Arrival.{bare, insert_of}
use Rattle.camel_map.specs.Csi.{o_lists_in, vt_lists_in, first_of}
use Rattle.camel_map.specs.declared.arrival.Arrival.{Arrival}
use Rattle.camel_map.specs.declared.join.JoinFault.TheVariants as join
use Rattle.camel_rows.specs.declared.subscriber.update.Update.TheVariants as update
use Rattle.camel_map.specs.declared.operation.Operation.TheVariants as operation

-- The numbers of the faults of arguments: from 401 on the product's own, and those of the refusals of data.

-- why two arrivals are not joined
abbrev pub join_fault_code : JoinFault → ℕ
join_fault_code NoInsert = 408
join_fault_code OtherSubscriber = 409
join_fault_code (join.Refused refusal) = refusal_code refusal

abbrev pub map_fault_code : MapFaultKind → ℕ
map_fault_code (Malformed kind) = 401
map_fault_code MissingField = 402
map_fault_code FieldTwice = 403
map_fault_code WrongTag = 404
map_fault_code WrongLength = 405
map_fault_code NoImsi = 406
map_fault_code OtherImsi = 407
map_fault_code (Refused refusal) = refusal_code refusal

-- The local codes of the operations (TS 29.002).

abbrev pub operation_code : Operation → ℕ
operation_code CancelLocation = 3
operation_code InsertSubscriberData = 7
operation_code DeleteSubscriberData = 8

-- the operation of a code
abbrev pub operation_of : ℕ → Option Operation
operation_of code =
    if code == 3 then Some CancelLocation
    else if code == 7 then Some InsertSubscriberData
    else if code == 8 then Some DeleteSubscriberData
    else None

-- What DeleteSubscriberData names (TS 29.002): all CSIs by camelSubscriptionInfoWithdraw, one by specificCSI-Withdraw.

-- NULL has no contents
abbrev pub null_in : PlacedData → Result Bool MapFault
null_in placed = if length placed.element.content == 0 then Ok true else fails_at placed.place WrongLength

-- whether a NULL is there
abbrev pub is_named : Option PlacedData → Result Bool MapFault
is_named None = Ok false
is_named (Some field) = null_in field

-- how many bits of a BIT STRING are not used, which its first contents octet says
abbrev pub unused_bits : List ℕ → ℕ
unused_bits content = slice_index content 0

-- a BIT STRING has a first octet of 0 to 7, and of 0 if there are no bits
abbrev pub is_bit_string : List ℕ → Bool
is_bit_string content =
    nat_le 1 (length content)
    && (nat_le (unused_bits content) 7 && (nat_le 2 (length content) || unused_bits content == 0))

-- one of the first eight bits, from 0 on, is set: it is there, and 1
abbrev pub is_bit_set : ℕ → ℕ → List ℕ → Bool
is_bit_set bit weight content =
    nat_lt (bit + unused_bits content) (8 * (length content - 1)) && slice_index content 1 / weight % 2 == 1

-- specificCSI-Withdraw: bit 0 is the O-CSI and bit 4 the VT-CSI; the others are of no CSI that is stored
unfoldable pub withdrawal_in : Bool → PlacedData → Result Withdrawal MapFault
withdrawal_in everything placed =
    if is_bit_string placed.element.content
    then Ok (record {
      o = is_bit_set 0 128 placed.element.content;
      vt = is_bit_set 4 8 placed.element.content;
      everything = everything;
    })
    else fails_at placed.place WrongLength

-- what DeleteSubscriberData names, by specificCSI-Withdraw if it is there
abbrev pub withdrawal_with : Bool → Option PlacedData → Result Withdrawal MapFault
withdrawal_with everything None = Ok (record { o = false; vt = false; everything = everything })
withdrawal_with everything (Some field) = withdrawal_in everything field

-- What an argument brings: InsertSubscriberDataArg, DeleteSubscriberDataArg and CancelLocationArg of TS 29.002.

-- the fields of VlrCamelSubscriptionInfo; without it, none
abbrev pub camel_fields : Option PlacedData → Result (List PlacedData) MapFault
camel_fields None = Ok []
camel_fields (Some field) = elements_in (contents field)

-- the Insert of an IMSI and of the fields of VlrCamelSubscriptionInfo
unfoldable pub insert_of_fields : List ℕ → List PlacedData → Result Arrival MapFault
insert_of_fields imsi fields = do
  o ← o_lists_in fields
  vt ← vt_lists_in fields
  Ok (insert_of imsi o vt)

-- InsertSubscriberDataArg: imsi [0] and vlrCamelSubscriptionInfo [13], each if it is there
unfoldable pub insert_in : Option (List ℕ) → PlacedData → Result Arrival MapFault
insert_in dialogue element = do
  argument ← identified sequence element
  fields ← elements_in (contents argument)
  imsi ← field_of (primitive 0) fields >>= imsi_or_of_dialogue argument dialogue
  camel ← field_of (constructed 13) fields >>= camel_fields
  insert_of_fields imsi camel

-- DeleteSubscriberDataArg: imsi [0], and each of camelSubscriptionInfoWithdraw [9] and specificCSI-Withdraw [15] if it is
-- there
unfoldable pub delete_in : Option (List ℕ) → PlacedData → Result Update MapFault
delete_in dialogue element = do
  argument ← identified sequence element
  fields ← elements_in (contents argument)
  imsi ← mandatory argument (primitive 0) fields >>= own_imsi dialogue
  everything ← field_of (primitive 9) fields >>= is_named
  what ← field_of (primitive 15) fields >>= withdrawal_with everything
  Ok (update.Delete imsi what)

-- the IMSI of a SEQUENCE of an IMSI and an LMSI
unfoldable pub imsi_of_pair : Option (List ℕ) → PlacedData → Result (List ℕ) MapFault
imsi_of_pair dialogue pair = do
  elements ← elements_in (contents pair)
  imsi ← first_of pair elements >>= identified octet_string
  own_imsi dialogue imsi

-- Identity: an IMSI, or one with an LMSI
unfoldable pub identity_in : Option (List ℕ) → PlacedData → Result (List ℕ) MapFault
identity_in dialogue identity =
    if is_identified sequence identity then imsi_of_pair dialogue identity
    else (identified octet_string identity >>= own_imsi dialogue)

-- the first element of CancelLocationArg [3], as it is from version 3 on
unfoldable pub first_identity_in : Option (List ℕ) → PlacedData → Result (List ℕ) MapFault
first_identity_in dialogue argument = do
  elements ← elements_in (contents argument)
  identity ← first_of argument elements
  identity_in dialogue identity

-- the IMSI of CancelLocationArg; before version 3 the argument is the identity
unfoldable pub cancelled_in : Option (List ℕ) → PlacedData → Result (List ℕ) MapFault
cancelled_in dialogue argument =
    if is_identified (constructed 3) argument then first_identity_in dialogue argument
    else identity_in dialogue argument

-- CancelLocationArg
unfoldable pub cancel_in : Option (List ℕ) → PlacedData → Result Update MapFault
cancel_in dialogue argument = cancelled_in dialogue argument >>= λ imsi. Ok (update.Cancel imsi)

-- an argument is one element, and no octet follows it
abbrev pub one_of : ℕ → List PlacedData → Result PlacedData MapFault
one_of place [] = fails_at place MissingField
one_of place (argument ∷ []) = Ok argument
one_of place (argument ∷ next ∷ more) = fails_at next.place WrongLength

-- what the argument element of an operation brings
abbrev pub arrival_in : Operation → Option (List ℕ) → PlacedData → Result Arrival MapFault
arrival_in operation.InsertSubscriberData dialogue argument = insert_in dialogue argument
arrival_in operation.DeleteSubscriberData dialogue argument = delete_in dialogue argument >>= λ update. Ok (bare update)
arrival_in operation.CancelLocation dialogue argument = cancel_in dialogue argument >>= λ update. Ok (bare update)

-- what octets bring, as the argument of an operation in a dialogue
unfoldable pub arrival_of : Operation → Option (List ℕ) → OctetsData → Result Arrival MapFault
arrival_of which dialogue octets = elements_in octets >>= one_of 0 >>= arrival_in which dialogue

-- the update that they are
abbrev pub update_of : Operation → Option (List ℕ) → OctetsData → Result Update MapFault
update_of which dialogue octets = arrival_of which dialogue octets >>= λ arrival. Ok arrival.update
