-- What the fields of the types of C stand for that several of them have.
use Rattle.std.specs.Prelude.{ℕ, ◌≡◌, Option, Some, None, Result, Ok, Err, ◌==◌, Bool, not, if◌then◌else◌, nat_le, List}
use Rattle.std.specs.Prelude.{length, take, ◌&&◌}
use Rattle.camel_criteria.specs.Refusal.{refusal_code}
use Rattle.camel_criteria.specs.declared.refusal.Refusal.TheVariants.{OutOfMemory}
use Rattle.camel_c_data.specs.declared.data_fault.DataFault.{DataFault}
use Rattle.camel_c_data.specs.declared.data_fault.DataFault.TheVariants.{Malformed, Refused}
use Rattle.camel_criteria.specs.declared.refusal.Refusal.{Refusal}
use Rattle.camel_tbcd.specs.AddressString.{max_address_length, max_isdn_address_length}
use Rattle.camel_c_data.specs.declared.address.CamelAddress.{CamelAddress}
use Rattle.camel_c_data.specs.declared.address.CamelIsdnAddress.{CamelIsdnAddress}
use Rattle.camel_tbcd.specs.Imsi.{imsi_of, digits_of_number, imsi_number}
use Rattle.camel_reading.specs.Reading.{◌>>=◌}
use Rattle.camel_c_data.specs.declared.imsi.CamelImsi.{CamelImsi}
use Rattle.camel_criteria.specs.declared.basic_service.BasicService.{BasicService}
use Rattle.camel_criteria.specs.declared.basic_service.BasicService.TheVariants.{Tele, Bearer}
use Rattle.camel_c_data.specs.declared.basic_service.CamelBasicService.{CamelBasicService}

-- The numbers of the faults of data.

abbrev pub data_fault_code : DataFault → ℕ
data_fault_code Malformed = 502
data_fault_code (Refused refusal) = refusal_code refusal

-- memory is refused
abbrev pub out_of_memory : DataFault
out_of_memory = Refused OutOfMemory

-- The reading of fields in steps, each of which may end it with a fault.

-- the fault says that memory was refused
abbrev pub IsMemory : DataFault → Type 0
IsMemory fault = fault ≡ out_of_memory

-- a value, or malformed where there is none
abbrev pub some_or_malformed : {A : Type 0} → Option A → Result A DataFault
some_or_malformed None = Err Malformed
some_or_malformed (Some value) = Ok value

-- a value, or malformed where it has a fault of its own
abbrev pub ok_or_malformed : {A E : Type 0} → Result A E → Result A DataFault
ok_or_malformed (Ok value) = Ok value
ok_or_malformed (Err fault) = Err Malformed

-- data that may be refused
abbrev pub or_refused : {A : Type 0} → Result A Refusal → Result A DataFault
or_refused (Ok value) = Ok value
or_refused (Err refusal) = Err (Refused refusal)

-- A bool of C, as an octet.

-- any octet but 0 is true
abbrev pub is_set : ℕ → Bool
is_set octet = not (octet == 0)

-- the octet that is written
abbrev pub flag_of : Bool → ℕ
flag_of told = if told then 1 else 0

-- The items of a room that are counted.

-- the first items of a room; malformed, if it has fewer
abbrev pub first_items : {A : Type 0} → ℕ → List A → Result (List A) DataFault
first_items count room = if nat_le count (length room) then Ok (take count room) else Err Malformed

-- An address by the count of its octets and a room that begins with them.

-- the address of so many octets, at least one and at most so many
abbrev pub address_in : ℕ → ℕ → List ℕ → Result (List ℕ) DataFault
address_in most count octets = if nat_le 1 count && nat_le count most then Ok (take count octets) else Err Malformed

-- the AddressString that the fields are
unfoldable pub call_address_in : CamelAddress → Result (List ℕ) DataFault
call_address_in address = address_in max_address_length address.length address.octets

-- the ISDN-AddressString that the fields are
unfoldable pub isdn_address_in : CamelIsdnAddress → Result (List ℕ) DataFault
isdn_address_in address = address_in max_isdn_address_length address.length address.octets

-- An IMSI by its number, as a C caller keeps it.

-- an IMSI, if this is its number
abbrev pub with_number : ℕ → List ℕ → Result (List ℕ) DataFault
with_number number imsi = if imsi_number imsi == number then Ok imsi else Err Malformed

-- the IMSI of which this is the number
unfoldable pub imsi_in : CamelImsi → Result (List ℕ) DataFault
imsi_in held = ok_or_malformed (imsi_of (digits_of_number held.number)) >>= with_number held.number

-- A basic service by its kind and its code.

-- the basic service that the fields are
abbrev pub basic_service_in : CamelBasicService → BasicService
basic_service_in service = if is_set service.is_bearer then Bearer service.code else Tele service.code
