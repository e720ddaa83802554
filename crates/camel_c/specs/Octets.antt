-- Arguments of MAP as C has them: what is read of their octets, and their submission.
use Rattle.std.specs.Prelude.{◌≡◌, ◌≢◌, ◌⊎◌, ◌==◌, ℕ, List, Option, Some, None, Result, Ok, Err, IsOk, if◌then◌else◌}
use Rattle.camel_ber.specs.Elements.{◌>>=◌}
use Rattle.camel_map.specs.Update.{map_fault_code, operation_of, arrival_of, update_of}
use Rattle.camel_map.specs.Reading.{whole}
use Rattle.camel_map.specs.declared.arrival.Arrival.{Arrival}
use Rattle.camel_map.specs.declared.map_fault.MapFault.{MapFault}
use Rattle.camel_map.specs.declared.operation.Operation.{Operation}
use Rattle.camel_c_data.specs.Fields.{imsi_in}
use Rattle.camel_c_data.specs.declared.imsi.CamelImsi.{CamelImsi}
use Rattle.camel_c.specs.declared.object.Object.{Object}
use Rattle.camel_c.specs.declared.update.octets.OctetsFault.{OctetsFault}
use Rattle.camel_c.specs.declared.update.octets.OctetsFault.TheVariants.{Argument, Malformed, OutOfMemory}
use Rattle.camel_rows.specs.declared.subscriber.update.Update.{Update}
use Rattle.camel_c.specs.Submission.{ReadsAndSubmits}

-- The octets of an argument of MAP as they are read, and as a call takes them.

-- the number of a fault
abbrev pub octets_fault_code : OctetsFault → ℕ
octets_fault_code Malformed = 502
octets_fault_code OutOfMemory = 102
octets_fault_code (Argument fault) = map_fault_code fault.kind

-- what is told as a place where no octet of the argument is at fault: the greatest number of 64 bits
abbrev pub no_octet : ℕ
no_octet = 18446744073709551615

-- the octet of the argument at which a fault is; what is no fault of the argument is at none
abbrev pub octets_fault_place : OctetsFault → ℕ
octets_fault_place Malformed = no_octet
octets_fault_place OutOfMemory = no_octet
octets_fault_place (Argument fault) = fault.place

-- the operation of a code
abbrev pub operation_in : ℕ → Result Operation OctetsFault
operation_in code = elim (operation_of code) [ None ↦ Err Malformed | Some operation ↦ Ok operation ]

-- the IMSI of a dialogue, of which the number 0 says that it has none
abbrev pub dialogue_in : CamelImsi → Result (Option (List ℕ)) OctetsFault
dialogue_in held =
    if held.number == 0 then Ok None
    else elim (imsi_in held) [ Ok imsi ↦ Ok (Some imsi) | Err fault ↦ Err Malformed ]

-- a fault is one of the argument
abbrev pub in_argument : {A : Type 0} → Result A MapFault → Result A OctetsFault
in_argument (Ok value) = Ok value
in_argument (Err fault) = Err (Argument fault)

-- what octets bring, as the argument of the operation of a code in the dialogue of an IMSI
unfoldable pub arrival_in : ℕ → CamelImsi → List ℕ → Result Arrival OctetsFault
arrival_in code imsi argument = do
  operation ← operation_in code
  dialogue ← dialogue_in imsi
  in_argument (arrival_of operation dialogue (whole argument))

-- a function returns what its octets are, or is out of memory
abbrev pub ReadsOctets : {A : Type 0} → Result A OctetsFault → Result A OctetsFault → Type 0
ReadsOctets (Ok value) reading = reading ≡ Ok value
ReadsOctets (Err fault) reading = (fault ≡ OutOfMemory) ⊎ (reading ≡ Err fault)

-- A call takes octets that read so, and changes what a handle held before; this is the status, and this the place that is
-- told. Memory may be refused (102) while the octets are read, and while the call takes what they are.
pub record TakesOctets {A : Type 0} (Takes : A → Type 0) (reading : Result A OctetsFault) (status place : ℕ)
    (before after : Option Object) : Type 0 where
  -- what is taken is what the octets are
  pub taken : status ≡ 0 → IsOk reading
  pub unchanged : status ≢ 0 → after ≡ before
  -- the octets have no fault, and none is told
  pub value : (value : A) → reading ≡ Ok value → Takes value × (place ≡ no_octet)
  -- the octets have one
  pub faulty : (fault : OctetsFault) → reading ≡ Err fault
      → ((status ≡ octets_fault_code fault) × (place ≡ octets_fault_place fault)) ⊎ ((status ≡ 102) × (place ≡ no_octet))

-- Submissions of the octets of an argument of MAP: the update that they are, and what the store makes of it.

-- the update that octets are, as the argument of the operation of a code in the dialogue of an IMSI
unfoldable pub octets_in : ℕ → CamelImsi → List ℕ → Result Update OctetsFault
octets_in code imsi argument = do
  operation ← operation_in code
  dialogue ← dialogue_in imsi
  in_argument (update_of operation dialogue (whole argument))

-- the update that came
abbrev pub update_read : Result Arrival OctetsFault → Result Update OctetsFault
update_read reading = reading >>= λ arrival. Ok arrival.update

-- Octets that read so are submitted to what a handle held before, as an update of fields is; this is the status, and this
-- the place that is told.
abbrev pub SubmitsOctets : Result Update OctetsFault → ℕ → ℕ → Option Object → Option Object → Type 0
SubmitsOctets reading status place before after =
    TakesOctets (λ update. ReadsAndSubmits (Ok update) status before after) reading status place before after
