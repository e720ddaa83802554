use Rattle.std.proofs.Common.{ℕ, List, IfOk, Option, Result, Ok, Err, inl, inr, ap, subst}
use Rattle.camel_ber.specs.Elements.{◌>>=◌, OctetsData}
use Rattle.camel_rows.specs.declared.subscriber.update.Update.{Update}
use Rattle.camel_map.specs.Arrival.{IsReceived}
use Rattle.camel_map.specs.Reading.{IsMemory, whole}
use Rattle.camel_reading.specs.Reading.{ReadsAs, ReadsBy}
use Rattle.camel_map.specs.Update.{arrival_of}
use Rattle.camel_map.specs.declared.arrival.Arrival.{Arrival}
use Rattle.camel_map.specs.declared.map_fault.MapFault.{MapFault}
use Rattle.camel_map.specs.declared.operation.Operation.{Operation}
use Rattle.camel_map.proofs.EncodedUpdates.Updates.{encoding_decodes}
use Rattle.camel_map.proofs.Received.Updates.{arrival_received}
use Rattle.camel_map.proofs.argument.decode.Goals as goal

-- a function that returns what octets bring returns their update
update_read : (result reading : Result Arrival MapFault) → ReadsAs IsMemory result reading
    → ReadsBy IsMemory (λ arrival. arrival.update) result (reading >>= λ arrival. Ok arrival.update)
update_read (Ok arrival) reading is = ap (λ (read : Result Arrival MapFault). read >>= λ arrival. Ok arrival.update) is
update_read (Err fault) reading (inl memory) = inl memory
update_read (Err fault) reading (inr is) =
    inr (ap (λ (read : Result Arrival MapFault). read >>= λ arrival. Ok arrival.update) is)

received : (result : Result Arrival MapFault) (which : Operation) (dialogue : Option (List ℕ)) (octets : OctetsData)
    → ReadsAs IsMemory result (arrival_of which dialogue octets) → IfOk result IsReceived
received (Ok arrival) which dialogue octets is = arrival_received which dialogue octets arrival is
received (Err fault) which dialogue octets is = tt

pub returns-clause-received : goal.returns-clause-received
returns-clause-received c =
    received c.read_argument.result c.args.operation c.args.dialogue_imsi (whole c.args.octets.now)
    c.read_argument.ensures

pub returns-clause-update : goal.returns-clause-update
returns-clause-update c = update_read c.read_argument.result _ c.read_argument.ensures

pub returns-clause-encoded : goal.returns-clause-encoded
returns-clause-encoded c =
    λ update kept encodes inside.
    subst (λ (reading : Result Update MapFault). ReadsBy IsMemory (λ arrival. arrival.update) c.read_argument.result reading)
    (encoding_decodes c.args.operation c.args.dialogue_imsi update c.args.octets.now kept encodes inside)
    (update_read c.read_argument.result _ c.read_argument.ensures)
