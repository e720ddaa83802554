use Rattle.std.proofs.Common.{rules, Ok, subst}
use Rattle.camel_reading.proofs.EachLemmas.{each_of-map}
use Rattle.camel_reading.proofs.StepLemmas.{reads_exactly}
use Rattle.camel_c_data.specs.Fields.{basic_service_in, IsMemory}
use Rattle.camel_reading.specs.Reading.{ReadsList}
use Rattle.camel_c_data.proofs.entry_lists.read_services.Goals as goal

pub returns : goal.returns
returns c =
    let read = c.read_each.ensures (λ service. Ok (basic_service_in service))
    (λ service answer says. reads_exactly IsMemory _ _ (search rules)) in
    subst (ReadsList IsMemory c.read_each.result) (each_of-map basic_service_in c.args.services.now) read
