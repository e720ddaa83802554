use Rattle.std.proofs.Common.{rules}
use Rattle.camel_reading.proofs.StepLemmas.{reads_exactly}
use Rattle.camel_script.specs.Fields.{IsMemory, basic_service_of}
use Rattle.camel_script.proofs.text.lists.parse_basic_services.Goals as goal

pub returns : goal.returns
returns c = c.read_elements.ensures basic_service_of (λ element answer says. reads_exactly IsMemory _ _ (search rules))
