use Rattle.std.proofs.Common.{rules}
use Rattle.camel_reading.proofs.StepLemmas.{reads_exactly}
use Rattle.camel_script.specs.Fields.{IsMemory, decimal_of}
use Rattle.camel_script.proofs.text.lists.parse_small_decimals.Goals as goal

pub returns : goal.returns
returns c = c.read_elements.ensures (decimal_of 255) (λ element answer says. reads_exactly IsMemory _ _ (search rules))
