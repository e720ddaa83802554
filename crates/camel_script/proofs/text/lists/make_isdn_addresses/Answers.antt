use Rattle.std.proofs.Common.{rules}
use Rattle.camel_reading.proofs.StepLemmas.{reads_exactly}
use Rattle.camel_script.specs.Fields.{IsMemory, isdn_address_of}
use Rattle.camel_script.proofs.text.lists.make_isdn_addresses.Goals as goal

pub returns : goal.returns
returns c = c.read_each.ensures isdn_address_of (λ octets answer says. reads_exactly IsMemory _ _ (search rules))
