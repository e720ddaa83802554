use Rattle.std.proofs.Common.{rules}
use Rattle.camel_script.specs.Fields.{octets_of}
use Rattle.camel_script.proofs.text.lists.parse_octets_list.Goals as goal

pub returns : goal.returns
returns c = c.read_elements.ensures octets_of (λ element answer says. search rules)
