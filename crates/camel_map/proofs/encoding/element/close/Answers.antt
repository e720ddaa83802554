use Rattle.std.proofs.Common.{◌∙◌}
use Rattle.camel_map.specs.Encoding.{encodings}
use Rattle.camel_map.proofs.Written.Elements.{before_is}
use Rattle.camel_map.proofs.encoding.element.close.Goals as goal

pub returns : goal.returns
returns c = λ parts rest is same. c.close_octets.ensures (encodings parts) rest (is ∙ before_is parts rest) same
