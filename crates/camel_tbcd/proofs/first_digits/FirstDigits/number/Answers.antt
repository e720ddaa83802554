use Rattle.std.proofs.Common.{◌∙◌, ap, arith}
use Rattle.camel_tbcd.specs.Imsi.{imsi_number}
use Rattle.camel_tbcd.proofs.ImsiLemmas.{number_of}
use Rattle.camel_tbcd.proofs.first_digits.FirstDigits.number.Goals as goal

pub returns : goal.returns
returns c =
    let count = c.self.inside.count in
    let value = c.self.inside.value in
    omega (arith, c.self.invariant.0, number_of count value c.self.invariant.1) ∙ ap imsi_number c.self.view_is
