use Rattle.std.proofs.Common.{◌/◌, ◌%◌, ◌^◌, arith}
use Rattle.camel_tbcd.proofs.ImsiLemmas.{length-last}
use Rattle.camel_tbcd.proofs.imsi.Imsi.digits.Goals as goal

pub of_value-requires : goal.of_value-requires
of_value-requires c =
    let number = c.self.inside.number in
    omega (arith, c.digit_count.ensures, length-last (number / 2 ^ 56) (number % 2 ^ 56), c.self.invariant.0.most)
