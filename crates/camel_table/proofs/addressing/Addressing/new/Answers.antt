use Rattle.std.proofs.Common.{◌-◌, ap}
use Rattle.camel_table.proofs.AddressingLemmas.{shifted_two}
use Rattle.camel_table.proofs.addressing.Addressing.new.Goals as goal

pub invariant_of-result : goal.invariant_of-result
invariant_of-result g c = record { masks = ap (λ n. n - 1) (shifted_two c.args.level c.requires) }
