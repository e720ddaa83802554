use Rattle.camel_tbcd.proofs.ProfileLemmas.{agree_by_bits}
use Rattle.camel_tbcd.proofs.address.differing_bits.Goals as goal

pub returns : goal.returns
returns c = rw c.compared_bits.ensures (agree_by_bits c.args.profile c.args.first c.args.other)
