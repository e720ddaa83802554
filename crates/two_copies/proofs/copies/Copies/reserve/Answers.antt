use mathlib.Core.Logic.{∥∥₁_map}
use Rattle.two_copies.proofs.LogLemmas.{alike-pushed}
use Rattle.two_copies.proofs.copies.Copies.reserve.Goals as goal

pub invariant_of-self-clause-alike : goal.invariant_of-self-clause-alike
invariant_of-self-clause-alike g c =
    let old = c.args.self.now in let e = c.reserve.ensures in
    ∥∥₁_map old.alike (alike-pushed g.T.Apply.applied g.T.Apply.restored _ _ old.log c.reserve.new.self e.dropped e.last e.done)
