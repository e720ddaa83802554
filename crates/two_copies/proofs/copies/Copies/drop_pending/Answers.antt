use mathlib.Core.Logic.{∥∥₁_map}
use Rattle.two_copies.proofs.copies.Copies.drop_pending.Goals as goal

pub invariant_of-self-clause-alike : goal.invariant_of-self-clause-alike
invariant_of-self-clause-alike g c = ∥∥₁_map c.args.self.now.alike (c.drop_pending.ensures.alike _ _)
