use mathlib.Core.Logic.{∥∥₁_map}
use Rattle.two_copies.proofs.copies.Copies.prepare.Goals as goal

pub invariant_of-self-clause-shows : goal.invariant_of-self-clause-shows
invariant_of-self-clause-shows g c = ∥∥₁_map c.bring_up.new.self.shows (c.prepare_all.ensures.shown _)
