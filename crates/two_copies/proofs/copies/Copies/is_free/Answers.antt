use mathlib.Core.Logic.{∥∥₁_map}
use Rattle.two_copies.proofs.copies.Copies.is_free.Goals as goal

pub invariant_of-self-clause-shows : goal.invariant_of-self-clause-shows
invariant_of-self-clause-shows g c = ∥∥₁_map c.args.self.now.shows (c.reclaim_all.ensures.shown _)
