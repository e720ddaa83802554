use mathlib.Core.Logic.{∥∥₁_map}
use Rattle.std.proofs.Common.{◌∙◌, sym}
use Rattle.two_copies.proofs.PlacesLemmas.{free_if_none, none_if_free}
use Rattle.two_copies.proofs.copies.Copies.holders.Goals as goal

pub invariant_of-self-clause-shows : goal.invariant_of-self-clause-shows
invariant_of-self-clause-shows g c = ∥∥₁_map c.args.self.now.shows (c.reclaim_each.ensures.shown _)

pub returns-clause-free : goal.returns-clause-free
returns-clause-free g c =
    let held = c.reclaim_each.ensures.held in (
      λ none. free_if_none _ (sym held ∙ none),
      λ free. held ∙ none_if_free _ free,
    )

pub returns-clause-keeps : goal.returns-clause-keeps
returns-clause-keeps g c free = c.reclaim_each.ensures.held ∙ none_if_free _ (c.reclaim_each.ensures.keeps free)
