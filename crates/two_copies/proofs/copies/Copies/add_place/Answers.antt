use Rattle.std.proofs.Common.{Some, ap, ◌∙◌}
use mathlib.Core.Logic.{∥∥₁_map}
use Rattle.two_copies.proofs.PlacesLemmas.{one_more, put_shows}
use Rattle.two_copies.proofs.copies.Copies.add_place.Goals as goal

pub invariant_of-self : goal.invariant_of-self
invariant_of-self g c = let e = c.put.ensures in record {
  bounded = e.room;
  shows = ∥∥₁_map c.args.self.now.shows
      (put_shows _ _ c.put.result _ _ _ e.put e.same (c.in_ok-end.ensures.shown ∙ ap Some c.in_ok-share.ensures));
  alike = c.args.self.now.alike;
}

pub returns-clause-place : goal.returns-clause-place
returns-clause-place g c = rw (c.in_ok-end.ensures.place) (one_more _ _ _ _ c.in_ok-put.ensures.put)
