use Rattle.std.proofs.Common.{rules, arith, ◌∙◌}
use Rattle.std.proofs.lemmas.Grind.{common_steps}
use Rattle.two_copies.proofs.PlacesLemmas.{same_places}
use Rattle.two_copies.proofs.places.show_all.Goals as goal

pub loop-next-preserved : goal.loop-next-preserved
loop-next-preserved g c = record {
  bound = search rules;
  len = search rules;
  places = same_places _ _ c.index_mut.result.now _ c.show.ensures.place c.index_mut.ensures.value ∙ c.loop-next.invariant.places;
  free = search rules;
  ready = search rules;
  before = search rules;
  done = grind (arith, common_steps);
}
