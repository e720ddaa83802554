use Rattle.std.proofs.Common.{rules, ◌∙◌}
use Rattle.two_copies.proofs.PlacesLemmas.{all_show, same_places}
use Rattle.two_copies.proofs.places.prepare_all.Goals as goal

pub loop-next-preserved : goal.loop-next-preserved
loop-next-preserved g c = record {
  bound = search rules;
  len = search rules;
  places = same_places _ _ c.index_mut.result.now _ c.prepare.ensures.place c.index_mut.ensures.value ∙ c.loop-next.invariant.places;
  free = search rules;
  ready = search rules;
  shown = λ shown before. let all = c.loop-next.invariant.shown shown before in
      all_show shown _ _ c.index_mut.result.now _ c.prepare.ensures.shown (search rules) all;
}
