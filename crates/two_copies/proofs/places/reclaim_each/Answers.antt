use Rattle.std.proofs.Common.{rules, ◌∙◌, arith, ap, length, not, ◌≤◌, ◌<◌, ◌+◌, ◌*◌, ◌^◌}
use Rattle.two_copies.specs.Place.{number}
use Rattle.two_copies.proofs.PlacesLemmas.{has_room, held_with, number_small, all_show, same_places}
use Rattle.two_copies.proofs.places.reclaim_each.Given.{Over}
use Rattle.two_copies.proofs.places.reclaim_each.Goals.{In-loop-next}
use Rattle.two_copies.proofs.places.reclaim_each.Goals as goal

room : (g : Over) (c : In-loop-next g) → c.loop-next.held * 2 + 1 < 2 ^ 64
room g c =
    let i = c.loop-next.invariant in
    let most : length c.loop-next.places.items ≤ 64 = omega (arith, i.len, c.requires) in
    rw i.held (has_room c.loop-next.places.items c.loop-next.next most (search rules) i.bound)

pub overflow_mul-held : goal.overflow_mul-held
overflow_mul-held g c = omega (arith, room g c)

pub overflow_add-held : goal.overflow_add-held
overflow_add-held g c = omega (arith, room g (goal.at.overflow_add-held g c).In-loop-next, c.bit.ensures, number_small (not c.reclaim.result))

pub loop-next-preserved : goal.loop-next-preserved
loop-next-preserved g c =
    let has = ap (λ has. number (not has)) c.reclaim.ensures.has in
    let with = held_with c.loop-next.places.items c.loop-next.next c.reclaim.new.self (search rules) c.loop-next.invariant.bound in record {
      bound = search rules;
      len = search rules;
      places = same_places _ _ c.index_mut.result.now _ c.reclaim.ensures.place c.index_mut.ensures.value ∙ c.loop-next.invariant.places;
      held = omega (arith, has, c.bit.ensures, c.loop-next.invariant.held, with);
      keeps = λ before. let all = c.loop-next.invariant.keeps before in search rules;
      shown = λ shown before. let all = c.loop-next.invariant.shown shown before in
          all_show shown _ _ c.index_mut.result.now _ c.reclaim.ensures.shown (search rules) all;
    }
