use Rattle.std.proofs.Common.{rules, ◌<◌, length, sym, ap, ◌∙◌}
use Rattle.std.proofs.lemmas.List.{get_or-set_same, length-set}
use Rattle.two_copies.proofs.PlacesLemmas.{all_show, same_places}
use Rattle.two_copies.proofs.places.reclaim_all.Goals as goal

pub loop-next-preserved : goal.loop-next-preserved
loop-next-preserved g c = record {
  bound = search rules;
  len = search rules;
  places = same_places _ _ c.index_mut.result.now _ c.if-not-reclaim.ensures.place c.index_mut.ensures.value ∙ c.loop-next.invariant.places;
  free = search rules;
  keeps = λ before. let all = c.loop-next.invariant.keeps before in search rules;
  shown = λ shown before. let all = c.loop-next.invariant.shown shown before in
      all_show shown _ _ c.index_mut.result.now _ c.if-not-reclaim.ensures.shown (search rules) all;
}

pub returns-then-not-reclaim-clause-free : goal.returns-then-not-reclaim-clause-free
returns-then-not-reclaim-clause-free g c =
    let items = c.loop-next.places.items in
    let end = c.reclaim.new.self in
    let inside : c.loop-next.next < length items = search rules in
    let held = c.if-not-reclaim.ensures.has in
    let same = get_or-set_same items c.loop-next.next end end inside in (
      λ no. absurd (let false_is_true = no in cc),
      λ all. let free = all c.loop-next.next end (rw (length-set items c.loop-next.next end) inside) in sym held ∙ ap (λ e. e.has_other) (sym same) ∙ free,
    )

pub returns-then-not-reclaim-clause-shown : goal.returns-then-not-reclaim-clause-shown
returns-then-not-reclaim-clause-shown g c shown before =
    let all = c.loop-next.invariant.shown shown before in all_show shown _ _ c.index_mut.result.now _ c.if-not-reclaim.ensures.shown (search rules) all

pub returns-then-not-reclaim-clause-places : goal.returns-then-not-reclaim-clause-places
returns-then-not-reclaim-clause-places g c =
    same_places _ _ c.index_mut.result.now _ c.if-not-reclaim.ensures.place c.index_mut.ensures.value ∙ c.loop-next.invariant.places
