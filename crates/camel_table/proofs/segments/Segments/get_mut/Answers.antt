use Rattle.std.proofs.Common.{◌∙◌, refl}
use Rattle.camel_table.proofs.SegmentsLemmas.{full_set, its_item, its_number, its_place, its_set, same_length}
use Rattle.camel_table.proofs.segments.Segments.get_mut.Goals as goal

pub index_mut-segment-requires : goal.index_mut-segment-requires
index_mut-segment-requires g c = rw c.self.inside.segments.ok.0 (its_number _ c.self.invariant.0 c.args.at c.self.view_is c.requires)

pub index_mut-requires : goal.index_mut-requires
index_mut-requires g c =
    rw c.index_mut-segment.result.now.ok.0 (its_place _ c.self.invariant.0 c.args.at c.self.view_is c.requires c.index_mut-segment.ensures.value)

pub invariant_of-self-lent : goal.invariant_of-self-lent
invariant_of-self-lent g c = λ w.
    let own = c.index_mut-segment.ensures.value in (
      full_set _ c.self.invariant.0 c.args.at c.self.view_is c.requires own _ w refl,
      c.self.invariant.1 ∙ same_length _ c.self.invariant.0 c.args.at c.self.view_is c.requires own _ w refl,
    )

pub returns : goal.returns
returns g c =
    let own = c.index_mut-segment.ensures.value in (
      (refl, λ w. its_set _ c.self.invariant.0 c.args.at c.self.view_is c.requires own _ w refl),
      record {
        writes_back = tt;
        item = c.index_mut.ensures.value ∙ its_item _ c.self.invariant.0 c.args.at c.self.view_is c.requires own c.index_mut.result.now;
      },
    )
