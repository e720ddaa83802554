use Rattle.std.proofs.Common.{◌∙◌}
use Rattle.camel_table.proofs.SegmentsLemmas.{its_item, its_number, its_place}
use Rattle.camel_table.proofs.segments.Segments.get.Goals as goal

pub index-requires : goal.index-requires
index-requires g c = rw c.self.inside.segments.ok.0 (its_number _ c.self.invariant.0 c.args.at c.self.view_is c.requires)

pub index-requires-2 : goal.index-requires-2
index-requires-2 g c = rw c.index.result.now.ok.0 (its_place _ c.self.invariant.0 c.args.at c.self.view_is c.requires c.index.ensures)

pub returns : goal.returns
returns g c = c.index-2.ensures ∙ its_item _ c.self.invariant.0 c.args.at c.self.view_is c.requires c.index.ensures c.index-2.result.now
