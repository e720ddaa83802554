use Rattle.std.proofs.Common.{◌∙◌, sym, subst}
use Rattle.std.specs.Prelude.{fold}
use Rattle.std.specs.Arc.{arc_value}
use Rattle.two_copies.proofs.LogLemmas.{spare_is_next}
use Rattle.two_copies.proofs.copies.Copies.publish.Goals as goal

pub show_next-requires : goal.show_next-requires
show_next-requires g c =
    let ready = c.prepare.new.self in
    let e = c.in_ok-prepare.ensures in
    let state = g.T.Apply.state in
    let spare = arc_value ready.spare in
    let now = state (arc_value ready.shown) in
    let next = spare_is_next g.T.Apply.applied g.T.Apply.restored g.row.T-State.coded (state spare) now ready.log e.ready ready.alike in
    let shown = e.same.0 ∙ c.is_free.ensures.same.0 in
    let pending = e.same.1 ∙ c.is_free.ensures.same.1 in
    let rule = c.requires spare (next ∙ (λ k. fold g.T.Apply.applied (state (shown k)) (pending k))) in record {
      ready = e.ready;
      free = e.free;
      next = e.next;
      holds = rule.0;
      follows = subst (λ (value : _). g.F.CopyRule.follows value spare) (sym shown) rule.1;
    }
