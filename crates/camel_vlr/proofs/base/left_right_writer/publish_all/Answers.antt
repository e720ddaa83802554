use Rattle.std.proofs.Common.{◌∙◌, ap, sym}
use Rattle.left_right.specs.Sides.{view}
use Rattle.std.proofs.lemmas.Result.{MatchResult-weaker}
use Rattle.camel_vlr.proofs.RuleLemmas.{both_ok, knows_published, next_copy, publishes}
use Rattle.camel_vlr.specs.Operation.{pending_operations, updates_among}
use Rattle.camel_vlr.proofs.base.left_right_writer.publish_all.Goals as goal

pub publish_as-requires : goal.publish_as-requires
publish_as-requires g c next is =
    let writer = c.args.writer in let old = writer.desk.shown.value in let r = c.requires in
    let both = next_copy old next c.args.with.1 _ r.last.0 r.last.1 r.shown r.updates r.front r.limit is in
    publishes _ _ old next both.0 (ap (λ x. x.store) both.1 ∙ r.store)
    (updates_among (pending_operations writer), sym (ap (λ x. x.updates) both.1 ∙ r.updates))

pub returns-clause-shown : goal.returns-clause-shown
returns-clause-shown g c =
    let old = c.args.writer.desk.shown.value in let r = c.requires in
    let new = c.publish_as.result.0.desk.shown.value in
    MatchResult-weaker c.publish_as.result.1 c.publish_as.ensures.values
    (λ _ did. next_copy old new c.args.with.1 _ r.last.0 r.last.1 r.shown r.updates r.front r.limit did.0) (λ _ _. tt)

pub returns-clause-seat : goal.returns-clause-seat
returns-clause-seat g c =
    let old = c.args.writer.desk.shown.value in let r = c.requires in
    let new = c.publish_as.result.0.desk.shown.value in
    both_ok c.publish_as.result.1 _ _ _ _ _ c.publish_as.ensures.values c.publish_as.ensures.rule (λ did published.
    knows_published new c.args.with.1 (view c.publish_as.result.0.desk.place) published
    (next_copy old new c.args.with.1 _ r.last.0 r.last.1 r.shown r.updates r.front r.limit did.0).1)
