use Rattle.std.proofs.Common.{◌∙◌, ap, sym}
use Rattle.std.proofs.lemmas.Result.{MatchResult-weaker}
use Rattle.two_copies.specs.Copies.{pending_of, shown_by}
use Rattle.camel_vlr.proofs.RuleLemmas.{next_copy}
use Rattle.camel_vlr.specs.Operation.{updates_among}
use Rattle.camel_vlr.proofs.base.two_copies_writer.TwoCopiesWriterPublishesUnit.publish_all.Goals as goal

pub publish-requires : goal.publish-requires
publish-requires c next is =
    let old = shown_by c.args.self.now in let r = c.requires in
    let both = next_copy old next c.args._front _ r.last.0 r.last.1 r.shown r.updates r.front r.limit is in (
      both.0,
      (sym (ap (λ x. x.store) both.1 ∙ r.store), (updates_among (pending_of c.args.self.now), sym (ap (λ x. x.updates) both.1 ∙ r.updates))),
    )

pub returns-clause-shown : goal.returns-clause-shown
returns-clause-shown c =
    let old = shown_by c.args.self.now in let new = shown_by c.publish.new.self in let r = c.requires in
    MatchResult-weaker c.publish.result c.publish.ensures.published
    (λ _ did. next_copy old new c.args._front _ r.last.0 r.last.1 r.shown r.updates r.front r.limit did) (λ _ _. tt)
