use Rattle.std.proofs.Common.{◌∙◌, ap, subst, sym}
use Rattle.camel_rows.specs.Decision.{DecisionData, decision, event_data}
use Rattle.camel_vlr.proofs.SessionLemmas.{decided_by_own}
use Rattle.camel_vlr.specs.Store.{DecidedByOwn}
use Rattle.camel_vlr.proofs.session.Session.decide.Goals as goal

pub returns-clause-own : goal.returns-clause-own
returns-clause-own g c =
    let session = c.args.self.now in
    let event = event_data c.args.event.now in
    let decided = c.decide_in.ensures ∙ ap (λ profile. decision profile c.published.result.now.records event) c.profile.ensures
    ∙ ap (λ m. decision session.store.profile m event) c.published.ensures.records in
    subst (λ (d : DecisionData). DecidedByOwn session.store session.seen event d) (sym decided)
    (decided_by_own session.store session.seen event c.published.ensures.front)
