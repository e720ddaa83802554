use Rattle.std.proofs.Common.{rules, ◌≡◌, ◌∙◌, ap}
use Rattle.camel_rows.specs.Decision.{answer_over, decision, event_data, outcome_of}
use Rattle.camel_rows.specs.Update.{records_of}
use Rattle.camel_rows.specs.declared.trigger.outcome.Answer.{Answer}
use Rattle.camel_vlr.specs.History.{StoreId}
use Rattle.camel_vlr.proofs.SessionLemmas.{Answers-one}
use Rattle.camel_vlr.proofs.session.Session.answer_to.Goals as goal

pub returns-clause-answers : goal.returns-clause-answers
returns-clause-answers g c =
    let sees = c.in_ok-look.ensures.sees in
    let looking = c.in_ok-look.look.session.now in
    let asked = event_data c.args.event.now in
    let store = ap (λ (s : StoreId). decision s.profile (records_of looking.seen) asked) sees.store in
    let outcome = c.of.ensures ∙ ap outcome_of (c.decide.ensures.decision ∙ store) in
    let answer : Answer = record { front = c.front.result; outcome = c.of.result } in
    let decided : answer ≡ answer_over c.args.self.now.store.profile looking.seen asked = cc (c.front.ensures, outcome) in
    Answers-one c.args.self.now looking _ asked answer sees decided (search rules)
