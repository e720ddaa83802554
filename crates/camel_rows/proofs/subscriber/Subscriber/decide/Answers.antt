use Rattle.std.proofs.Common.{◌∙◌, ap, sym}
use Rattle.camel_rows.proofs.EventLemmas.{same_dp}
use Rattle.camel_rows.specs.Decision.{ToVt, by_record, by_shown, event_data, shown_as, vt_event}
use Rattle.camel_rows.proofs.subscriber.Subscriber.decide.Goals as goal

pub returns-in-None-clause-decision : goal.returns-in-None-clause-decision
returns-in-None-clause-decision c =
    let event = c.args.event.now in let whole = event_data event in
    let shown = ap ToVt c.show_vt.ensures ∙ ap (λ o. shown_as o (vt_event whole)) (sym c.in-None.is) ∙ c.show_o.ensures in
    c.decide_by_vt.ensures whole (same_dp event ∙ sym c.dp-in-None.ensures) (ap (λ shown. shown.basic) (sym c.show_vt.ensures))
    ∙ ap (by_shown c.args.profile whole c.args.self.now) shown

pub returns-in-None-clause-held : goal.returns-in-None-clause-held
returns-in-None-clause-held c = λ m there.
    returns-in-None-clause-decision c ∙ ap (by_record c.args.profile (event_data c.args.event.now)) (sym there)
