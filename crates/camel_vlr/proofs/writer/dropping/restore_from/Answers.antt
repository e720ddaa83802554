use Rattle.std.proofs.Common.{rules, ◌≡◌, ◌++◌, true, [], All, subst, sym}
use Rattle.std.proofs.lemmas.List.Elements.{All-append}
use Rattle.camel_rows.specs.Store.{AdmissionData}
use Rattle.camel_rows.specs.Update.{leaves_record}
use Rattle.camel_rows.specs.declared.subscriber.update.Update.{Update}
use Rattle.camel_vlr.proofs.OperationLemmas.{all_there, restored-both, restored_over, each_half, updates_among-append}
use Rattle.camel_vlr.specs.Operation.{IsAdmissionOver, IsRestored, updates_among}
use Rattle.camel_vlr.proofs.writer.dropping.restore_from.Goals as goal

pub restore_each-requires-clause-has : goal.restore_each-requires-clause-has
restore_each-requires-clause-has c =
    let first = c.args.first.now.items in let second = c.args.second.now.items in
    let leaves = λ (update : Update). leaves_record update ≡ true in
    let all = All-append leaves (updates_among first) (updates_among second) (c.leave_records.ensures.yes c.if-leave_records.true)
    (c.leave_records-then-leave_records.ensures.yes c.if-leave_records-2.true) in
    all_there c.args.published.now c.args.admission.now (updates_among (first ++ second)) c.requires.shown c.requires.over
    (subst (All leaves) (sym (updates_among-append first second)) all)

pub returns-then-leave_records-2-clause-over : goal.returns-then-leave_records-2-clause-over
returns-then-leave_records-2-clause-over c =
    let first = c.args.first.now.items in let second = c.args.second.now.items in
    let copy = c.args.published.now in let before = c.args.admission.now in let after = c.restore_each-then-leave_records-2.new.admission in
    let restored = subst (λ updates. IsRestored copy.records updates before after) (sym (updates_among-append first second))
    (restored-both copy.records (updates_among first) (updates_among second) before c.restore_each.new.admission after
    c.restore_each.ensures.restored c.restore_each-then-leave_records-2.ensures.restored) in
    subst (λ (admission : AdmissionData). IsAdmissionOver copy.front admission []) (sym c.restore_accepted.ensures)
    (restored_over copy before after (updates_among (first ++ second)) c.requires.shown c.requires.over restored)

pub returns-in_err-admission-clause-leave : goal.returns-in_err-admission-clause-leave
returns-in_err-admission-clause-leave c all =
    let first = c.args.first.now.items in let second = c.args.second.now.items in
    let leaves = λ (update : Update). leaves_record update ≡ true in
    let half = each_half leaves (updates_among first) (updates_among second) (subst (All leaves) (updates_among-append first second) all) in
    search (rules, half)
