use Rattle.std.proofs.Common.{None, Some, ◌≡◌, ◌⊎◌, inl, inr, ◌∙◌, [], ◌∷◌, ◌++◌, append_assoc, length, length-append, ap, arith, sym, subst}
use Rattle.std.proofs.lemmas.List.Sums.{fold-append}
use Rattle.camel_criteria.specs.declared.refusal.Refusal.TheVariants.{OutOfMemory}
use Rattle.camel_rows.specs.Store.{AdmissionData, admission_refusal}
use Rattle.camel_vlr.proofs.StoreLemmas.{AcceptsAll-push}
use Rattle.camel_vlr.proofs.OperationLemmas.{updates_among-append}
use Rattle.camel_vlr.specs.Store.{refusal_among}
use Rattle.camel_vlr.specs.StoreFields.{AllTakenBackTo, admitted}
use Rattle.camel_vlr.specs.Operation.{updates_among}
use Rattle.camel_vlr.proofs.writer.group.accept_each.Goals as goal

pub returns-in-Err-clause-rejected : goal.returns-in-Err-clause-rejected
returns-in-Err-clause-rejected c =
    let i = c.loop-update.invariant in let update = c.in-Some.update in
    let refused = subst
    (λ (a : AdmissionData). (c.in-Err.why ≡ OutOfMemory) ⊎ (refusal_among (admission_refusal a update) update ≡ Some c.in-Err.why))
    i.admission c.in-Err.ensures.refused in
    elim refused [
      | inl why ↦ inl why
      | inr why ↦ inr (record {
        before = c.loop-update.yielded;
        rejected = update;
        behind = c.next.new.self.rest.items;
        order = i.rest ∙ ap (λ list. c.loop-update.yielded ++ list) c.in-Some.ensures.steps.0;
        place = c.len.ensures ∙ (c.accept_next.new.accepted.ok.0 ∙ (ap length c.in-Err.ensures.unchanged.2 ∙ i.count));
        accepts = i.all;
        refused = why;
      })
    ]

pub loop-update-preserved : goal.loop-update-preserved
loop-update-preserved c =
    let i = c.loop-update.invariant in let update = c.in-Some.update in let done = c.loop-update.yielded in
    let e = c.in_default.ensures in
    let (more, order, updates) = i.pending in
    let (next, behind, one) = e.pending in
    let (accepted, listed, back) = e.listed in record {
      all = AcceptsAll-push admission_refusal admitted c.args.admission.now done update i.all
          (subst (λ (a : AdmissionData). refusal_among (admission_refusal a update) update ≡ None) i.admission e.taken);
      admission = e.admitted ∙ (ap (λ a. admitted a update) i.admission ∙ sym (fold-append admitted c.args.admission.now done (update ∷ [])));
      pending = (
        more ++ next,
        behind ∙ (ap (λ list. list ++ next) order ∙ append_assoc c.args.pending.now.items more next),
        updates_among-append more next ∙ (ap (λ list. list ++ updates_among next) updates ∙ ap (λ list. done ++ list) one),
      );
      list = subst (λ list. AllTakenBackTo c.args.admission.now list c.accept_next.new.admission) (sym listed) (c.loop-update.admission, back, i.list);
      rest = i.rest ∙ (ap (λ list. done ++ list) c.in-Some.ensures.steps.0 ∙ sym (append_assoc done (update ∷ []) c.next.new.self.rest.items));
      count = omega (arith, ap length listed, i.count, length-append done (update ∷ []));
    }
