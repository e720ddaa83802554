use Rattle.std.proofs.Common.{rules, ◌≡◌, ◌∙◌, ◌++◌, ◌∷◌, [], Some, None, refl, sym, ap}
use Rattle.camel_rows.proofs.StoreLemmas.{IsAdmissionOf-with_update, IsFront-with_update}
use Rattle.camel_rows.specs.Store.{with_admission}
use Rattle.camel_rows.specs.Update.{csis_after, update_imsi}
use Rattle.camel_vlr.proofs.StoreLemmas.{IsOf, same_refusal, fields, own, with_more}
use Rattle.camel_vlr.proofs.OperationLemmas.{updates_among-more}
use Rattle.camel_vlr.specs.StoreFields.{admitted, limit_in, pending_in, store_of, updates_in}
use Rattle.camel_vlr.specs.Operation.{updates_among}
use Rattle.camel_vlr.specs.Store.{StoreData, submission_refusal, with_accepted}
use Rattle.camel_vlr.proofs.writer.Vlr.submit.Given.{Over}
use Rattle.camel_vlr.proofs.writer.Vlr.submit.Goals.{In_err-change, In_ok-change, In_ok-accept}
use Rattle.camel_vlr.proofs.writer.Vlr.submit.Goals as goal

-- the admission of a store refuses what the store refuses
refused : (g : Over) (c : In_err-change g) → submission_refusal (store_of g.W.Publisher c.self.inside) c.args.update ≡ Some c.in_err-change.field-0.0
refused g c =
    let a = c.self.inside in let g = g.W.Publisher in
    sym (same_refusal a.state.admission (store_of g a) c.args.update (own g a c.self.invariant)) ∙ c.in_err-change.ensures.refused

not_refused : (g : Over) (c : In_ok-change g) → submission_refusal (store_of g.W.Publisher c.self.inside) c.args.update ≡ None
not_refused g c =
    let a = c.self.inside in let g = g.W.Publisher in
    sym (same_refusal a.state.admission (store_of g a) c.args.update (own g a c.self.invariant)) ∙ c.in_ok-change.ensures.taken

-- the update stands behind what was pending, and is admitted
pending : (g : Over) (c : In_ok-accept g)
    → updates_among (g.W.Publisher.pending c.self.inside.writer ++ c.accept.new.pending.items) ≡ pending_in g.W.Publisher c.self.inside ++ c.args.update ∷ []
pending g c =
    let a = c.self.inside in
    updates_among-more (g.W.Publisher.pending a.writer) a.state.pending.items c.accept.new.pending.items (c.args.update ∷ []) c.in_ok-accept.ensures.pending

admits : (g : Over) (c : In_ok-accept g) → submission_refusal (store_of g.W.Publisher c.self.inside) c.args.update ≡ None
    → IsOf c.accept.new.admission (with_accepted (store_of g.W.Publisher c.self.inside) c.args.update)
admits g c taken =
    let a = c.self.inside in let i = c.self.invariant in let update = c.args.update in
    let limit = limit_in g.W.Publisher a in let updates = updates_in g.W.Publisher a in
    let change = c.in_ok-change.ensures in
    let now : c.accept.new.admission ≡ admitted a.state.admission update = c.in_ok-accept.ensures.accepted
    ∙ ap (with_admission a.state.admission (update_imsi update)) (change.after ∙ ap (λ before. csis_after before update) change.before) in
    record {
      admits = rw now (IsAdmissionOf-with_update a.state.admission limit updates update i.admits taken);
      front = IsFront-with_update limit updates update i.all taken;
    }

pub invariant_of-self-2 : goal.invariant_of-self-2
invariant_of-self-2 g c =
    let at = goal.at.invariant_of-self-2 g c in
    with_more g.W.Publisher c.self.inside _ (c.args.update ∷ []) refl c.self.invariant (pending g at.In_ok-accept)
    (admits g at.In_ok-accept (not_refused g at.In_ok-change))

pub returns-clause-accepted : goal.returns-clause-accepted
returns-clause-accepted g c =
    rw (store_of, fields, pending g (goal.at.returns-clause-accepted g c).In_ok-accept)
    (ap (λ (s : StoreData). with_accepted s c.args.update) c.self.view_is)

pub returns-clause-number : goal.returns-clause-number
returns-clause-number g c =
    let at = goal.at.returns-clause-number g c in
    rw (store_of, fields, pending g at.In_ok-accept) (c.accepted.ensures ∙ (admits g at.In_ok-accept (not_refused g at.In_ok-change)).admits.same_count)

pub returns-in_err-change-clause-refused : goal.returns-in_err-change-clause-refused
returns-in_err-change-clause-refused g c = rw (← c.self.view_is) (search (rules, refused g (goal.at.returns-in_err-change-clause-refused g c).In_err-change))

pub returns-in_err-change-clause-only : goal.returns-in_err-change-clause-only
returns-in_err-change-clause-only g c = rw (← c.self.view_is) (search (rules, refused g (goal.at.returns-in_err-change-clause-only g c).In_err-change))

pub returns-in_err-accept-clause-refused : goal.returns-in_err-accept-clause-refused
returns-in_err-accept-clause-refused g c =
    rw (← c.self.view_is) (search (rules, not_refused g (goal.at.returns-in_err-accept-clause-refused g c).In_ok-change))

pub returns-clause-refused : goal.returns-clause-refused
returns-clause-refused g c = rw (← c.self.view_is) (search (rules, not_refused g (goal.at.returns-clause-refused g c).In_ok-change))
