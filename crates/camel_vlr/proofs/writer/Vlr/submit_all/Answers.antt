use Rattle.std.proofs.Common.{◌≡◌, ◌∙◌, ◌++◌, inl, inr, fold, refl, ap, subst, sym}
use Rattle.camel_vlr.proofs.StoreLemmas.{IsOf, accepts, rejects, with_all, with_all-pending, with_pending, fields, own}
use Rattle.camel_vlr.proofs.StoreLemmas.{with_more}
use Rattle.camel_vlr.proofs.OperationLemmas.{updates_among-more}
use Rattle.camel_vlr.specs.Operation.{updates_among}
use Rattle.camel_vlr.specs.Store.{StoreData, with_accepted}
use Rattle.camel_vlr.specs.StoreFields.{pending_in, store_of}
use Rattle.camel_vlr.proofs.writer.Vlr.submit_all.Given.{Over}
use Rattle.camel_vlr.proofs.writer.Vlr.submit_all.Goals.{In_default}
use Rattle.camel_vlr.proofs.writer.Vlr.submit_all.Goals as goal

-- the updates stand behind what was pending
pending : (g : Over) (c : In_default g) → updates_among (g.W.Publisher.pending c.self.inside.writer ++ c.accept_all-taken.new.pending.items)
    ≡ pending_in g.W.Publisher c.self.inside ++ c.args.updates.items
pending g c =
    let a = c.self.inside in let more = c.accept_all-taken.new.pending.items in
    updates_among-more (g.W.Publisher.pending a.writer) a.state.pending.items more c.args.updates.items c.in_default.ensures.pending

-- the admission is that of the store with all of them
admits : (g : Over) (c : In_default g) → IsOf c.accept_all-taken.new.admission
    (with_pending (store_of g.W.Publisher c.self.inside) (pending_in g.W.Publisher c.self.inside ++ c.args.updates.items))
admits g c =
    let a = c.self.inside in let store = store_of g.W.Publisher a in
    let all = with_all a.state.admission store c.args.updates.items (own g.W.Publisher a c.self.invariant) c.in_default.ensures.all in
    subst (λ (s : StoreData). IsOf c.accept_all-taken.new.admission s) (with_all-pending store c.args.updates.items) (rw c.in_default.ensures.accepted all)

pub returns-in-Err-clause-rejected : goal.returns-in-Err-clause-rejected
returns-in-Err-clause-rejected g c = rw (← c.self.view_is) (elim c.in-Err.ensures.rejected [
  | inl why ↦ inl why
  | inr at ↦ inr (rejects c.self.inside.state.admission (store_of g.W.Publisher c.self.inside) c.args.updates.items _ _
      (own g.W.Publisher c.self.inside c.self.invariant) at)
])

pub invariant_of-self-2 : goal.invariant_of-self-2
invariant_of-self-2 g c =
    let at = (goal.at.invariant_of-self-2 g c).In_default in
    with_more g.W.Publisher c.self.inside _ c.args.updates.items refl c.self.invariant (pending g at) (admits g at)

pub returns-clause-all : goal.returns-clause-all
returns-clause-all g c =
    let a = c.self.inside in
    rw (← c.self.view_is) (accepts a.state.admission (store_of g.W.Publisher a) c.args.updates.items (own g.W.Publisher a c.self.invariant)
    (goal.at.returns-clause-all g c).In_default.in_default.ensures.all)

pub returns-clause-accepted : goal.returns-clause-accepted
returns-clause-accepted g c =
    let a = c.self.inside in let updates = c.args.updates.items in
    rw (store_of, fields, pending g (goal.at.returns-clause-accepted g c).In_default)
    (sym (with_all-pending (store_of g.W.Publisher a) updates) ∙ ap (λ (s : StoreData). fold with_accepted s updates) c.self.view_is)

pub returns-clause-pending : goal.returns-clause-pending
returns-clause-pending g c =
    rw (store_of, fields, pending g (goal.at.returns-clause-pending g c).In_default)
    (ap (λ (s : StoreData). record { published = s.updates.published; pending = s.updates.pending ++ c.args.updates.items }) c.self.view_is)

pub returns-clause-number : goal.returns-clause-number
returns-clause-number g c =
    let at = (goal.at.returns-clause-number g c).In_default in
    rw (store_of, fields, pending g at) (c.accepted.ensures ∙ (admits g at).admits.same_count)
