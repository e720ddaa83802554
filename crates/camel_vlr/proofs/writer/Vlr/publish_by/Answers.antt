use base.Growing.{prefix_refl}
use Rattle.std.proofs.Common.{◌≡◌, ◌∙◌, ◌++◌, true, true≢false, ap, refl, sym}
use Rattle.camel_vlr.proofs.StoreLemmas.{fields}
use Rattle.camel_vlr.proofs.OperationLemmas.{updates_among-front}
use Rattle.camel_vlr.specs.Operation.{updates_among}
use Rattle.camel_vlr.specs.Store.{StoreData}
use Rattle.camel_vlr.specs.StoreFields.{limit_in, pending_in, published_in, store_of}
use Rattle.camel_vlr.proofs.writer.Vlr.publish_by.Given.{Over}
use Rattle.camel_vlr.proofs.writer.Vlr.publish_by.Goals.{In-Err, In-Ok-hand_over}
use Rattle.camel_vlr.proofs.writer.Vlr.publish_by.Goals as goal

-- the front stands behind what was pending, all of which the base has
pending : (g : Over) (c : In-Ok-hand_over g) → updates_among (g.W.Publisher.pending c.hand_over.new.writer) ≡ pending_in g.W.Publisher c.self.inside
pending g c =
    ap updates_among c.in-Ok-hand_over.ensures.all
    ∙ (updates_among-front (g.W.Publisher.pending c.make_room.new.writer ++ c.make_room.new.pending.items) c.copy.result
    ∙ ap updates_among c.in-Ok.ensures.pending)

-- and so it does if nothing was published
still : (g : Over) (c : In-Err g)
    → updates_among (g.W.Publisher.pending c.publish_all.new.self ++ c.hand_over.new.pending.items) ≡ pending_in g.W.Publisher c.self.inside
still g c =
    ap (λ operations. updates_among (operations ++ c.hand_over.new.pending.items)) c.in-Err.ensures.unchanged.2
    ∙ (c.in-Ok-hand_over.ensures.updates ∙ ap updates_among c.in-Ok.ensures.pending)

-- the history has all that is published and pending
history : (g : Over) (c : In-Ok-hand_over g)
    → c.extend_history.new.history.updates ≡ published_in g.W.Publisher c.self.inside ++ pending_in g.W.Publisher c.self.inside
history g c =
    c.extend_history.ensures.updates ∙ (λ k. (c.in-Ok.ensures.shown k).front.updates ++ updates_among (c.in-Ok.ensures.pending k))

pub publish_all-requires-clause-updates : goal.publish_all-requires-clause-updates
publish_all-requires-clause-updates g c =
    let at = (goal.at.publish_all-requires-clause-updates g c).In-Ok-hand_over in
    rw (c.in-Ok-hand_over.ensures.shown, c.in-Ok.ensures.shown, pending g at) (ap (λ x. x.updates) c.prefix-front.ensures ∙ history g at)

pub invariant_of-self-in-Err : goal.invariant_of-self-in-Err
invariant_of-self-in-Err g c =
    let a = c.self.inside in let i = c.self.invariant in
    let e = c.in-Err.ensures.unchanged in let handed = c.in-Ok-hand_over.ensures in let room = c.in-Ok.ensures in
    let shown = e.0 ∙ (handed.shown ∙ room.shown) in
    let updates = history g (goal.at.invariant_of-self-in-Err g c).In-Ok-hand_over in record {
      shown = rw shown i.shown;
      all = rw (limit_in, fields, shown, still g c) i.all;
      admits = rw (limit_in, fields, shown, still g c) i.admits;
      greatest = rw (limit_in, shown) i.greatest;
      tells = e.1 _ (handed.tells _ (room.tells _ (rw shown i.tells)));
      store = rw shown (c.extend_history.ensures.store ∙ i.store);
      within = rw (fields, shown, still g c, updates) (prefix_refl (published_in g.W.Publisher a ++ pending_in g.W.Publisher a));
      beyond = rw (published_in, shown, updates) (pending_in g.W.Publisher a, refl);
      profile = rw shown i.profile;
      ahead = λ level. absurd (cc);
      free = λ known. c.in-Err.ensures.free (handed.free (room.free (i.free known)));
      held = λ known. absurd (true≢false (sym known ∙ (ap (λ (store : StoreData). store.held) c.self.view_is ∙ c.requires)));
    }

pub returns-in-Err-clause-unchanged : goal.returns-in-Err-clause-unchanged
returns-in-Err-clause-unchanged g c =
    let shown = c.in-Err.ensures.unchanged.0 ∙ (c.in-Ok-hand_over.ensures.shown ∙ c.in-Ok.ensures.shown) in
    rw (store_of, fields, shown, still g c) (ap (λ (store : StoreData). record store { ahead = true }) c.self.view_is)
