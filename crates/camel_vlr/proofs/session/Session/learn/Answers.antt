use base.Growing.{prefix_refl}
use Rattle.std.proofs.Common.{◌∙◌, List, [], ◌∷◌, ◌++◌, ap, sym, refl}
use Rattle.camel_rows.specs.declared.subscriber.update.Update.{Update}
use Rattle.camel_vlr.proofs.SessionLemmas.{all_further, all_push}
use Rattle.camel_vlr.proofs.session.Session.learn.Goals as goal

pub invariant_of-self : goal.invariant_of-self
invariant_of-self g c =
    let a = c.self.inside in let i = c.self.invariant in let new = c.args.receipt.updates in
    let told = c.with.ensures ∙ ap (λ (h : List (List Update)). h ++ new ∷ []) (ap (λ s. s.value) c.replace-before.ensures.value) in record {
      copy = i.copy;
      knows = i.knows;
      told = rw told (all_push new a.told.value new
          (all_further new a.longest.updates a.told.value (c.if-is_prefix_of.ensures.yes refl) i.told) (prefix_refl new));
      store = c.requires ∙ sym (ap (λ s. s.store) (c.self.view_is ∙ c.leave.ensures));
      front = i.front;
      profile = i.profile;
    }

pub invariant_of-self-else-is_prefix_of : goal.invariant_of-self-else-is_prefix_of
invariant_of-self-else-is_prefix_of g c =
    let a = c.self.inside in let i = c.self.invariant in let new = c.args.receipt.updates in
    let told = c.with.ensures ∙ ap (λ (h : List (List Update)). h ++ new ∷ []) (ap (λ s. s.value) c.replace-before.ensures.value) in record {
      copy = i.copy;
      knows = i.knows;
      told = rw told (all_push a.longest.updates a.told.value new i.told (c.if-is_prefix_of.ensures.no refl));
      store = i.store;
      front = i.front;
      profile = i.profile;
    }
