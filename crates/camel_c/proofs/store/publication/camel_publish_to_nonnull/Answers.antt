use Rattle.std.proofs.Common.{◌≡◌, ◌∙◌, ◌⊎◌, length, inl, inr, ⊎_elim, sym, ap, subst, refl, arith}
use Rattle.std.specs.Prelude.{Some}
use Rattle.camel_c.specs.Object.{HoldsFreeStore, live_store}
use Rattle.camel_c.specs.Publication.{AllReady, AreReady, FirstUnready, IsAsBefore}
use Rattle.camel_c.specs.declared.store.LiveStore.{LiveStore}
use Rattle.camel_c.proofs.PublicationLemmas.{free_of, ready_of, same_live}
use Rattle.camel_c.proofs.store.publication.camel_publish_to_nonnull.Goals as goal

pub returns : goal.returns
returns c =
    let live = c.in-Some.live.now in
    let left = c.publish_to.new.self in
    let sessions = c.args.sessions.now in
    let ensures = c.publish_to.ensures in
    let held : c.args.store.now.value ≡ Some (live_store live) = c.in-Some.ensures.value in
    let whole : LiveStore → _ = λ l. Some (live_store l) in
    let ready : AreReady c.args.store.now.value sessions → AllReady live.number sessions =
    λ all. ready_of live sessions (subst (λ h. AreReady h sessions) held all) in
    record {
      published = λ done. (live, held, ap whole (ensures.published done));
      learnt = λ done. (record { store = left.number; front = length left.vlr.updates.published }, (left, refl, refl), ensures.learnt done);
      held = λ all up. let e = ensures.held (ready all) up in ((live, held, ap whole e.0), e.1);
      refused = λ all refused. let e = ensures.refused (ready all) refused in ((live, left, held, refl, e.0), e.1);
      unseen = λ all unseen. let e = ensures.unseen (ready all) unseen in ((live, held, ap whole e.0), e.1);
      only = λ few all. ensures.only (ready all);
      free = λ free all. ensures.free (free_of live (subst HoldsFreeStore held free)) (ready all);
      many = inl (omega (arith, c.if-sessions-gt-MAX_PLACES.false));
      wrong = λ few. inl (live, held);
      unready = λ few other is. subst (λ (l : LiveStore). AllReady l.number sessions
          ⊎ (FirstUnready l.number sessions c.publish_to.result × IsAsBefore c.args.store.now.value (whole left) sessions c.publish_to.new.sessions))
          (sym (same_live live other (sym held ∙ is)))
          (⊎_elim inl (λ e. inr (e.0, (ap whole e.1 ∙ sym held, e.2))) ensures.unready);
    }
