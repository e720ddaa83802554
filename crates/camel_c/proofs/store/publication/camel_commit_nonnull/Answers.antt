use Rattle.std.proofs.Common.{◌≡◌, ◌∙◌, List, inl, inr, ⊎_elim, refl, sym, ap, subst, arith}
use Rattle.std.specs.Prelude.{Some}
use Rattle.camel_rows.specs.declared.subscriber.update.Update.{Update}
use Rattle.camel_c.specs.Publication.{Commits, ShowsNoMore, AllReady, FirstUnready}
use Rattle.camel_c.specs.Failure.{failure_code}
use Rattle.camel_c.specs.Updates.{HoldUpdates}
use Rattle.camel_c.specs.Object.{live_store}
use Rattle.camel_c.specs.declared.handle.CamelHandle.{CamelHandle}
use Rattle.camel_c.specs.declared.store.LiveStore.{LiveStore}
use Rattle.camel_c.proofs.HandleLemmas.{as_many, held_once}
use Rattle.camel_c.proofs.PublicationLemmas.{same_live}
use Rattle.camel_c.proofs.store.publication.camel_commit_nonnull.Goals as goal

pub commit-requires : goal.commit-requires
commit-requires c =
    subst (λ (handles : List CamelHandle). AllReady c.in-Some.live.now.number handles) (sym c.first_unready-unready.ensures.same)
    (c.first_unready-unready.ensures.ready c.if-unready-ne0.false)

pub returns-in-Ok-clause-commits : goal.returns-in-Ok-clause-commits
returns-in-Ok-clause-commits c =
    let live = c.in-Some.live.now in
    let whole : LiveStore → _ = λ l. Some (live_store l) in
    let held_one : c.args.store.now.value ≡ whole live = c.in-Some.ensures.value in
    let copied = subst (λ (handles : List CamelHandle). HoldUpdates handles c.in-Ok.copies.items) c.hold_updates.ensures.same
    c.in-Ok.ensures.copied in
    let ready = c.first_unready-unready.ensures.ready c.if-unready-ne0.false in
    let commits = subst (λ (sessions : List CamelHandle).
    Commits c.in-Ok.copies.items c.commit.result c.commit.new.rejected live c.commit.new.self sessions c.commit.new.sessions)
    c.first_unready-unready.ensures.same c.commit.ensures in
    record {
      commits = λ other held few holds is all. (
        c.commit.new.self,
        refl,
        subst (λ (l : LiveStore). Commits held c.commit.result c.commit.new.rejected l c.commit.new.self c.args.sessions.now c.commit.new.sessions)
            (sym (same_live live other (sym held_one ∙ is)))
            (subst (λ (updates : List Update). Commits updates c.commit.result c.commit.new.rejected live c.commit.new.self c.args.sessions.now c.commit.new.sessions)
            (held_once c.args.updates.now c.in-Ok.copies.items held copied holds) commits),
      );
      many = inl (omega (arith, c.if-sessions-gt-MAX_PLACES.false));
      none = λ few. inl (c.in-Ok.copies.items, copied);
      wrong = λ few. inl (live, held_one);
      unready = λ few held holds other is.
          inl (subst (λ (l : LiveStore). AllReady l.number c.args.sessions.now) (sym (same_live live other (sym held_one ∙ is))) ready);
    }

pub returns-in-Err-clause-commits : goal.returns-in-Err-clause-commits
returns-in-Err-clause-commits c =
    let live = c.in-Some.live.now in
    let held_one : c.args.store.now.value ≡ Some (live_store live) = c.in-Some.ensures.value in
    let held_by = c.hold_updates.ensures.yes c.if-not-hold_updates.false in
    record {
      commits = λ other held few holds is all.
          let as_held = subst (λ (handles : List CamelHandle). HoldUpdates handles held) (sym c.hold_updates.ensures.same) holds in (
            live,
            refl,
            inr (inr (inr (inl (record {
              status_is = c.code-in-Err.ensures.code ∙ ap failure_code (c.in-Err.ensures.wrong held as_held);
              none = as_many c.args.updates.now held holds;
              store = subst (λ (l : LiveStore). ShowsNoMore l live) (sym (same_live live other (sym held_one ∙ is))) refl;
              same = c.first_unready-unready.ensures.same;
            })))),
          );
      many = inl (omega (arith, c.if-sessions-gt-MAX_PLACES.false));
      none = λ few. inl held_by;
      wrong = λ few. inl (live, held_one);
      unready = λ few held holds other is.
          inl (subst (λ (l : LiveStore). AllReady l.number c.args.sessions.now) (sym (same_live live other (sym held_one ∙ is)))
          (c.first_unready-unready.ensures.ready c.if-unready-ne0.false));
    }

pub returns-then-unready-ne0-clause-commits : goal.returns-then-unready-ne0-clause-commits
returns-then-unready-ne0-clause-commits c =
    let live = c.in-Some.live.now in
    let held_one : c.args.store.now.value ≡ Some (live_store live) = c.in-Some.ensures.value in
    let same_as : (other : LiveStore) → c.args.store.now.value ≡ Some (live_store other) → other ≡ live =
    λ other is. same_live live other (sym held_one ∙ is) in
    record {
      commits = λ other held few holds is all. absurd (c.if-unready-ne0.true (c.first_unready-unready.ensures.only
          (subst (λ (l : LiveStore). AllReady l.number c.args.sessions.now) (same_as other is) all)));
      many = inl (omega (arith, c.if-sessions-gt-MAX_PLACES.false));
      none = λ few. inl (c.hold_updates.ensures.yes c.if-not-hold_updates.false);
      wrong = λ few. inl (live, held_one);
      unready = λ few held holds other is. inr (
        ⊎_elim (λ zero. absurd (c.if-unready-ne0.true zero))
            (λ (first : FirstUnready live.number c.args.sessions.now c.first_unready-unready.result).
            subst (λ (l : LiveStore). FirstUnready l.number c.args.sessions.now c.first_unready-unready.result) (sym (same_as other is)) first)
            c.first_unready-unready.ensures.why,
        (sym held_one, c.first_unready-unready.ensures.same),
      );
    }
