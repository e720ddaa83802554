-- Updates that are accepted together and published, and the sessions that are told.
use Rattle.std.proofs.Common.{◌≡◌, true, List, [], ◌∷◌, ap, subst, sym, ◌≢◌, ◌∙◌, ◌⊎◌, ℕ, Bool, false, not, length, inl}
use Rattle.std.proofs.Common.{inr, ⊎_elim, refl, true≢false, ◌++◌}
use Rattle.std.specs.List.{AllZip}
use Rattle.std.specs.Prelude.{Option, Some, fold}
use Rattle.std.proofs.lemmas.List.{append-nil, append_assoc}
use Rattle.camel_c.specs.Object.{HoldsFreeStore, live_store}
use Rattle.camel_c.specs.Publication.{AllReady, AreReady, Commits, ShowsNoMore, with_cleared, AllLearn, AllMayLook}
use Rattle.camel_c.specs.declared.handle.CamelHandle.{CamelHandle}
use Rattle.camel_c.specs.declared.store.LiveStore.{LiveStore}
use Rattle.camel_c.specs.declared.object.Object.{Object}
use Rattle.camel_c.specs.declared.store.Stage.{Stage}
use Rattle.camel_rows.specs.declared.subscriber.update.Update.{Update}
use Rattle.camel_vlr.specs.Store.{StoreData, with_none_pending, AcceptsAll, submission_refusal, with_accepted}
use Rattle.camel_c.specs.Session.{with_published, receipt_of}
use Rattle.camel_c.specs.Submission.{AcceptsTogether, RejectsTogether, TakesAll, with_all_pending}
use Rattle.camel_c.specs.declared.object.Object.TheVariants as object
use Rattle.camel_c.specs.declared.store.Stage.TheVariants as stage

-- Sessions that a publication is told to.

-- what holds of each item and itself holds of a list and itself
pub all_of_itself : {A : Type 0} (R : A → A → Type 0) → ((a : A) → R a a) → (items : List A) → AllZip R items items
all_of_itself R same [] = tt
all_of_itself R same (first ∷ rest) = (same first, all_of_itself R same rest)

live_at : LiveStore → Stage → LiveStore
live_at other (stage.Live live) = live
live_at other stage = other

live_in : LiveStore → Option Object → LiveStore
live_in other (Some (object.Store store)) = live_at other store.stage
live_in other held = other

-- a handle holds one store
pub same_live : (one other : LiveStore) → Some (live_store one) ≡ Some (live_store other) → other ≡ one
unfolding live_in live_at
same_live one other is = sym (ap (live_in one) is)

-- the sessions are those of the store that is there
pub ready_of : (live : LiveStore) (sessions : List CamelHandle) → AreReady (Some (live_store live)) sessions
    → AllReady live.number sessions
ready_of live sessions ready =
    subst (λ (l : LiveStore). AllReady l.number sessions) (same_live live ready.0 ready.1) ready.2

pub free_of : (live : LiveStore) → HoldsFreeStore (Some (live_store live)) → live.vlr.free ≡ true
free_of live free = subst (λ (l : LiveStore). l.vlr.free ≡ true) (same_live live free.0 free.1) free.2

-- What becomes of updates that are committed, step by step.

-- a store that is cleared
pub cleared : (live : LiveStore) (dropped known : StoreData) (free : Bool) → dropped ≡ with_none_pending live.vlr
    → known ≡ record dropped { free = free; held = not free } → free ≡ true
    → record live { vlr = known } ≡ with_cleared live
cleared live dropped known true drops knows is = ap (λ (vlr : StoreData). record live { vlr = vlr })
    (knows ∙ ap (λ (vlr : StoreData). record vlr { free = true; held = false }) drops)
cleared live dropped known false drops knows is = absurd (true≢false (sym is))

-- a store that is cleared has published no more
no_more : (live after : LiveStore) → after ≡ with_cleared live → ShowsNoMore live after
no_more live after is = subst (λ (l : LiveStore). ShowsNoMore live l) (sym is) refl

-- the updates are not accepted
pub not_taken : (updates : List Update) (status rejected : ℕ) (live before after : LiveStore) (sessions : List CamelHandle)
    → before ≡ with_cleared live → TakesAll updates status rejected before after → status ≢ 0
    → Commits updates status rejected live after sessions sessions
not_taken updates status rejected live before after sessions is takes failed =
    let same : after ≡ with_cleared live = takes.unchanged failed ∙ is in
    ⊎_elim (λ done. absurd (failed done)) (⊎_elim
    (λ memory. inr (inr (inr (inl (record { status_is = memory.0; none = memory.1; store = no_more live after same; same = refl })))))
    (λ why. inr (inl (record {
      why = why.0;
      status_is = why.1;
      is = subst (λ (l : LiveStore). RejectsTogether l.vlr updates rejected why.0) is why.2;
      store = same;
      same = refl;
    }))))
    takes.refused

-- they are accepted, and published or dropped
pub taken : (updates : List Update) (status published rejected : ℕ) (live before between after : LiveStore)
    (sessions left : List CamelHandle)
    → before ≡ with_cleared live → TakesAll updates status rejected before between → status ≡ 0
    → (published ≡ 0 → (after ≡ with_published between) × AllLearn (receipt_of after) sessions left)
    → (published ≡ 102 → ShowsNoMore between after × (left ≡ sessions))
    → ((published ≡ 104) ⊎ (published ≡ 505) → (after ≡ with_published between) × AllMayLook sessions left)
    → (published ≡ 0) ⊎ ((published ≡ 102) ⊎ ((published ≡ 104) ⊎ (published ≡ 505)))
    → Commits updates published rejected live after sessions left
taken updates status published rejected live before between after sessions left is takes done shows refuses unseen only =
    let pending : between ≡ with_all_pending updates (with_cleared live) =
    (takes.taken done).0 ∙ ap (with_all_pending updates) is in
    let none : rejected ≡ length updates = takes.none done in
    ⊎_elim
    (λ zero. inl (record {
      status_is = zero;
      none = none;
      after_is = (shows zero).0 ∙ ap with_published pending;
      accepted = subst (λ (l : LiveStore). AcceptsTogether l.vlr updates) is (takes.taken done).1;
      learnt = (shows zero).1;
    }))
    (⊎_elim
    (λ memory. inr (inr (inr (inl (record {
      status_is = memory;
      none = none;
      store = subst (λ (l : LiveStore). ShowsNoMore l after) pending (refuses memory).0;
      same = (refuses memory).1;
    })))))
    (λ none_seen. inr (inr (inr (inr (record {
      status_is = none_seen;
      store = (unseen none_seen).0 ∙ ap with_published pending;
      looked = (unseen none_seen).1;
    }))))))
    only

-- What a store has accepted together is pending behind the others.

-- the store with these updates pending
with_list : StoreData → List Update → StoreData
with_list store pending = record store { updates = record store.updates { pending = pending } }

pub all_pending : (store : StoreData) (updates : List Update)
    → fold with_accepted store updates ≡ record store { updates = record store.updates { pending = store.updates.pending ++ updates } }
unfolding with_list
all_pending store [] = ap (λ (l : List Update). with_list store l) (sym (append-nil store.updates.pending))
all_pending store (update ∷ more) =
    all_pending (with_accepted store update) more
    ∙ ap (λ (l : List Update). with_list store l) (append_assoc store.updates.pending (update ∷ []) more)

-- several updates are accepted together if each is over those before it
pub several_accepted : (store : StoreData) (updates : List Update) → length updates ≢ 1
    → AcceptsAll submission_refusal with_accepted store updates → AcceptsTogether store updates
several_accepted store [] several accepts = accepts
several_accepted store (one ∷ []) several accepts = absurd (several refl)
several_accepted store (one ∷ two ∷ more) several accepts = accepts
