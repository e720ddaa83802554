-- What the fields of a store keep of the updates that it accepts, one and several together.
use Rattle.std.proofs.Common.{◌≡◌, ◌∙◌, ℕ, List, [], ◌∷◌, ◌++◌, append-nil, append_assoc, Option, Some, None, fold}
use Rattle.std.proofs.Common.{refl, sym, ap, subst, true≢false, Bool, true, false, not, ◌≤◌, rules, ◌-◌, IsSome}
use base.Growing.{prefix_trans}
use Rattle.std.specs.Prelude.{unwrap_or}
use Rattle.camel_criteria.specs.declared.refusal.Refusal.{Refusal}
use Rattle.camel_rows.proofs.StoreLemmas.{IsAdmissionOf-with_update, IsFront-with_update, admits, IsAdmissionOf-empty}
use Rattle.camel_rows.proofs.StoreLemmas.{taken_back}
use Rattle.camel_rows.specs.Store.{AdmissionData, admission_refusal, IsAdmissionOfUpdates, accepted_updates}
use Rattle.camel_rows.specs.Store.{with_admission}
use Rattle.camel_rows.specs.Update.{IsFront, with_value}
use Rattle.camel_rows.specs.declared.subscriber.update.Update.{Update}
use Rattle.camel_vlr.specs.Store.{AcceptsAll, RejectsAt, refusal_among, StoreData, submission_refusal, with_accepted}
use Rattle.camel_vlr.specs.StoreFields.{admitted, IsNew, IsStore, limit_in, operations_in, pending_in, published_in}
use Rattle.camel_vlr.specs.StoreFields.{store_of, updates_in, AllTakenBackTo, IsTakenBackTo}
use Rattle.camel_vlr.specs.Seat.{IsOfItsFront}
use Rattle.camel_vlr.specs.declared.base.publisher.Publisher.{Ghosts}
use Rattle.camel_vlr.specs.declared.writer.TheConstants.{MAX_UPDATES}
use Rattle.camel_vlr.specs.declared.writer.Vlr.TheInside.{Inside}
use Rattle.camel_rows.proofs.UpdateLemmas.{get-with_value_there}
use Rattle.camel_rows.specs.declared.subscriber.csis_present.CsisPresent.{CsisPresent}
use Rattle.camel_vlr.specs.declared.writer.group.Accepted.{Accepted}
use Rattle.std.specs.FinMap as map

-- The updates that an admission accepts one after the other are those that its store accepts.

-- the accepted updates of a store are a front, of which this is the admission
pub record IsOf (admission : AdmissionData) (store : StoreData) : Type 0 where
  pub admits : IsAdmissionOfUpdates admission store.store.limit store.updates
  pub front : IsFront store.store.limit (accepted_updates store.updates)

not_refused : (why : Option Refusal) (update : Update) → refusal_among why update ≡ None → why ≡ None
not_refused (Some why) update e = absurd (cc)
not_refused None update e = refl

-- it refuses what the store refuses
pub same_refusal : (admission : AdmissionData) (store : StoreData) (update : Update) → IsOf admission store
    → admission_refusal admission update ≡ submission_refusal store update
same_refusal admission store update is = admits admission store.store.limit store.updates update is.admits

-- with an accepted update more
with_one : (admission : AdmissionData) (store : StoreData) (update : Update) → IsOf admission store
    → refusal_among (admission_refusal admission update) update ≡ None → IsOf (admitted admission update) (with_accepted store update)
with_one admission store update is taken =
    let accepted = sym (same_refusal admission store update is) ∙ not_refused (admission_refusal admission update) update taken in record {
      admits = IsAdmissionOf-with_update admission store.store.limit store.updates update is.admits accepted;
      front = IsFront-with_update store.store.limit store.updates update is.front accepted;
    }

-- with all of these
pub with_all : (admission : AdmissionData) (store : StoreData) (updates : List Update) → IsOf admission store
    → AcceptsAll admission_refusal admitted admission updates → IsOf (fold admitted admission updates) (fold with_accepted store updates)
with_all admission store [] is all = is
with_all admission store (update ∷ updates) is all =
    with_all (admitted admission update) (with_accepted store update) updates (with_one admission store update is all.0) all.1

-- the store accepts them
pub accepts : (admission : AdmissionData) (store : StoreData) (updates : List Update) → IsOf admission store
    → AcceptsAll admission_refusal admitted admission updates → AcceptsAll submission_refusal with_accepted store updates
accepts admission store [] is all = tt
accepts admission store (update ∷ updates) is all = (
  subst (λ (why : Option Refusal). refusal_among why update ≡ None) (same_refusal admission store update is) all.0,
  accepts (admitted admission update) (with_accepted store update) updates (with_one admission store update is all.0) all.1,
)

-- the store rejects the same one, for the same reason
pub rejects : (admission : AdmissionData) (store : StoreData) (updates : List Update) (at : ℕ) (why : Refusal) → IsOf admission store
    → RejectsAt admission_refusal admitted admission updates at why → RejectsAt submission_refusal with_accepted store updates at why
rejects admission store updates at why is r = record {
  before = r.before;
  rejected = r.rejected;
  behind = r.behind;
  order = r.order;
  place = r.place;
  accepts = accepts admission store r.before is r.accepts;
  refused = subst (λ (own : Option Refusal). refusal_among own r.rejected ≡ Some why)
      (same_refusal (fold admitted admission r.before) (fold with_accepted store r.before) r.rejected (with_all admission store r.before is r.accepts))
      r.refused;
}

-- the store with these updates pending
abbrev pub with_pending : StoreData → List Update → StoreData
with_pending store pending = record store { updates = record { published = store.updates.published; pending = pending } }

-- all of them are pending, behind those before them
pub with_all-pending : (store : StoreData) (updates : List Update)
    → fold with_accepted store updates ≡ with_pending store (store.updates.pending ++ updates)
with_all-pending store [] = ap (with_pending store) (sym (append-nil store.updates.pending))
with_all-pending store (update ∷ updates) =
    with_all-pending (with_accepted store update) updates
    ∙ ap (with_pending store) (append_assoc store.updates.pending (update ∷ []) updates)

-- What the fields of a store keep, with more updates pending and as it begins.

pub ruleset fields = (updates_in, published_in, pending_in, operations_in)

module _ {W S : Type 0} (g : Ghosts W S) (a : Inside W S) where
  pub own : IsStore g a → IsOf a.state.admission (store_of g a)
  own i = record { admits = i.admits; front = i.all }

  pub with_more : (b : Inside W S) (updates : List Update) → b ≡ record a { state = record a.state { pending = b.state.pending; admission = b.state.admission } } → IsStore g a
      → pending_in g (record a { state = record a.state { pending = b.state.pending; admission = b.state.admission } }) ≡ pending_in g a ++ updates
      → IsOf b.state.admission (with_pending (store_of g a) (pending_in g a ++ updates)) → IsStore g b
  with_more b updates same i more is =
      let p = published_in g a in let q = pending_in g a in
      subst (IsStore g) (sym same) (record {
        shown = i.shown;
        all = rw (limit_in, updates_in, published_in, more) is.front;
        admits = rw (limit_in, updates_in, published_in, more) is.admits;
        greatest = i.greatest;
        tells = i.tells;
        store = i.store;
        within = rw (updates_in, published_in, more)
            (prefix_trans a.state.history.updates (p ++ q) (p ++ (q ++ updates)) i.within (updates, append_assoc p q updates));
        beyond = i.beyond;
        profile = i.profile;
        free = i.free;
        held = i.held;
        ahead = i.ahead;
      })

  -- a store begins with no updates
  pub begins : IsOfItsFront (g.shown a.writer) → IsNew (g.shown a.writer).front a.state → published_in g a ≡ [] → g.pending a.writer ≡ []
      → limit_in g a ≤ MAX_UPDATES → g.tells a.writer (g.shown a.writer).front → IsStore g a
  begins shown new none handed greatest tells =
      let pending : pending_in g a ≡ [] = rw (pending_in, operations_in, handed, new.none) refl in
      let all : published_in g a ++ pending_in g a ≡ published_in g a = rw pending (append-nil (published_in g a)) in
      let same : a.state.history.updates ≡ published_in g a = ap (λ x. x.updates) new.same in
      record {
        shown = shown;
        all = subst (IsFront (limit_in g a)) (sym all) shown.front;
        admits = rw (updates_in, pending, none, new.admission) (IsAdmissionOf-empty (limit_in g a));
        greatest = greatest;
        tells = tells;
        store = ap (λ x. x.store) new.same;
        within = ([], append-nil a.state.history.updates ∙ (same ∙ sym all));
        beyond = ([], append-nil (published_in g a) ∙ sym same);
        profile = new.profile;
        ahead = λ level. same;
        free = λ known. absurd (true≢false (sym known ∙ ap (λ (k : Option Bool). unwrap_or k false) new.unknown));
        held = λ known. absurd (true≢false (sym known ∙ ap (λ (k : Option Bool). not (unwrap_or k true)) new.unknown));
      }

-- Updates that are accepted one after the other, and taken back from the last one on.

-- one more is accepted over those before it
pub AcceptsAll-push : {S : Type 0} (refusal : S → Update → Option Refusal) (after : S → Update → S) (s : S) (updates : List Update) (update : Update)
    → AcceptsAll refusal after s updates → refusal_among (refusal (fold after s updates) update) update ≡ None
    → AcceptsAll refusal after s (updates ++ update ∷ [])
AcceptsAll-push refusal after s [] update all taken = (taken, tt)
AcceptsAll-push refusal after s (first ∷ updates) update all taken =
    (all.0, AcceptsAll-push refusal after (after s first) updates update all.1 taken)

-- the subscriber of an accepted update has a record, if it is the last one
pub is_there : (before admission : AdmissionData) (one : Accepted) → IsTakenBackTo before one admission → IsSome (map.get admission.directory one.imsi)
is_there before admission one (csis, is, was) = rw (is, get-with_value_there before.directory one.imsi (Some csis)) (search rules)

-- taking it back leads to the admission before it
pub leads_back : (before admission : AdmissionData) (one : Accepted) → IsTakenBackTo before one admission
    → record admission { accepted = admission.accepted - 1; directory = with_value admission.directory one.imsi one.before } ≡ before
leads_back before admission one (csis, is, was) =
    let back = λ (made : AdmissionData) (value : Option CsisPresent).
    record made { accepted = made.accepted - 1; directory = with_value made.directory one.imsi value } in
    ap (λ made. back made one.before) is ∙ (ap (back (with_admission before (Some one.imsi) (Some csis))) was ∙ taken_back before one.imsi csis)

-- so it is with the first of several
pub leads_on : (first admission after : AdmissionData) (one : Accepted) (accepted all : List Accepted) → all ≡ one ∷ accepted
    → after ≡ record admission { accepted = admission.accepted - 1; directory = with_value admission.directory one.imsi one.before }
    → AllTakenBackTo first all admission → AllTakenBackTo first accepted after
leads_on first admission after one accepted all order is back =
    let (before, taken, rest) = subst (λ list. AllTakenBackTo first list admission) order back in
    subst (AllTakenBackTo first accepted) (sym (is ∙ leads_back before admission one taken)) rest
