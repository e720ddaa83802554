use Rattle.std.proofs.Common.{rules, ◌≡◌, ◌∙◌, [], None, append-nil, refl}
use Rattle.std.proofs.lemmas.Result.{err_from_is_err_and}
use Rattle.camel_rows.specs.Update.{refusal}
use Rattle.camel_script_replay.proofs.StoreLemmas.{IsPublishing, IsPublishing-next, first-and-rest, not-refused}
use Rattle.camel_script_replay.proofs.store.Store.publish.Goals.{After-pop_front}
use Rattle.camel_script_replay.proofs.store.Store.publish.Goals as goal

pub updates-init : goal.updates-init
updates-init c =
    rw (← c.self.view_is) (record {
      sound = c.self.invariant;
      profile = refl;
      limit = refl;
      accepted = refl;
      grows = ([], append-nil c.self.inside.published.value);
    })

pub returns-in_err-apply-clause-only : goal.returns-in_err-apply-clause-only
returns-in_err-apply-clause-only c =
    let now = c.updates.self-inside in
    let update = c.in-Some.update.now in
    let split = first-and-rest now.pending.items update (search rules) c.in-Some.ensures.lookup in
    let taken : refusal now.records update ≡ None =
    not-refused c.args.self.now now.admission now.records now.profile now.published.value now.pending.items _ update c.updates.invariant split in
    search rules

pub returns-in_err-apply-clause-refused : goal.returns-in_err-apply-clause-refused
returns-in_err-apply-clause-refused c =
    let so_far = c.updates.invariant in
    let returned = err_from_is_err_and c.from_residual.result c.from_residual.ensures.1 in
    rw returned.1 (record { profile = so_far.profile; limit = so_far.limit; accepted = so_far.accepted; grows = so_far.grows })

-- one turn of the publication, on whichever path it ends
turn : (c : After-pop_front) → IsPublishing c.args.self.now c.updates.self-inside.admission c.apply.new.self c.updates.self-inside.profile
    (record { published = c.push.new.list.value; pending = c.pop_front.new.self.items })
turn c =
    let now = c.updates.self-inside in
    let update = c.in-Some.update.now in
    let split = first-and-rest now.pending.items update (search rules) c.in-Some.ensures.lookup ∙ rw c.pop_front.ensures.rest refl in
    IsPublishing-next c.args.self.now now.admission now.records now.profile now.published.value now.pending.items c.pop_front.new.self.items update
    c.updates.invariant split c.apply.new.self c.push.new.list.value c.in_ok-apply.ensures.applied c.push.ensures

pub updates-preserved-in_ok-apply : goal.updates-preserved-in_ok-apply
updates-preserved-in_ok-apply c = turn (goal.at.updates-preserved-in_ok-apply c).After-pop_front

pub updates-preserved-in_ok-apply-2 : goal.updates-preserved-in_ok-apply-2
updates-preserved-in_ok-apply-2 c = turn (goal.at.updates-preserved-in_ok-apply-2 c).After-pop_front

pub updates-preserved-in_ok-apply-3 : goal.updates-preserved-in_ok-apply-3
updates-preserved-in_ok-apply-3 c = turn (goal.at.updates-preserved-in_ok-apply-3 c).After-pop_front

pub updates-preserved-in_ok-apply-4 : goal.updates-preserved-in_ok-apply-4
updates-preserved-in_ok-apply-4 c = turn (goal.at.updates-preserved-in_ok-apply-4 c).After-pop_front
