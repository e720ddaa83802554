use Rattle.std.proofs.Common.{◌∙◌, refl}
use Rattle.camel_script_replay.proofs.StoreLemmas.{IsSound-accept}
use Rattle.camel_script_replay.proofs.store.Store.submit.Goals as goal

pub invariant_of-self-2 : goal.invariant_of-self-2
invariant_of-self-2 c =
    let old = c.self.inside in
    let next = c.in_ok-accept.ensures.accepted ∙ rw (c.imsi.ensures, c.in_ok-csis.ensures.csis) refl in
    rw (c.push_back_reserved.ensures.items, c.reserve.ensures.items)
    (IsSound-accept old.admission c.accept.new.self old.records (record { published = old.published.value; pending = old.pending.items }) c.args.update
    c.self.invariant c.in_ok-csis.ensures.taken next)
