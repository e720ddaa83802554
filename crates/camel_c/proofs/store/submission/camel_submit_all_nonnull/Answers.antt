use Rattle.std.proofs.Common.{List, inl, subst}
use Rattle.camel_rows.specs.declared.subscriber.update.Update.{Update}
use Rattle.camel_c.proofs.HandleLemmas.{held_once}
use Rattle.camel_c.specs.Submission.{SubmitsAll}
use Rattle.camel_c.specs.Updates.{HoldUpdates}
use Rattle.camel_c.specs.declared.handle.CamelHandle.{CamelHandle}
use Rattle.camel_c.proofs.store.submission.camel_submit_all_nonnull.Goals as goal

pub returns-in-Ok-clause-submits : goal.returns-in-Ok-clause-submits
returns-in-Ok-clause-submits c = λ held holds.
    let a = c.args in
    let s = c.submit_copies in
    let copied = subst (λ (handles : List CamelHandle). HoldUpdates handles c.in-Ok.copies.items) c.hold_updates.ensures.same
    c.in-Ok.ensures.copied in
    let same = held_once a.updates.now c.in-Ok.copies.items held copied holds in
    inl (subst (λ (updates : List Update). SubmitsAll updates s.result s.new.rejected a.store.now.value s.new.store.value)
    same s.ensures)
