use Rattle.std.proofs.Common.{◌≡◌, ◌∙◌, List, ⊎_elim, sym, subst, arith}
use Rattle.camel_criteria.specs.declared.refusal.Refusal.TheVariants as refusal
use Rattle.camel_c.proofs.HandleLemmas.{held_at, if_err}
use Rattle.camel_c.specs.Updates.{HoldUpdates}
use Rattle.camel_c.specs.declared.failure.Failure.TheVariants as failure
use Rattle.camel_c.specs.declared.handle.CamelHandle.{CamelHandle}
use Rattle.camel_c.proofs.update.copies_of.Goals as goal

pub returns-in_err-copied-clause-wrong : goal.returns-in_err-copied-clause-wrong
returns-in_err-copied-clause-wrong c = λ held holds.
    let at = c.loop-at.at in
    let other = c.index-handles-at.result in
    let as_before = subst (λ (handles : List CamelHandle). HoldUpdates handles held) (sym c.loop-at.invariant.same) holds in
    let why = c.in_err-copied.field-0.0 in
    let refused : why ≡ failure.Refused refusal.OutOfMemory = ⊎_elim (λ memory. memory.0)
    (λ none. absurd (held_at c.loop-at.handles held at other as_before
    (omega (arith, c.loop-at-test.true, c.loop-at.auto.at-end, c.loop-at.auto.handles)) none.1)) c.in_err-copied.ensures.only in
    if_err c.from_residual.result _ _ c.from_residual.ensures.1 (λ told same. same ∙ refused)
