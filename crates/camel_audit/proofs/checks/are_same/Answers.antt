use Rattle.std.proofs.Common.{rules, ◌≡◌, ◌∙◌, true, sym}
use Rattle.camel_rows.specs.contracts.trigger.outcome.OutcomePartialEq.TheImpl as outcomes
use Rattle.camel_rows.specs.declared.trigger.outcome.Outcome.{Outcome}
use Rattle.camel_rows.specs.declared.trigger.outcome.Outcome.TheVariants.{Trigger, NoTrigger}
use Rattle.camel_audit.proofs.checks.are_same.Goals as goal

same : (one other : Outcome) → outcomes.ghosts.eq one other ≡ true → one ≡ other
same (Trigger dp key scf handling) (Trigger dp' key' scf' handling') is = search rules
same (NoTrigger reason) (NoTrigger reason') is = search rules
same (Trigger dp key scf handling) (NoTrigger reason') is = absurd (cc)
same (NoTrigger reason) (Trigger dp' key' scf' handling') is = absurd (cc)

pub returns-clause-yes : goal.returns-clause-yes
returns-clause-yes c is = same _ _ (sym c.eq.ensures ∙ is)
