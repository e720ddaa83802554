use Rattle.std.proofs.Common.{arith, ◌≡◌, ◌∙◌, ℕ, subst}
use Rattle.camel_audit.proofs.PartLemmas.{passes_whole}
use Rattle.camel_audit.specs.Audit.{PassesInPart, is_in_part}
use Rattle.camel_audit.proofs.checks.passes_whole.Goals as goal

pub returns-clause-passes : goal.returns-clause-passes
returns-clause-passes c = λ ok.
    let passes = c.passes_in_part.ensures.passes ok in
    let profile = c.args.profile in
    let updates = c.args.updates.now in
    let transcripts = c.args.transcripts.now in
    passes_whole 1 (omega arith) profile updates transcripts (λ part within.
    let only : c.whole.result.number ≡ part = c.whole.ensures.number ∙ omega (arith, within) in
    subst (λ (number : ℕ). PassesInPart (is_in_part 1 number) profile updates transcripts) only
    (subst (λ (count : ℕ). PassesInPart (is_in_part count c.whole.result.number) profile updates transcripts) c.whole.ensures.count passes))
