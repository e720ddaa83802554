use Rattle.std.proofs.Common.{◌∙◌, ℕ, ◌+◌, length, sym, subst}
use Rattle.std.proofs.lemmas.Bool.{false≢true}
use Rattle.camel_audit.specs.Audit.{PassesInPart, is_in_part}
use Rattle.camel_replay_lib.proofs.SessionTaskLemmas.{parts_pass}
use Rattle.camel_replay_lib.proofs.threaded_replay.session_lines.audit_in_scope.Goals as goal
use Rattle.camel_replay_lib.proofs.threaded_replay.session_lines.audit_in_scope.Goals.{then-own, else-own}

pub audit_unless-requires : goal.audit_unless-requires
audit_unless-requires g c = λ yes.
    let profile = c.args.profile in
    let updates = c.args.updates.now in
    let transcripts = c.args.transcripts.now in
    let sessions = length transcripts in
    let part = c.part_of in
    elim c.if-own.branch [
      | then-own w ↦
          let own : PassesInPart (is_in_part (sessions + 1) 0) profile updates transcripts =
          subst (λ (count : ℕ). PassesInPart (is_in_part count 0) profile updates transcripts) part.ensures.count
          (subst (λ (number : ℕ). PassesInPart (is_in_part part.result.count number) profile updates transcripts) part.ensures.number
          (c.passes_alone-own.ensures w.if-own.true)) in
          parts_pass sessions profile updates transcripts own (c.in_ok-started.ensures.parts (c.join_all-passes.ensures.passes (sym w.audit_unless-is ∙ yes)))
      | else-own w ↦ absurd (false≢true (sym w.if-own.false ∙ sym w.audit_unless-is ∙ yes))
    ]
