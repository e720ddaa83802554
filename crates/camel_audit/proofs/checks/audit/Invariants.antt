use Rattle.std.proofs.Common.{All, take}
use Rattle.camel_audit.specs.Audit.{AreExplained}
use Rattle.camel_rows.specs.Update.{Accepted}
use Rattle.camel_audit.proofs.checks.audit.Given as goal

-- the transcripts so far are explained
abbrev pub invariant-loop-session : goal.invariant-loop-session
invariant-loop-session l = record {
  accepted : Accepted l.updates;
  explained : All (AreExplained l.profile l.updates 0) (take l.session l.transcripts);
}
