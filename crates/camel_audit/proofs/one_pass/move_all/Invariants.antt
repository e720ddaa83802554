use Rattle.camel_audit.specs.Audit.{AreExplainedTo, is_member}
use Rattle.camel_audit.proofs.one_pass.move_all.Given as goal

abbrev pub invariant-loop-session : goal.invariant-loop-session
invariant-loop-session l = AreExplainedTo (is_member l.part) l.profile l.front l.transcripts l.places
