use Rattle.std.proofs.Common.{rules, take_all}
use Rattle.std.proofs.lemmas.List.Elements.{All-more}
use Rattle.camel_audit.specs.Audit.{AreExplained}
use Rattle.camel_audit.proofs.checks.audit.Goals as goal

pub loop-session-preserved : goal.loop-session-preserved
loop-session-preserved c =
    let so_far = c.loop-session.invariant in record {
      accepted = so_far.accepted;
      explained = All-more (AreExplained c.args.profile c.args.updates.now 0) c.args.transcripts.now c.loop-session.session
          c.index-transcripts-session.result (search rules) so_far.explained (search rules);
    }

pub returns-clause-passes : goal.returns-clause-passes
returns-clause-passes c =
    let so_far = c.loop-session.invariant in
    record { accepted = so_far.accepted; explained = rw (← take_all c.loop-session.session c.args.transcripts.now (search rules)) so_far.explained }
