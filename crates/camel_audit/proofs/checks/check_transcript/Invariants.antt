use Rattle.std.proofs.Common.{◌≡◌, ◌≤◌, length, take}
use Rattle.camel_audit.specs.Audit.{AreExplained, last_front}
use Rattle.camel_rows.specs.Update.{records_of}
use Rattle.camel_audit.proofs.checks.check_transcript.Given as goal

-- the entries so far are explained, and the records are those of the last one's front
abbrev pub invariant-loop-at : goal.invariant-loop-at
invariant-loop-at l = record {
  explained : AreExplained l.profile l.updates 0 (take l.at l.fn.transcript);
  last : l.front ≡ last_front 0 (take l.at l.fn.transcript);
  within : l.front ≤ length l.updates;
  records : l.records ≡ records_of (take l.front l.updates);
}
