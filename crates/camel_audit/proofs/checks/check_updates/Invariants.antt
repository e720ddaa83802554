use Rattle.std.proofs.Common.{◌≡◌, take}
use Rattle.camel_rows.specs.Update.{Accepted, records_of}
use Rattle.camel_audit.proofs.checks.check_updates.Given as goal

-- the updates so far are accepted, and have left these records
abbrev pub invariant-loop-at : goal.invariant-loop-at
invariant-loop-at l = record {
  accepted : Accepted (take l.at l.updates);
  records : l.records ≡ records_of (take l.at l.updates);
}
