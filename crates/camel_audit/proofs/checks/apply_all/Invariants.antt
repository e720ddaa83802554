use Rattle.std.proofs.Common.{◌≡◌, drop}
use Rattle.camel_rows.specs.Update.{records_from}
use Rattle.camel_audit.proofs.checks.apply_all.Given as goal

-- the updates that are left make of the records what all of them make of those at the start
abbrev pub invariant-loop-update : goal.invariant-loop-update
invariant-loop-update l = records_from l.records (drop l.update-index l.updates) ≡ records_from l.fn.records l.updates
