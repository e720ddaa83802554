use Rattle.std.proofs.Common.{◌-◌, ◌≤◌, length, take}
use Rattle.camel_vlr.specs.Operation.{HasAll, IsRestored, updates_among}
use Rattle.camel_vlr.proofs.writer.dropping.restore_each.Given as goal

abbrev pub invariant-loop-at : goal.invariant-loop-at
invariant-loop-at l = record {
  bound : l.at ≤ length l.operations.items;
  has : HasAll l.records l.admission.directory;
  restored : IsRestored l.records (updates_among (take l.at l.operations.items)) l.fn.admission l.admission;
}

abbrev pub decreases-loop-at : goal.decreases-loop-at
decreases-loop-at l = length l.operations.items - l.at
