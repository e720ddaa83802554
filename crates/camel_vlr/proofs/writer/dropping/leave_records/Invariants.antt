use Rattle.std.proofs.Common.{◌≡◌, ◌-◌, ◌≤◌, true, All, length, take}
use Rattle.camel_rows.specs.Update.{leaves_record}
use Rattle.camel_vlr.specs.Operation.{updates_among}
use Rattle.camel_vlr.proofs.writer.dropping.leave_records.Given as goal

abbrev pub invariant-loop-at : goal.invariant-loop-at
invariant-loop-at l = record {
  bound : l.at ≤ length l.operations.items;
  all : All (λ update. leaves_record update ≡ true) (updates_among (take l.at l.operations.items));
}

abbrev pub decreases-loop-at : goal.decreases-loop-at
decreases-loop-at l = length l.operations.items - l.at
