use Rattle.std.proofs.Common.{◌≡◌, List, take}
use Rattle.camel_rows.specs.declared.subscriber.update.Update.{Update}
use Rattle.camel_c.specs.Updates.{HoldUpdates}
use Rattle.camel_c.proofs.update.hold_updates.Given as goal

-- the handles are as before, and the first ones hold updates
abbrev pub invariant-loop-at : goal.invariant-loop-at
invariant-loop-at l = record {
  same : l.handles ≡ l.initial.handles;
  so_far : (held : List Update) × HoldUpdates (take l.at l.initial.handles) held;
}
