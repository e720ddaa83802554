use Rattle.std.proofs.Common.{◌≡◌, ◌-◌, ◌≤◌, ◌++◌, None}
use Rattle.std.specs.Prelude.{replicate}
use Rattle.two_copies.proofs.place.board.push_fillers.Given as goal

abbrev pub invariant-loop-pushed : goal.invariant-loop-pushed
invariant-loop-pushed g l = record {
  bound : l.pushed ≤ l.count;
  items : l.slots.items ≡ l.fn.slots.items ++ replicate l.pushed None;
}

abbrev pub decreases-loop-pushed : goal.decreases-loop-pushed
decreases-loop-pushed g l = l.count - l.pushed
