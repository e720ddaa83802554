use Rattle.std.proofs.Common.{◌≡◌, ◌-◌, ◌≤◌, length}
use Rattle.std.specs.Prelude.{fold, take}
use Rattle.two_copies.proofs.log.apply_from.Given as goal

abbrev pub invariant-loop-done : goal.invariant-loop-done
invariant-loop-done g l = record {
  bound : l.done ≤ length l.operations.items;
  alike : (first : _) → g.T.Apply.state l.fn.copy ≡ fold g.T.Apply.applied first (take l.fn.done l.operations.items)
      → g.T.Apply.state l.copy ≡ fold g.T.Apply.applied first (take l.done l.operations.items);
}

abbrev pub decreases-loop-done : goal.decreases-loop-done
decreases-loop-done g l = length l.operations.items - l.done
