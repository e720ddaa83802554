use Rattle.std.proofs.Common.{◌≡◌, ◌≤◌, length}
use Rattle.two_copies.specs.Restoring.{restored_from}
use Rattle.two_copies.proofs.log.restore_all.Given as goal

abbrev pub invariant-loop-operation : goal.invariant-loop-operation
invariant-loop-operation g l = record {
  alike : restored_from g.T.Apply.restored (g.T.Apply.state l.shown) (g.T.Apply.state l.copy) l.operations.items
      ≡ restored_from g.T.Apply.restored (g.T.Apply.state l.shown) (g.T.Apply.state l.fn.copy) l.fn.operations.items;
  fewer : length l.operations.items ≤ length l.fn.operations.items;
}

abbrev pub decreases-loop-operation : goal.decreases-loop-operation
decreases-loop-operation g l = length l.operations.items
