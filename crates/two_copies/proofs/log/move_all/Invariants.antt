use Rattle.std.proofs.Common.{◌≡◌, ◌≤◌, length}
use Rattle.std.specs.Prelude.{fold}
use Rattle.two_copies.proofs.log.move_all.Given as goal

abbrev pub invariant-loop-operation : goal.invariant-loop-operation
invariant-loop-operation g l = record {
  alike : fold g.T.Apply.applied (g.T.Apply.state l.copy) l.operations.items ≡ fold g.T.Apply.applied (g.T.Apply.state l.fn.copy) l.fn.operations.items;
  fewer : length l.operations.items ≤ length l.fn.operations.items;
}

abbrev pub decreases-loop-operation : goal.decreases-loop-operation
decreases-loop-operation g l = length l.operations.items
