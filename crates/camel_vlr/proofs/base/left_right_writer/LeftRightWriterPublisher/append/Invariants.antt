use Rattle.std.proofs.Common.{◌≡◌, ◌++◌, length}
use Rattle.camel_vlr.specs.Operation.{pending_operations}
use Rattle.camel_vlr.proofs.base.left_right_writer.LeftRightWriterPublisher.append.Given as goal

abbrev pub invariant-loop-operation : goal.invariant-loop-operation
invariant-loop-operation l = record {
  desk : l.self.desk ≡ l.fn.self.desk;
  pending : pending_operations l.self ++ l.operations.items ≡ pending_operations l.fn.self ++ l.fn.operations.items;
}

abbrev pub decreases-loop-operation : goal.decreases-loop-operation
decreases-loop-operation l = length l.operations.items
