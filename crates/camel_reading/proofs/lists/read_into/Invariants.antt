use Rattle.std.proofs.Common.{◌≡◌, drop, length, take}
use Rattle.std.specs.Fn.{FnReturnsAt}
use Rattle.camel_reading.specs.Reading.{AnswersAs, each_of}
use Rattle.camel_reading.proofs.EachLemmas.{behind}
use Rattle.camel_reading.proofs.lists.read_into.Given as goal

-- the first places have the values so far, and with those of the items that are left behind them they are those of all
abbrev pub invariant-loop-at : goal.invariant-loop-at
invariant-loop-at g l = record {
  whole : length l.room ≡ length l.fn.room;
  so_far : (value_of : _) → AnswersAs g.W.Fault.is_out_of_memory (FnReturnsAt g.F.Fn l.read) value_of
      → behind (take l.at l.room) (each_of value_of (drop l.at l.items)) ≡ each_of value_of l.items;
}
