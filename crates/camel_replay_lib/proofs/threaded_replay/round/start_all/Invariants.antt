use Rattle.std.proofs.Common.{◌≡◌, ◌++◌, All, List, length}
use Rattle.camel_replay_lib.specs.Rounds.{AreWorkersOf, IsOfStore}
use Rattle.camel_replay_lib.specs.declared.threaded_replay.seat.Seat.{Seat}
use Rattle.camel_replay_lib.proofs.threaded_replay.round.start_all.Given as goal

abbrev pub invariant-seats : goal.invariant-seats
invariant-seats g l = record {
  done : List Seat;
  whole : done ++ l.seats.items ≡ l.fn.seats.items;
  same_store : All (IsOfStore l.fn.writer.store.store) l.seats.items;
  workers : AreWorkersOf l.fn.writer.store (length l.fn.seats.items) l.fn.calls done l.workers.items;
}

abbrev pub decreases-seats : goal.decreases-seats
decreases-seats g l = length l.seats.items
