use Rattle.std.proofs.Common.{◌≡◌, ◌++◌, List, length}
use Rattle.std.specs.List.{AllZip}
use Rattle.camel_replay_lib.specs.Rounds.{IsJoined}
use Rattle.camel_replay_lib.specs.declared.threaded_replay.round.Worker.{Worker}
use Rattle.camel_replay_lib.proofs.threaded_replay.round.join_all.Given as goal

abbrev pub invariant-workers : goal.invariant-workers
invariant-workers g l = record {
  done : List Worker;
  whole : done ++ l.workers.items ≡ l.fn.workers.items;
  joined : AllZip (IsJoined l.fn.front) done l.seats.items;
}

abbrev pub decreases-workers : goal.decreases-workers
decreases-workers g l = length l.workers.items
