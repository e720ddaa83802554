use Rattle.std.proofs.Common.{All, take}
use Rattle.camel_replay_lib.specs.Rounds.{FrontIsAtMost}
use Rattle.camel_replay_lib.proofs.threaded_replay.round.check_fronts.Given as goal

abbrev pub invariant-loop-at : goal.invariant-loop-at
invariant-loop-at l = All (FrontIsAtMost l.fn.front) (take l.at l.entries)
