use Rattle.std.proofs.Common.{◌≡◌, ◌++◌, map, length}
use Rattle.camel_replay_lib.specs.Rounds.{entries_in}
use Rattle.camel_replay_lib.proofs.threaded_replay.transcripts_of.Given as goal

abbrev pub invariant-seats : goal.invariant-seats
invariant-seats l = l.transcripts.items ++ map entries_in l.seats.items ≡ map entries_in l.fn.seats.items

abbrev pub decreases-seats : goal.decreases-seats
decreases-seats l = length l.seats.items
