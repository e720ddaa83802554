use Rattle.std.proofs.Common.{◌≡◌, ◌++◌, All, map, length}
use Rattle.camel_replay_lib.specs.Rounds.{AreNumbered, HasNoEntries, session_in}
use Rattle.camel_replay_lib.proofs.threaded_replay.seats_of.Given as goal

abbrev pub invariant-sessions : goal.invariant-sessions
invariant-sessions l = record {
  sessions : map session_in l.seats.items ++ l.sessions.items ≡ l.fn.sessions.items;
  numbered : AreNumbered 0 l.seats.items;
  empty : All HasNoEntries l.seats.items;
}

abbrev pub decreases-sessions : goal.decreases-sessions
decreases-sessions l = length l.sessions.items
