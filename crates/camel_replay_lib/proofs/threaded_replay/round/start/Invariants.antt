use Rattle.std.proofs.Common.{Some}
use Rattle.camel_replay_lib.proofs.threaded_replay.round.start.Given as goal

-- the store of the session, and so of the receipt
abbrev pub ghosts-spawn_worker : goal.ghosts-spawn_worker
ghosts-spawn_worker g a = record { store = Some a.session.store }
