use Rattle.std.proofs.Common.{◌≡◌, ◌≢◌, ◌+◌, ◌≤◌, length}
use Rattle.camel_script.specs.Script.{Failed, records_left, still_gives}
use Rattle.camel_replay_lib.proofs.ReadLemmas.{HasRead}
use Rattle.camel_replay_lib.proofs.threaded_replay.read.read_all.Given as goal

abbrev pub invariant-records : goal.invariant-records
invariant-records g l = record {
  reads : l.script ≢ Failed;
  place : l.number ≡ length l.records.items + 1;
  room : l.number + records_left l.script ≤ 1000001;
  so_far : HasRead (still_gives l.fn.script) l.records.items (still_gives l.script);
}

abbrev pub decreases-records : goal.decreases-records
decreases-records g l = records_left l.script
