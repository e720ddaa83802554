use Rattle.std.proofs.Common.{◌≢◌, ◌+◌, ◌≤◌}
use Rattle.camel_script.specs.Script.{Failed, records_left, still_gives}
use Rattle.camel_script_replay.proofs.Progress.{Progresses}
use Rattle.camel_script_replay.proofs.script_replay.answer_all.Given as goal

abbrev pub invariant-records : goal.invariant-records
invariant-records g l = record {
  reads : l.script ≢ Failed;
  place : 1 ≤ l.number;
  room : l.number + records_left l.script ≤ 1000001;
  so_far : Progresses (g.W.Write.contents l.fn.writer) (g.W.Write.contents l.writer)
      (still_gives l.fn.script) l.fn.store.profile l.fn.store.limit l.number l.store (still_gives l.script);
}

abbrev pub decreases-records : goal.decreases-records
decreases-records g l = records_left l.script
