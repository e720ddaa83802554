use Rattle.std.proofs.Common.{◌≡◌, ◌++◌, All, List, length}
use Rattle.camel_script.specs.declared.record.Record.{Record}
use Rattle.camel_script_replay.specs.Output.{updates_from}
use Rattle.camel_replay_lib.specs.Rounds.{IsOfStore, AreNumbered, HasAnswered, WritesScript, jobs_from}
use Rattle.camel_replay_lib.specs.ThreadsOutput.{Call, calls_from, script_calls}
use Rattle.camel_rows.specs.Store.{no_updates}
use Rattle.camel_replay_lib.proofs.threaded_replay.run_rounds.Given as goal

abbrev pub invariant-segments : goal.invariant-segments
invariant-segments g l = record {
  done : List Record;
  whole : done ++ l.records.items ≡ l.fn.records.items;
  number : l.first ≡ length (jobs_from 0 done);
  writer : WritesScript l.fn.writer.store.store.profile l.fn.writer.store.store.limit done l.writer;
  store : l.writer.store.store ≡ l.fn.writer.store.store;
  same_store : All (IsOfStore l.fn.writer.store.store) l.seats.items;
  numbered : AreNumbered 0 l.seats.items;
  count : length l.seats.items ≡ length l.fn.seats.items;
  calls : List Call;
  split : script_calls l.fn.writer.store.store.limit l.fn.records.items
      ≡ calls ++ calls_from l.fn.writer.store.store.limit (updates_from l.fn.writer.store.store.limit no_updates done) l.first l.records.items;
  answered : All (HasAnswered (length l.fn.seats.items) calls) l.seats.items;
}

abbrev pub decreases-segments : goal.decreases-segments
decreases-segments g l = length l.records.items
