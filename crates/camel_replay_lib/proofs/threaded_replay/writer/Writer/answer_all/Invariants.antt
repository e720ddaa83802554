use Rattle.std.proofs.Common.{◌≡◌, ◌++◌, true, All, length}
use Rattle.camel_script_replay.specs.Output.{updates_from, output_from}
use Rattle.camel_replay_lib.specs.ThreadsOutput.{is_no_call}
use Rattle.camel_replay_lib.proofs.threaded_replay.writer.Writer.answer_all.Given as goal

abbrev pub invariant-records : goal.invariant-records
invariant-records g l = record {
  no_calls : All (λ asked. is_no_call asked ≡ true) l.records.items;
  output : l.self.output ++ output_from l.fn.self.store.store.profile l.fn.self.store.store.limit l.self.store.updates l.records.items
      ≡ l.fn.self.output ++ output_from l.fn.self.store.store.profile l.fn.self.store.store.limit l.fn.self.store.updates l.fn.records.items;
  updates : updates_from l.fn.self.store.store.limit l.self.store.updates l.records.items
      ≡ updates_from l.fn.self.store.store.limit l.fn.self.store.updates l.fn.records.items;
  store : l.self.store.store ≡ l.fn.self.store.store;
}

abbrev pub decreases-records : goal.decreases-records
decreases-records g l = length l.records.items
