use Rattle.std.proofs.Common.{◌≡◌, ◌++◌, List, length}
use Rattle.std.specs.List.{filter}
use Rattle.camel_script.specs.declared.record.Record.{Record}
use Rattle.camel_replay_lib.specs.Rounds.{IsSegment, jobs_from}
use Rattle.camel_replay_lib.specs.ThreadsOutput.{is_no_call}
use Rattle.camel_replay_lib.proofs.threaded_replay.segment.cut_segment.Given as goal

-- no publication is among the records so far: a segment behind them makes one with them
abbrev pub invariant-records : goal.invariant-records
invariant-records l = record {
  done : List Record;
  whole : done ++ l.records.items ≡ l.fn.records.items;
  quiet : (more left : List Record) → IsSegment more left → IsSegment (done ++ more) left;
  calls : l.segment.calls.items ≡ jobs_from l.fn.first done;
  others : l.segment.others.items ≡ filter is_no_call done;
}

abbrev pub decreases-records : goal.decreases-records
decreases-records l = length l.records.items
