use Rattle.std.proofs.Common.{subst}
use Rattle.camel_replay_lib.proofs.ReadLemmas.{stopped_by_write}
use Rattle.camel_script_replay.specs.Output.{AppendsPart}
use Rattle.camel_replay_lib.proofs.threaded_replay.replay_threads.Goals as goal

pub returns-clause-stopped : goal.returns-clause-stopped
returns-clause-stopped g c =
    let old = g.O.Write.contents c.args.writer.now in
    let new = g.O.Write.contents c.write_whole.new.writer in
    let fault = c.fault_of_run-in-Err-write_whole in
    stopped_by_write _ (g.I.Read.remaining c.args.reader) old new c.args.threads c.args.profile c.args.limit c.in_ok-records.records.items
    c.in-Ok.output.items fault.result c.in_ok-records.ensures.whole c.in-Ok.ensures
    (subst (AppendsPart old new) c.deref.ensures.value c.in-Err-write_whole.ensures.part) fault.ensures
