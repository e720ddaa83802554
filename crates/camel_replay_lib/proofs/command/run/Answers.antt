use Rattle.std.proofs.Common.{Global, map, rules, string_bytes}
use Rattle.camel_replay_lib.proofs.CommandLineLemmas.{limit_in_range, threads_in_range}
use Rattle.camel_replay_lib.proofs.command.run.Goals as goal

pub run_replay-requires-clause-threads : goal.run_replay-requires-clause-threads
run_replay-requires-clause-threads g c = threads_in_range (map (string_bytes {Z = Global}) c.args.words.now) c.in-Ok.options.threads (search rules)

pub run_replay-requires-clause-limit : goal.run_replay-requires-clause-limit
run_replay-requires-clause-limit g c = limit_in_range (map (string_bytes {Z = Global}) c.args.words.now) c.in-Ok.options.limit (search rules)
