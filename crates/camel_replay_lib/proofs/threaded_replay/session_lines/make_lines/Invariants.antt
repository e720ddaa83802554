use Rattle.std.proofs.Common.{◌≡◌, ◌++◌, drop}
use Rattle.camel_replay_lib.specs.ThreadsOutput.{session_text}
use Rattle.camel_replay_lib.proofs.threaded_replay.session_lines.make_lines.Given as goal

abbrev pub invariant-loop-entry : goal.invariant-loop-entry
invariant-loop-entry l = l.text.items ++ session_text l.fn.session (drop l.entry-index l.transcript) ≡ session_text l.fn.session l.transcript
