use Rattle.std.proofs.Common.{◌≡◌, ℕ, ◌+◌, ◌<◌, ◌++◌, All, drop, length}
use Rattle.std.specs.List.{flat_map}
use Rattle.camel_audit.specs.Audit.{PassesInPart, is_in_part}
use Rattle.camel_replay_lib.specs.Rounds.{PassesOf, text_of}
use Rattle.camel_replay_lib.specs.ThreadsOutput.{sessions_text}
use Rattle.camel_replay_lib.proofs.threaded_replay.session_lines.start_all.Given as goal

-- the lines that are started so far, and those of the other sessions, are those of all; if all that are started pass,
-- the parts so far do
abbrev pub invariant-loop-session : goal.invariant-loop-session
invariant-loop-session g l = record {
  lines : flat_map text_of l.started.items ++ sessions_text l.session (drop l.session l.transcripts) ≡ sessions_text 0 l.transcripts;
  parts : All PassesOf l.started.items → (session : ℕ) → session < l.session
      → PassesInPart (is_in_part (length l.transcripts + 1) (session + 1)) l.profile l.updates l.transcripts;
}
