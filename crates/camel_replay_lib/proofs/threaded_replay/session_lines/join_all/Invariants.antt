use Rattle.std.proofs.Common.{◌≡◌, ◌++◌, true, All, IfOk, length}
use Rattle.std.specs.List.{flat_map}
use Rattle.camel_replay_lib.specs.Rounds.{PassesOf, text_of}
use Rattle.camel_replay_lib.proofs.threaded_replay.session_lines.join_all.Given as goal

-- what is found so far holds of all threads if the rest passes, and its lines and those that are not joined yet are all
abbrev pub invariant-threads : goal.invariant-threads
invariant-threads g l = record {
  passes : l.joined.passes ≡ true → All PassesOf l.started.items → All PassesOf l.fn.started.items;
  lines : IfOk l.joined.texts (λ texts. flat_map (λ text. text.items) texts.items ++ flat_map text_of l.started.items ≡ flat_map text_of l.fn.started.items);
}

abbrev pub decreases-threads : goal.decreases-threads
decreases-threads g l = length l.started.items
