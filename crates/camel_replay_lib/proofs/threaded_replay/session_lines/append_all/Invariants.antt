use Rattle.std.proofs.Common.{◌≡◌, ◌++◌, length}
use Rattle.std.specs.List.{flat_map}
use Rattle.camel_replay_lib.proofs.threaded_replay.session_lines.append_all.Given as goal

-- the output so far, and the texts that are left, are all
abbrev pub invariant-texts : goal.invariant-texts
invariant-texts l = l.output.items ++ flat_map (λ text. text.items) l.texts.items ≡ l.fn.output.items ++ flat_map (λ text. text.items) l.fn.texts.items

abbrev pub decreases-texts : goal.decreases-texts
decreases-texts l = length l.texts.items
