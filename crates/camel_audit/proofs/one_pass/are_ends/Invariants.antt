use Rattle.std.proofs.Common.{◌≡◌, length, map, take}
use Rattle.camel_audit.proofs.one_pass.are_ends.Given as goal

-- the places so far are the ends
abbrev pub invariant-loop-session : goal.invariant-loop-session
invariant-loop-session l = take l.session l.places ≡ map length (take l.session l.transcripts)
