use Rattle.std.proofs.Common.{◌≡◌, ◌==◌, take}
use Rattle.std.specs.List.{count_by}
use Rattle.camel_script.proofs.text.parts.count_parts.Given as goal

-- the separators so far
abbrev pub invariant-loop-character : goal.invariant-loop-character
invariant-loop-character l =
    l.separators ≡ count_by (λ character. character == l.separator) (take l.character-index l.text)
