use Rattle.std.proofs.Common.{◌≡◌, ◌<◌, ◌^◌, take}
use Rattle.camel_script.specs.Fields.{number_of}
use Rattle.camel_script.proofs.text.decimal_value.Given as goal

-- the number of the digits so far
abbrev pub invariant-loop-character : goal.invariant-loop-character
invariant-loop-character l = record {
  so_far : l.value ≡ number_of (take l.character-index l.text);
  bound : l.value < 10 ^ l.character-index;
}
