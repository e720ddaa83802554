use Rattle.std.proofs.Common.{◌≡◌, ◌+◌, drop}
use Rattle.csv.specs.Records.{fields_of}
use Rattle.camel_script.specs.Fields.{in_turn, numbered}
use Rattle.camel_script.specs.Record.{no_withdrawal, withdrawal_with}
use Rattle.camel_script.proofs.record.delete.parse_withdrawal.Given as goal

-- what is named so far, with the texts that are left, is what all texts name
abbrev pub invariant-loop-at : goal.invariant-loop-at
invariant-loop-at l =
    in_turn withdrawal_with l.what (numbered (l.at + 1) (drop l.at (fields_of l.fields)))
    ≡ in_turn withdrawal_with no_withdrawal (numbered 3 (drop 2 (fields_of l.fields)))
