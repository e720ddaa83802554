use Rattle.std.proofs.Common.{◌≡◌, ◌+◌, drop}
use Rattle.csv.specs.Records.{fields_of}
use Rattle.camel_script.specs.Item.{item_into, items_of}
use Rattle.camel_script.specs.Fields.{in_turn, numbered}
use Rattle.camel_script.proofs.record.insert.parse_items.Given as goal

-- the lists so far, with the items that are left, are those of all items
abbrev pub invariant-loop-at : goal.invariant-loop-at
invariant-loop-at l =
    in_turn item_into l.items (numbered (l.at + 1) (drop l.at (fields_of l.fields))) ≡ items_of (drop 2 (fields_of l.fields))
