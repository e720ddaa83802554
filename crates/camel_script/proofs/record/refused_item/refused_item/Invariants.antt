use Rattle.std.proofs.Common.{◌≡◌, ◌+◌, ◌≤◌, [], drop, length, take}
use Rattle.csv.specs.Records.{fields_of}
use Rattle.camel_script.specs.Item.{refused_item}
use Rattle.camel_script.specs.Fields.{numbered, record_fault_of}
use Rattle.camel_script.proofs.record.refused_item.refused_item.Given as goal

-- the detection points so far, with the items that are left, lead to the item that all lead to
abbrev pub invariant-loop-at : goal.invariant-loop-at
invariant-loop-at l =
    (l.count ≤ 10) × (length l.dps ≡ 10)
    × (refused_item (record_fault_of l.refusal) l.name l.points (take l.count l.dps)
    (numbered (l.at + 1) (drop l.at (fields_of l.fields)))
    ≡ refused_item (record_fault_of l.refusal) l.name l.points [] (numbered 3 (drop 2 (fields_of l.fields))))
