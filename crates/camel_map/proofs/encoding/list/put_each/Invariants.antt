use Rattle.std.proofs.Common.{◌≡◌, ◌≤◌, drop, length, map}
use Rattle.camel_map.specs.Encoding.{before}
use Rattle.camel_map.proofs.encoding.list.put_each.Given as goal

-- the items from a place on are written
abbrev pub invariant-loop-at : goal.invariant-loop-at
invariant-loop-at g l = record {
  within : l.at ≤ length l.items;
  so_far : l.writer ≡ before (map g.P.Part.element_of (drop l.at l.items)) l.fn.writer;
}

abbrev pub decreases-loop-at : goal.decreases-loop-at
decreases-loop-at g l = l.at
