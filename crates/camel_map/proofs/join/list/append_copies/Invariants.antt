use Rattle.std.proofs.Common.{◌≡◌, ◌++◌, take}
use Rattle.camel_map.proofs.join.list.append_copies.Given as goal

-- the entries in front of a place are appended
abbrev pub invariant-loop-entry : goal.invariant-loop-entry
invariant-loop-entry g l = l.received.items ≡ l.fn.received.items ++ take l.entry-index l.entries
