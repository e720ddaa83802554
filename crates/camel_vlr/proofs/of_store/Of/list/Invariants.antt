use Rattle.std.proofs.Common.{◌≡◌, map}
use Rattle.camel_vlr.proofs.of_store.Of.list.Given as goal

-- the list has the values that were taken, in their order
abbrev pub invariant-loop-value : goal.invariant-loop-value
invariant-loop-value g l = map (λ one. one.value) l.list.items ≡ l.yielded
