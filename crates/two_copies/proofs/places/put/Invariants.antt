use Rattle.std.proofs.Common.{◌≡◌, ◌-◌, vec_len}
use Rattle.two_copies.proofs.places.put.Given as goal

abbrev pub invariant-loop-next : goal.invariant-loop-next
invariant-loop-next g l = record {
  items : l.places.items ≡ l.fn.places.items;
  end : l.end ≡ l.fn.end;
}

abbrev pub decreases-loop-next : goal.decreases-loop-next
decreases-loop-next g l = vec_len l.places - l.next
