use Rattle.std.proofs.Common.{◌≡◌, ◌-◌, ◌≤◌, length, vec_len}
use Rattle.std.specs.List.{AllWithin}
use Rattle.two_copies.specs.WriterEnd.{IsClosedAt}
use Rattle.two_copies.proofs.places.close_all.Given as goal

abbrev pub invariant-loop-next : goal.invariant-loop-next
invariant-loop-next g l = record {
  bound : l.next ≤ length l.places.items;
  len : length l.places.items ≡ length l.fn.places.items;
  closed : AllWithin IsClosedAt l.places.items 0 l.next;
}

abbrev pub decreases-loop-next : goal.decreases-loop-next
decreases-loop-next g l = vec_len l.places - l.next
