use Rattle.std.proofs.Common.{◌≡◌, ◌≤◌, All, drop, length, map}
use Rattle.two_copies.specs.WriterEnd.{IsFreeAt, ShowsAt, held_in, place_at}
use Rattle.two_copies.proofs.places.reclaim_each.Given as goal

abbrev pub invariant-loop-next : goal.invariant-loop-next
invariant-loop-next g l = record {
  bound : l.next ≤ length l.places.items;
  len : length l.places.items ≡ length l.fn.places.items;
  places : map place_at l.places.items ≡ map place_at l.fn.places.items;
  held : l.held ≡ held_in (drop l.next l.places.items);
  keeps : All IsFreeAt l.fn.places.items → All IsFreeAt l.places.items;
  shown : (shown : _) → All (ShowsAt shown) l.fn.places.items → All (ShowsAt shown) l.places.items;
}

abbrev pub decreases-loop-next : goal.decreases-loop-next
decreases-loop-next g l = l.next
