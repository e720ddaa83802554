use Rattle.std.proofs.Common.{◌≡◌, ◌-◌, ◌≤◌, All, length, map, vec_len}
use Rattle.std.specs.List.{AllWithin}
use Rattle.two_copies.specs.WriterEnd.{IsFreeAt, ShowsAt, place_at}
use Rattle.two_copies.proofs.places.reclaim_all.Given as goal

abbrev pub invariant-loop-next : goal.invariant-loop-next
invariant-loop-next g l = record {
  bound : l.next ≤ length l.places.items;
  len : length l.places.items ≡ length l.fn.places.items;
  places : map place_at l.places.items ≡ map place_at l.fn.places.items;
  free : AllWithin IsFreeAt l.places.items 0 l.next;
  keeps : All IsFreeAt l.fn.places.items → All IsFreeAt l.places.items;
  shown : (shown : _) → All (ShowsAt shown) l.fn.places.items → All (ShowsAt shown) l.places.items;
}

abbrev pub decreases-loop-next : goal.decreases-loop-next
decreases-loop-next g l = vec_len l.places - l.next
