use Rattle.std.proofs.Common.{◌≡◌, ◌-◌, ◌≤◌, length, map, vec_len}
use Rattle.std.specs.List.{AllWithin}
use Rattle.std.specs.Arc.{arc_value}
use Rattle.two_copies.specs.WriterEnd.{IsFreeAt, IsNextAt, ShowsAt, place_at}
use Rattle.two_copies.proofs.places.show_all.Given as goal

abbrev pub invariant-loop-next : goal.invariant-loop-next
invariant-loop-next g l = record {
  bound : l.next ≤ length l.places.items;
  len : length l.places.items ≡ length l.fn.places.items;
  places : map place_at l.places.items ≡ map place_at l.fn.places.items;
  free : AllWithin IsFreeAt l.places.items l.next (length l.places.items);
  ready : AllWithin (IsNextAt (arc_value l.copy)) l.places.items l.next (length l.places.items);
  before : AllWithin (ShowsAt (arc_value l.shown)) l.places.items l.next (length l.places.items);
  done : AllWithin (ShowsAt (arc_value l.copy)) l.places.items 0 l.next;
}

abbrev pub decreases-loop-next : goal.decreases-loop-next
decreases-loop-next g l = vec_len l.places - l.next
