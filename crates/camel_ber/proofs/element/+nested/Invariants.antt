use Rattle.std.proofs.Common.{◌*◌, ◌+◌, ◌≤◌, length}
use Rattle.camel_ber.specs.Elements.{element_at, end_by}
use Rattle.camel_ber.proofs.EndLemmas.{Ends}
use Rattle.camel_ber.proofs.element.+nested.Given as goal

abbrev pub decreases-after_end : goal.decreases-after_end
decreases-after_end l = 2 * l.depth + 1

abbrev pub decreases-next_element : goal.decreases-next_element
decreases-next_element l = 2 * l.depth

abbrev pub invariant-after_end-loop-rest : goal.invariant-after_end-loop-rest
invariant-after_end-loop-rest l =
    Ends l.end (element_at l.end l.depth) l.rest
    (end_by l.end (element_at l.end l.depth) (length l.fn.bytes) l.fn.bytes)
    × (length l.rest ≤ length l.fn.bytes)

abbrev pub decreases-after_end-loop-rest : goal.decreases-after_end-loop-rest
decreases-after_end-loop-rest l = length l.rest
