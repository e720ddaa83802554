use Rattle.std.proofs.Common.{◌≤◌, length}
use Rattle.camel_ber.specs.Elements.{series_of, views}
use Rattle.camel_ber.proofs.ListLemmas.{Reads}
use Rattle.camel_ber.proofs.element.all_elements.Given as goal

abbrev pub invariant-loop-rest : goal.invariant-loop-rest
invariant-loop-rest l =
    Reads l.end l.depth (views l.elements.items) l.rest (series_of l.depth (record { bytes = l.fn.bytes; end = l.end }))
    × (length l.rest ≤ length l.fn.bytes)

abbrev pub decreases-loop-rest : goal.decreases-loop-rest
decreases-loop-rest l = length l.rest
