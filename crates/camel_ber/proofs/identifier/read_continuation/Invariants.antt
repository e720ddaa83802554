use Rattle.std.proofs.Common.{◌≡◌, drop, take}
use Rattle.camel_ber.specs.Elements.{continuation_at}
use Rattle.camel_ber.proofs.IdentifierLemmas.{behind_octets}
use Rattle.camel_ber.proofs.identifier.read_continuation.Given as goal

abbrev pub invariant-loop-at : goal.invariant-loop-at
invariant-loop-at l = behind_octets (take l.at l.bytes) (continuation_at l.endless (drop l.at l.bytes))
    ≡ continuation_at l.endless l.bytes
