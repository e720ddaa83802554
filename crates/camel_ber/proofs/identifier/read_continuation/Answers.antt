use Rattle.std.proofs.lemmas.Bool.{le-ltb, lt-ltb}
use Rattle.camel_ber.proofs.IdentifierLemmas.{continuation-endless, continuation-ends, continuation-goes_on}
use Rattle.camel_ber.proofs.identifier.read_continuation.Goals as goal

pub returns-then-octet-lt128-clause-answer : goal.returns-then-octet-lt128-clause-answer
returns-then-octet-lt128-clause-answer c =
    rw (c.split_at.ensures.front, c.split_at.ensures.back)
    (continuation-ends c.args.endless c.args.bytes.now c.loop-at.at c.loop-at-test.true
    (lt-ltb _ _ c.if-octet-lt128.true) c.loop-at.invariant)

pub loop-at-preserved : goal.loop-at-preserved
loop-at-preserved c =
    continuation-goes_on c.args.endless c.args.bytes.now c.loop-at.at c.loop-at-test.true
    (le-ltb _ _ c.if-octet-lt128.false) c.loop-at.invariant

pub returns-clause-answer : goal.returns-clause-answer
returns-clause-answer c = continuation-endless c.args.endless c.args.bytes.now c.loop-at.at c.loop-at-test.false
    c.loop-at.invariant
