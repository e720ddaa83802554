use Rattle.std.proofs.Common.{◌≡◌, ◌∙◌, arith, length, take, refl, sym}
use Rattle.std.proofs.lemmas.Grind.{common_steps}
use Rattle.camel_tbcd.proofs.ImsiLemmas.{IsImsi-digit_values, accepted, refused}
use Rattle.camel_tbcd.proofs.imsi.Imsi.from_ascii.Goals as goal

pub returns-then-not-is_ascii_digit-clause-answer : goal.returns-then-not-is_ascii_digit-clause-answer
returns-then-not-is_ascii_digit-clause-answer c =
    sym (refused c.args.characters.now c.loop-at.at (omega arith) (omega arith) c.loop-at-test.true c.loop-at.invariant.digits
    (sym c.is_ascii_digit.ensures.value ∙ c.if-not-is_ascii_digit.true))

pub of_first-requires : goal.of_first-requires
of_first-requires c =
    let text = c.args.characters.now in
    let all : c.loop-at.at ≡ length text = omega arith in
    let whole : take c.loop-at.at text ≡ text = grind (arith, common_steps) in
    let digits = rw whole at c.loop-at.invariant.digits in
    rw (c.loop-at.invariant.so_far, whole) (IsImsi-digit_values text (omega arith) (omega arith) digits)

pub returns-clause-answer : goal.returns-clause-answer
returns-clause-answer c =
    let text = c.args.characters.now in
    let all : c.loop-at.at ≡ length text = omega arith in
    let whole : take c.loop-at.at text ≡ text = grind (arith, common_steps) in
    let digits = rw whole at c.loop-at.invariant.digits in
    rw (accepted text (omega arith) (omega arith) digits, c.of_first.ensures, c.loop-at.invariant.so_far, whole) refl
