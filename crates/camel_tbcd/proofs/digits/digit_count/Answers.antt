use Rattle.std.proofs.Common.{◌≡◌, ◌∙◌, ◌-◌, arith, length, sym}
use Rattle.camel_tbcd.proofs.DifferenceLemmas.{count_by_filler, none_before}
use Rattle.camel_tbcd.proofs.DigitLemmas.{high_filler, length-digits, length-digits-le, length-nibbles-drop, low_filler, octet_more}
use Rattle.camel_tbcd.proofs.digits.digit_count.Goals as goal

pub returns-then-count-lt-PACKED_DIGITS : goal.returns-then-count-lt-PACKED_DIGITS
returns-then-count-lt-PACKED_DIGITS c =
    let first = count_by_filler c.args.bytes.now c.args.number c.first_filler-count.result c.requires.octets c.requires.numbered c.first_filler-count.ensures in
    omega (arith, first, c.if-count-lt-PACKED_DIGITS.true)

pub loop-at-init : goal.loop-at-init
loop-at-init c k below =
    let first = count_by_filler c.args.bytes.now c.args.number c.first_filler-count.result c.requires.octets c.requires.numbered c.first_filler-count.ensures in
    none_before c.args.bytes.now k (omega (arith, first, c.if-count-lt-PACKED_DIGITS.false, below))

pub loop-at-preserved : goal.loop-at-preserved
loop-at-preserved c = octet_more c.args.bytes.now c.loop-at.at c.loop-at-test.true c.if-octet-eq-FILLER.false c.if-octet-eq-FILLER-2.false c.loop-at.invariant

pub returns-then-octet-eq-FILLER : goal.returns-then-octet-eq-FILLER
returns-then-octet-eq-FILLER c = low_filler c.args.bytes.now c.loop-at.at c.loop-at-test.true c.if-octet-eq-FILLER.true c.loop-at.invariant

pub returns-then-octet-eq-FILLER-2 : goal.returns-then-octet-eq-FILLER-2
returns-then-octet-eq-FILLER-2 c =
    high_filler c.args.bytes.now c.loop-at.at c.loop-at-test.true c.if-octet-eq-FILLER.false c.if-octet-eq-FILLER-2.true c.loop-at.invariant

pub returns : goal.returns
returns c =
    let first = count_by_filler c.args.bytes.now c.args.number c.first_filler-count.result c.requires.octets c.requires.numbered c.first_filler-count.ensures in
    let end = length-nibbles-drop c.args.bytes.now in
    let most = length-digits-le c.args.bytes.now in
    let whole : c.loop-at.at ≡ length c.args.bytes.now - 1 =
    omega (arith, first, most, c.if-count-lt-PACKED_DIGITS.false, c.loop-at-test.false, c.loop-at.auto.at-end) in
    sym end ∙ length-digits c.args.bytes.now _ (omega arith) (λ k h. c.loop-at.invariant k (omega (arith, h, whole))) (λ h. absurd (omega arith))
