use Rattle.std.proofs.Common.{◌/◌, arith, sym}
use Rattle.camel_tbcd.proofs.DigitLemmas.{high_after_one, length-nibbles-drop, low_after_one}
use Rattle.camel_tbcd.proofs.digits.nibble.Goals as goal

pub bounds-bytes-at : goal.bounds-bytes-at
bounds-bytes-at c = omega (arith, length-nibbles-drop c.args.bytes.now)

pub returns-then-at-eq0 : goal.returns-then-at-eq0
returns-then-at-eq0 c =
    let all = length-nibbles-drop c.args.bytes.now in
    sym (low_after_one c.args.bytes.now (c.args.at / 2) (omega arith) c.args.at (omega arith))

pub returns-else-at-eq0 : goal.returns-else-at-eq0
returns-else-at-eq0 c =
    let all = length-nibbles-drop c.args.bytes.now in
    sym (high_after_one c.args.bytes.now (c.args.at / 2) (omega arith) c.args.at (omega arith))
