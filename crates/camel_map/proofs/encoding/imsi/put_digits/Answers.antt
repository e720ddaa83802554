use Rattle.std.proofs.Common.{◌≡◌, ◌∙◌, ◌∷◌, ◌+◌, ◌-◌, get_or, length, arith}
use Rattle.camel_map.proofs.Written.Elements.{last_put, none_put, pair_put}
use Rattle.camel_map.proofs.encoding.imsi.put_digits.Goals as goal
use Rattle.camel_map.proofs.encoding.imsi.put_digits.Goals.{then-at-eq1+in_ok-put, else-at-eq1}

pub loop-at-init : goal.loop-at-init
loop-at-init c =
    let digits = c.args.digits.now in
    elim c.if-at-eq1.branch [
      | then-at-eq1+in_ok-put w ↦
          let odd = w.if-at-eq1.true in
          let at = length digits - 1 in
          let put : c.if-at-eq1.writer ≡ (240 + get_or digits at 0) ∷ c.args.writer.now =
          w.writer-is ∙ w.in_ok-put.ensures in
          rw w.at-is record {
            within = omega arith;
            even = omega arith;
            so_far = last_put digits c.args.writer.now at c.if-at-eq1.writer (omega arith) put;
          }
      | else-at-eq1 w ↦
          let even = w.if-at-eq1.false in
          rw (w.at-is, w.writer-is) record {
            within = omega arith;
            even = omega arith;
            so_far = none_put digits c.args.writer.now (length digits) (omega arith);
          }
    ]

pub loop-at-preserved : goal.loop-at-preserved
loop-at-preserved c =
    let digits = c.args.digits.now in
    let at = c.loop-at.at - 2 in
    let left = c.loop-at-test.true in
    let within = c.loop-at.invariant.within in
    let even = c.loop-at.invariant.even in
    record {
      within = omega arith;
      even = omega arith;
      so_far = pair_put digits c.args.writer.now at (at + 1) c.loop-at.at c.loop-at.writer c.put-in-loop-at.new.self
          (omega arith) (omega arith) within c.loop-at.invariant.so_far c.in_ok-put-2.ensures;
    }
