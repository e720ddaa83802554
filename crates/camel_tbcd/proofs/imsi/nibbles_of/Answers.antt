use Rattle.std.proofs.Common.{◌*◌, ◌+◌, arith, refl}
use Rattle.std.proofs.lemmas.Grind.{common_steps}
use Rattle.camel_tbcd.proofs.DigitLemmas.{take-nibbles}
use Rattle.camel_tbcd.proofs.imsi.nibbles_of.Goals as goal

pub loop-at-preserved : goal.loop-at-preserved
loop-at-preserved c =
    let at = c.loop-at.at in
    record {
      room = grind (arith, common_steps);
      so_far = take-nibbles c.loop-at.nibbles c.args.octets.now at (2 * at) (2 * at + 1) (2 * (at + 1)) (at + 1)
          refl (omega arith) (omega arith) (omega arith) (omega arith) c.loop-at-test.true c.loop-at.invariant.so_far;
    }
