use Rattle.std.proofs.Common.{◌≡◌, ◌∙◌, ◌+◌, ◌-◌, ◌/◌, ◌%◌, ◌<◌, ◌++◌, suc, ap, drop, length, length-set, slice_set, take, arith}
use Rattle.std.proofs.Math.Seq.{take-set-lt}
use Rattle.std.proofs.lemmas.List.{length-take-le}
use Rattle.camel_tbcd.specs.Imsi.{last_digits}
use Rattle.camel_tbcd.proofs.ImsiLemmas.{digit_read}
use Rattle.camel_tbcd.proofs.imsi_digits.ImsiDigits.of_value.Goals as goal

pub loop-read-preserved : goal.loop-read-preserved
loop-read-preserved c =
    let count = c.args.count in
    let read = c.loop-read.read in
    let room = c.loop-read.room in
    let rest = c.loop-read.rest in
    let at = count - 1 - read in
    let here : count - read ≡ suc at = omega (arith, c.loop-read-test.true) in
    let next : count - (read + 1) ≡ at = omega (arith, c.loop-read-test.true) in
    let counted = length-take-le count room (omega (arith, c.loop-read.invariant.room, c.requires)) in
    let within : at < length (take count room) = omega (arith, counted, c.loop-read-test.true) in
    record {
      room = length-set room at _ ∙ c.loop-read.invariant.room;
      so_far = ap (λ n. last_digits n (rest / 10) ++ drop n (take count (slice_set room at (rest % 10)))) next
          ∙ ap (λ items. last_digits at (rest / 10) ++ drop at items) (take-set-lt count room at (rest % 10) (omega (arith, c.loop-read-test.true)))
          ∙ digit_read at rest (take count room) _ within (rw here at c.loop-read.invariant.so_far);
    }
