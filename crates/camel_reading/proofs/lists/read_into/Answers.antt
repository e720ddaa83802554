use Rattle.std.proofs.Common.{◌≡◌, ◌∙◌, Ok, length, length-set, refl, ap, arith, take}
use Rattle.std.proofs.lemmas.Fn.{says_at}
use Rattle.std.proofs.lemmas.List.{drop_all, take_more_set}
use Rattle.std.proofs.lemmas.Result.{err_from_is_err_and}
use Rattle.camel_reading.proofs.EachLemmas.{drop-item, fails_at, goes_on, is_done}
use Rattle.camel_reading.proofs.lists.read_into.Goals as goal

pub loop-at-preserved : goal.loop-at-preserved
loop-at-preserved g c =
    let at = c.loop-at.at in
    let room = c.loop-at.room in
    let item = c.index-items-at.result in
    let value = c.in_ok-room.field-0 in
    record {
      whole = length-set room at _ ∙ c.loop-at.invariant.whole;
      so_far = λ value_of answers.
          let read = answers item _ (says_at g.F.Fn c.read.ensures refl) in
          rw (take_more_set room at value (omega (arith, c.loop-at.invariant.whole, c.loop-at-test.true, c.requires.room)))
          (goes_on value_of (take at room) _ (c.loop-at.invariant.so_far value_of answers)
          (drop-item c.args.items.now at item c.loop-at-test.true c.index-items-at.is) (rw c.in_ok-room.was at read));
    }

pub returns-in_err-room-clause-values : goal.returns-in_err-room-clause-values
returns-in_err-room-clause-values g c =
    λ value_of answers.
    let at = c.loop-at.at in
    let item = c.index-items-at.result in
    let read = answers item _ (says_at g.F.Fn c.read.ensures refl) in
    let returned = err_from_is_err_and c.from_residual.result c.from_residual.ensures.1 in
    rw (returned.1, returned.2)
    (fails_at value_of (take at c.loop-at.room) _ (c.loop-at.invariant.so_far value_of answers)
    (drop-item c.args.items.now at item c.loop-at-test.true c.index-items-at.is) (rw c.in_err-room.was at read))

pub returns-clause-values : goal.returns-clause-values
returns-clause-values g c =
    λ value_of answers.
    let at = c.loop-at.at in
    let all : at ≡ length c.args.items.now = omega (arith, c.loop-at-test.false, c.loop-at.auto.at-end) in
    is_done value_of (take at c.loop-at.room) _ (c.loop-at.invariant.so_far value_of answers)
    (drop_all at c.args.items.now c.loop-at-test.false)
    ∙ ap (λ n. Ok (take n c.loop-at.room)) all
