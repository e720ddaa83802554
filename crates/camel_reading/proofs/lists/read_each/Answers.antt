use Rattle.std.proofs.Common.{arith, refl}
use Rattle.std.proofs.lemmas.Fn.{says_at}
use Rattle.std.proofs.lemmas.List.{drop_all}
use Rattle.std.proofs.lemmas.Result.{err_from_is_err_and}
use Rattle.camel_reading.proofs.EachLemmas.{drop-item, fails_at, goes_on, is_done}
use Rattle.camel_reading.proofs.lists.read_each.Goals as goal

pub loop-item-preserved : goal.loop-item-preserved
loop-item-preserved g c =
    λ value_of answers.
    let item = c.item-item.result in
    let read = answers item _ (says_at g.F.Fn c.read.ensures refl) in
    rw c.in-Ok-push.ensures.items
    (goes_on value_of c.loop-item.values.items _ (c.loop-item.invariant value_of answers)
    (drop-item c.args.items.now c.loop-item.item-index item (omega arith) c.item-item.is) (rw c.in_ok-read.was at read))

pub returns-in_err-read : goal.returns-in_err-read
returns-in_err-read g c =
    λ value_of answers.
    let item = c.item-item.result in
    let read = answers item _ (says_at g.F.Fn c.read.ensures refl) in
    let returned = err_from_is_err_and c.from_residual.result c.from_residual.ensures.1 in
    rw (returned.1, returned.2)
    (fails_at value_of c.loop-item.values.items _ (c.loop-item.invariant value_of answers)
    (drop-item c.args.items.now c.loop-item.item-index item (omega arith) c.item-item.is) (rw c.in_err-read.was at read))

pub returns : goal.returns
returns g c =
    λ value_of answers.
    is_done value_of c.loop-item.values.items _ (c.loop-item.invariant value_of answers)
    (drop_all c.loop-item.item-index c.args.items.now (omega arith))
