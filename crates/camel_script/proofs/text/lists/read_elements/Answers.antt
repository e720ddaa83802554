use Rattle.std.proofs.Common.{refl}
use Rattle.std.proofs.lemmas.Fn.{says_at}
use Rattle.std.proofs.lemmas.Result.{err_from_is_err_and}
use Rattle.camel_reading.proofs.EachLemmas.{fails_at, goes_on, is_done}
use Rattle.camel_script.proofs.text.lists.read_elements.Goals as goal

pub elements-preserved : goal.elements-preserved
elements-preserved g c =
    λ value_of answers.
    let read = answers c.split_part.result.0.now _ (says_at g.F.Fn c.read.ensures refl) in
    rw c.in_ok-push.ensures.items
    (goes_on value_of c.elements.values.items _ (rw c.in-Some.is at c.elements.invariant value_of answers)
    c.split_part.ensures.parts (rw c.in_ok-read.was at read))

pub returns-in_err-read : goal.returns-in_err-read
returns-in_err-read g c =
    λ value_of answers.
    let read = answers c.split_part.result.0.now _ (says_at g.F.Fn c.read.ensures refl) in
    let returned = err_from_is_err_and c.from_residual.result c.from_residual.ensures.1 in
    rw (returned.1, returned.2)
    (fails_at value_of c.elements.values.items _ (rw c.in-Some.is at c.elements.invariant value_of answers)
    c.split_part.ensures.parts (rw c.in_err-read.was at read))

pub returns : goal.returns
returns g c =
    λ value_of answers.
    is_done value_of c.elements.values.items _ (rw c.in_default.is at c.elements.invariant value_of answers) refl
