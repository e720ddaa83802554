use Rattle.std.proofs.Common.{[], ◌++◌, ◌∷◌, ◌≡◌, arith}
use Rattle.std.proofs.lemmas.List.{map_push}
use Rattle.std.proofs.lemmas.Result.{err_from_is_err_and}
use Rattle.camel_ber.specs.Elements.{view, views}
use Rattle.camel_ber.proofs.ListLemmas.{list-ends, list-fails, list-goes_on}
use Rattle.camel_ber.proofs.element.all_elements.Goals as goal

pub returns-in_err-element : goal.returns-in_err-element
returns-in_err-element c =
    let p = err_from_is_err_and c.from_residual-in_err-element.result c.from_residual-in_err-element.ensures.1 in
    rw (p.1, p.2)
    (list-fails c.args.end c.args.depth (views c.loop-rest.elements.items) c.loop-rest.rest.now
    c.in_err-element.field-0.0 _
    (omega arith) c.in_err-element.ensures.answer c.loop-rest.invariant.0)

pub loop-rest-preserved : goal.loop-rest-preserved
loop-rest-preserved c =
    let front = views c.loop-rest.elements.items in
    let one = c.in_ok-element.element in
    let pushed : views c.push.new.self.items ≡ front ++ view one ∷ [] =
    rw c.in_ok-push.ensures.items (map_push _ c.loop-rest.elements.items one) in (
      rw pushed
          (list-goes_on c.args.end c.args.depth front c.loop-rest.rest.now (view one) c.in_ok-element.after.now _
          (omega arith)
          c.in_ok-element.ensures.answer c.in_ok-element.ensures.shorter c.loop-rest.invariant.0),
      omega (arith, c.in_ok-element.ensures.shorter, c.loop-rest.invariant.1),
    )

pub returns : goal.returns
returns c =
    list-ends c.args.end c.args.depth (views c.loop-rest.elements.items) c.loop-rest.rest.now _ (omega arith)
    c.loop-rest.invariant.0
