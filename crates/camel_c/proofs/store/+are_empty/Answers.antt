use Rattle.std.proofs.lemmas.List.Elements.{All-rest}
use Rattle.std.specs.Prelude.{◌≡◌, None}
use Rattle.camel_c.specs.declared.handle.CamelHandle.{CamelHandle}
use Rattle.camel_c.proofs.store.+are_empty.Goals as goal

pub returns-then-not-is_full-clause-no : goal.returns-then-not-is_full-clause-no
returns-then-not-is_full-clause-no t c = λ all.
    let whole = c.in-Some.ensures.cases.0 in
    c.are_empty.ensures.no (All-rest (λ (h : CamelHandle). h.value ≡ None) c.in-Some.first.now c.in-Some.rest.now c.args.handles.now whole all)
