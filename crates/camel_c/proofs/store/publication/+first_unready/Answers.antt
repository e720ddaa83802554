use Rattle.std.proofs.Common.{◌∙◌, List, [], ◌∷◌, ap, inl, inr, ⊎_elim}
use Rattle.std.proofs.lemmas.List.Elements.{All-cons, All-nil, All-rest, All-same}
use Rattle.camel_c.specs.Publication.{FirstUnready, IsReady, IsUnready}
use Rattle.camel_c.specs.declared.handle.CamelHandle.{CamelHandle}
use Rattle.camel_c.proofs.store.publication.+first_unready.Goals as goal

pub returns-in-0-clause-ready : goal.returns-in-0-clause-ready
returns-in-0-clause-ready t c = λ none.
    let first = c.in-Some.first.now in
    let rest = c.in-Some.rest.now in
    All-same (IsReady c.args.number) c.args.sessions.now (first ∷ rest) c.in-Some.ensures.cases.0
    (All-cons (IsReady c.args.number) first rest (c.unready.ensures.ready c.in-0.is) (c.first_unready.ensures.ready none))

pub returns-in-0-clause-only : goal.returns-in-0-clause-only
returns-in-0-clause-only t c = λ all.
    c.first_unready.ensures.only
    (All-rest (IsReady c.args.number) c.in-Some.first.now c.in-Some.rest.now c.args.sessions.now c.in-Some.ensures.cases.0 all)

pub returns-in-0-clause-why : goal.returns-in-0-clause-why
returns-in-0-clause-why t c =
    let first = c.in-Some.first.now in
    ⊎_elim inl
    (λ (found : FirstUnready c.args.number c.in-Some.rest.now c.first_unready.result). inr (record {
      ready = first ∷ found.ready;
      one = found.one;
      rest = found.rest;
      whole = c.in-Some.ensures.cases.0 ∙ ap (λ (handles : List CamelHandle). first ∷ handles) found.whole;
      before = All-cons (IsReady c.args.number) first found.ready (c.unready.ensures.ready c.in-0.is) found.before;
      is = found.is;
    }))
    c.first_unready.ensures.why

pub returns-in_default-clause-why : goal.returns-in_default-clause-why
returns-in_default-clause-why t c = ⊎_elim inl
    (λ (is : IsUnready c.args.number c.in-Some.first.now.value c.unready.result). inr (record {
      ready = [];
      one = c.in-Some.first.now;
      rest = c.in-Some.rest.now;
      whole = c.in-Some.ensures.cases.0;
      before = All-nil (IsReady c.args.number);
      is = is;
    }))
    c.unready.ensures.why
