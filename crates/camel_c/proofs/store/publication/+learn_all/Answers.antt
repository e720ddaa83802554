use Rattle.std.proofs.Common.{List, ◌∷◌, length, refl, sym, ap, subst, inl, arith}
use Rattle.std.proofs.lemmas.List.Elements.{All-head, All-rest, All-same}
use Rattle.camel_c.specs.Publication.{AllMayLook, IsReady}
use Rattle.camel_c.specs.Session.{MayLook}
use Rattle.camel_c.specs.declared.handle.CamelHandle.{CamelHandle}
use Rattle.camel_c.proofs.PublicationLemmas.{all_of_itself}
use Rattle.camel_c.proofs.store.publication.+learn_all.Goals as goal

pub learn_all-requires : goal.learn_all-requires
learn_all-requires t c =
    let whole = c.in-Some.ensures.cases.0 in
    let longer = ap (λ (handles : List CamelHandle). length handles) whole in (
      omega (arith, c.decreases, longer),
      All-rest (IsReady c.args.receipt.now.store) c.in-Some.first.now c.in-Some.rest.now c.args.sessions.now whole c.requires,
    )

pub returns-in_default-clause-looked : goal.returns-in_default-clause-looked
returns-in_default-clause-looked t c =
    let rest = c.in-Some.rest.now in
    subst (λ handles. AllMayLook handles (c.camel_learn.new.session ∷ rest)) (sym c.in-Some.ensures.cases.0) (
      c.camel_learn.ensures.looked,
      all_of_itself (λ (handle left : CamelHandle). MayLook handle.value left.value) (λ handle. inl refl) rest,
    )

pub returns-in_default-clause-only : goal.returns-in_default-clause-only
returns-in_default-clause-only t c =
    let all = All-same (IsReady c.args.receipt.now.store) (c.in-Some.first.now ∷ c.in-Some.rest.now) c.args.sessions.now
    (sym c.in-Some.ensures.cases.0) c.requires in
    let ready = All-head (IsReady c.args.receipt.now.store) c.in-Some.first.now c.in-Some.rest.now all in
    c.camel_learn.ensures.only (ready.0, ready.1, ready.2)
