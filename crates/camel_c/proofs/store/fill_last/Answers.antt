use Rattle.std.proofs.Common.{◌≡◌, ◌∙◌, ap, subst}
use Rattle.std.proofs.lemmas.List.Elements.{All-pop}
use Rattle.std.specs.Prelude.{Option, Some, IfSome}
use Rattle.camel_vlr.specs.Store.{SessionData}
use Rattle.camel_c.specs.declared.object.Object.TheVariants as object
use Rattle.camel_c.proofs.store.fill_last.Goals as goal

pub returns-in-Ok-clause-filled : goal.returns-in-Ok-clause-filled
returns-in-Ok-clause-filled c = λ fresh all.
    let parts = All-pop (λ (s : SessionData). s ≡ fresh) c.args.sessions.now.items c.pop.new.self.items c.pop.result c.pop.ensures.items all in
    let last : c.in-Some.session ≡ fresh =
    subst (λ (r : Option SessionData). IfSome r (λ s. s ≡ fresh)) c.in-Some.is parts.1 in
    c.in-Ok.ensures.0.1
    ∙ ap (λ (s : SessionData). Some (object.Session (record { session = s; store = c.args.number; decisions = c.none.result }))) last
    ∙ ap (λ d. Some (object.Session (record { session = fresh; store = c.args.number; decisions = d }))) c.none.ensures
