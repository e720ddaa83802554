use Rattle.std.proofs.Common.{◌≡◌, ◌∙◌, ap, refl}
use Rattle.camel_c.specs.Object.{live_store}
use Rattle.camel_c.specs.declared.object.Object.TheVariants as object
use Rattle.camel_c.specs.declared.store.Stage.TheVariants as stage
use Rattle.camel_c.proofs.object.LiveStoreKind.within.Goals as goal

pub returns-in-Live : goal.returns-in-Live
returns-in-Live c =
    let at : c.in-Store.store.stage ≡ stage.Live c.in-Live.live = cc in
    let is : c.args.held.now ≡ live_store c.in-Live.live = c.in-Store.is ∙ ap (λ s. object.Store (record { stage = s })) at in
    (rw is refl, record { writes_back = tt; value = rw is refl })
