use Rattle.std.proofs.Common.{◌≡◌, refl}
use Rattle.camel_c.specs.declared.object.Object.TheVariants as object
use Rattle.camel_c.proofs.object.StoreKind.within.Goals as goal

pub returns-in-Store : goal.returns-in-Store
returns-in-Store c =
    let is : c.args.held.now ≡ object.Store c.in-Store.own = c.in-Store.is in
    (rw is refl, record { writes_back = tt; value = rw is refl })
