use Rattle.std.proofs.Common.{◌≡◌, refl}
use Rattle.camel_c.specs.declared.object.Object.TheVariants as object
use Rattle.camel_c.proofs.object.ThreadSessionKind.within.Goals as goal

pub returns-in-Session : goal.returns-in-Session
returns-in-Session c =
    let is : c.args.held.now ≡ object.Session c.in-Session.own = c.in-Session.is in
    (rw is refl, record { writes_back = tt; value = rw is refl })
