use Rattle.std.proofs.Common.{refl}
use Rattle.camel_vlr.specs.Store.{fresh_session}
use Rattle.camel_c.specs.declared.store.LiveStore.{LiveStore}
use Rattle.camel_c.proofs.store.open.Goals as goal

pub returns-in-Ok-fill_all-clause-opened : goal.returns-in-Ok-fill_all-clause-opened
returns-in-Ok-fill_all-clause-opened c =
    let e = c.in_ok-vlr.ensures in
    let live : LiveStore = record { vlr = c.in_ok-vlr.vlr; number = c.args.seed; held = 0 } in (
      live,
      c.in-Ok.ensures.0.1,
      record { number = refl; updates = e.empty.0; limit = e.empty.1; profile = e.profile; level = e.level; held = refl },
      c.in-Ok-fill_all.ensures.filled (fresh_session live.vlr.store) e.sessions,
    )
