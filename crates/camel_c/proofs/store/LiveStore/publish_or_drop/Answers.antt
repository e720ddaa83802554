use Rattle.std.proofs.Common.{sym, subst}
use Rattle.camel_c.specs.Publication.{AllReady}
use Rattle.camel_c.specs.declared.store.LiveStore.{LiveStore}
use Rattle.camel_c.proofs.store.LiveStore.publish_or_drop.Goals as goal

-- the publication has not changed the number of the store
pub learn_all-requires : goal.learn_all-requires
learn_all-requires c =
    rw (c.receipt.ensures)
    (subst (λ (l : LiveStore). AllReady l.number c.args.sessions.now) (sym (c.publish.ensures.published c.in-0.is)) c.requires.ready)
