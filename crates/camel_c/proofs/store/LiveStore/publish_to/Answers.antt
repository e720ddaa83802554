use Rattle.std.proofs.Common.{List, sym, subst}
use Rattle.camel_c.specs.Publication.{AllReady}
use Rattle.camel_c.specs.declared.handle.CamelHandle.{CamelHandle}
use Rattle.camel_c.specs.declared.store.LiveStore.{LiveStore}
use Rattle.camel_c.proofs.store.LiveStore.publish_to.Goals as goal

-- the publication has changed neither the number of the store nor the sessions
pub learn_all-requires : goal.learn_all-requires
learn_all-requires c =
    rw (c.receipt.ensures)
    (subst (λ (l : LiveStore). AllReady l.number c.first_unready.new.sessions) (sym (c.publish.ensures.published c.in-0-publish.is))
    (subst (λ (handles : List CamelHandle). AllReady c.args.self.now.number handles) (sym c.first_unready.ensures.same)
    (c.first_unready.ensures.ready c.in-0.is)))
