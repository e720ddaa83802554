use Rattle.std.proofs.Common.{ℕ, sym, ap, subst}
use Rattle.camel_c.specs.Publication.{AllReady}
use Rattle.camel_c.specs.declared.store.LiveStore.{LiveStore}
use Rattle.camel_c.proofs.PublicationLemmas.{cleared, not_taken, taken}
use Rattle.camel_c.proofs.store.LiveStore.commit.Goals as goal

-- no step has changed the number of the store
pub publish_or_drop-requires-clause-ready : goal.publish_or_drop-requires-clause-ready
publish_or_drop-requires-clause-ready c =
    subst (λ (number : ℕ). AllReady number c.args.sessions.now)
    (sym (ap (λ (l : LiveStore). l.number) (c.take_all-taken.ensures.taken c.if-taken-ne0.false).0)) c.requires

pub returns : goal.returns
returns c =
    let live = c.args.self.now in
    let published = c.publish_or_drop.ensures in
    taken c.args.updates.items c.take_all-taken.result c.publish_or_drop.result c.take_all-taken.new.rejected live
    (record live { vlr = c.is_free.new.self }) c.take_all-taken.new.self c.publish_or_drop.new.self c.args.sessions.now
    c.publish_or_drop.new.sessions
    (cleared live c.drop_pending.new.self c.is_free.new.self c.is_free.result c.in_default.ensures.dropped
    c.is_free.ensures.known c.if-not-is_free.false)
    c.take_all-taken.ensures c.if-taken-ne0.false published.published published.refused published.unseen published.only

pub returns-then-taken-ne0 : goal.returns-then-taken-ne0
returns-then-taken-ne0 c =
    let live = c.args.self.now in
    not_taken c.args.updates.items c.take_all-taken.result c.take_all-taken.new.rejected live
    (record live { vlr = c.is_free.new.self }) c.take_all-taken.new.self c.args.sessions.now
    (cleared live c.drop_pending.new.self c.is_free.new.self c.is_free.result c.in_default.ensures.dropped
    c.is_free.ensures.known c.if-not-is_free.false)
    c.take_all-taken.ensures c.if-taken-ne0.true
