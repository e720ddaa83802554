use Rattle.std.proofs.Common.{subst}
use Rattle.camel_rows.specs.Update.{Extends}
use Rattle.camel_rows.specs.Store.{accepted_updates}
use Rattle.camel_vlr.proofs.SessionLemmas.{longer_extends}
use Rattle.camel_vlr.specs.History.{PrefixData}
use Rattle.camel_c.proofs.store.LiveStore.bounds.Goals as goal

pub returns-clause-told : goal.returns-clause-told
returns-clause-told c front published few =
    let all = accepted_updates c.args.self.now.vlr.updates in
    longer_extends all front c.args.own.now.session.seen published
    (subst (λ (receipt : PrefixData). Extends all receipt.updates) c.seen.ensures c.bounds-2.ensures.accepted) few
