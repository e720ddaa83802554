use Rattle.std.proofs.Common.{◌≡◌, ◌∙◌, [], ◌∷◌, ◌++◌, ap, subst}
use Rattle.camel_vlr.specs.History.{PrefixData}
use Rattle.camel_rows.specs.Update.{Extends, records_of}
use Rattle.camel_vlr.proofs.SessionLemmas.{all_last, same_front}
use Rattle.camel_vlr.specs.Store.{ExtendsAll}
use Rattle.camel_vlr.proofs.writer.closing.Vlr.close.Goals as goal

pub returns-in-Ok-clause-records : goal.returns-in-Ok-clause-records
returns-in-Ok-clause-records g c =
    let seen = c.records_at.new.session.seen in
    let store = c.args.self in
    let told : ExtendsAll seen (c.args.session.now.told ++ c.receipt.result.updates ∷ []) =
    subst (ExtendsAll seen) (ap (λ s. s.told) c.learn.ensures) c.in-Ok.ensures.told in
    let more : Extends seen store.updates.published =
    subst (λ (r : PrefixData). Extends seen r.updates) c.receipt.ensures.receipt (all_last seen _ c.receipt.result.updates told) in
    let same : seen ≡ store.updates.published = same_front seen store.updates.published more (c.in-Ok.ensures.front ∙ c.published.ensures) in
    c.in-Ok.ensures.records ∙ ap records_of same
