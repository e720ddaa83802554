use Rattle.std.proofs.Common.{◌∙◌, ◌++◌, ap}
use Rattle.camel_rows.specs.declared.subscriber.update.Update.{Update}
use Rattle.camel_map.specs.Encoding.{octets_of_update}
use Rattle.camel_map.proofs.Written.Records.{record_sent}
use Rattle.camel_map.proofs.encoding.record.append_record.Goals as goal

pub returns-clause-appended : goal.returns-clause-appended
returns-clause-appended c =
    let made = c.in-Ok.ensures in
    let sent = record_sent c.args.imsi.now c.args.subscriber.now c.in-Ok.update made.equal made.accepted made.imsi made.insert in
    c.in_ok-append.ensures.appended
    ∙ ap (λ (update : Update). c.args.out.now.items ++ octets_of_update update) (c.with_some_entries.ensures ∙ sent)
