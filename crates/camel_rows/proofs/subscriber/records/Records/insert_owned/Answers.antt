use Rattle.std.proofs.Common.{rules}
use Rattle.camel_rows.proofs.UpdateLemmas.{insert_same, with_record_after}
use Rattle.camel_rows.proofs.subscriber.records.Records.insert_owned.Goals as goal

pub returns-clause-applied : goal.returns-clause-applied
returns-clause-applied c =
    let after = with_record_after c.self.inside.table c.args.update.value c.args.imsi.now c.in-Some.subscriber.now c.insert_owned.new.self c.requires.imsi in
    search rules

pub returns-clause-unchanged : goal.returns-clause-unchanged
returns-clause-unchanged c =
    let same = insert_same c.self.inside.table c.args.imsi.now c.in-Some.subscriber.now in
    search rules
