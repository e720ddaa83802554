use Rattle.std.proofs.Common.{rules}
use Rattle.camel_rows.proofs.UpdateLemmas.{insert_same}
use Rattle.camel_rows.proofs.subscriber.records.Records.insert.Goals as goal

pub returns-clause-unchanged : goal.returns-clause-unchanged
returns-clause-unchanged c =
    let same = insert_same c.self.inside.table c.args.imsi.now c.in-Some.subscriber.now in
    search rules
