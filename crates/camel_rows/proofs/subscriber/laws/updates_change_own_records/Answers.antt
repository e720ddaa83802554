use Rattle.camel_rows.proofs.UpdateLemmas.{other_record}
use Rattle.camel_rows.proofs.subscriber.laws.updates_change_own_records.Goals as goal

pub returns-clause-others : goal.returns-clause-others
returns-clause-others c = other_record
