use Rattle.camel_c.proofs.HandleLemmas.{looked_at}
use Rattle.camel_c.proofs.update.holds_update.Goals as goal

pub returns-in-Some-clause-same : goal.returns-in-Some-clause-same
returns-in-Some-clause-same c = looked_at c.args.handle.now _ c.in-Some.ensures.value
