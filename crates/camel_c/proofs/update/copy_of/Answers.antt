use Rattle.camel_c.proofs.HandleLemmas.{looked_at}
use Rattle.camel_c.proofs.update.copy_of.Goals as goal

pub returns-clause-same : goal.returns-clause-same
returns-clause-same c = looked_at c.args.handle.now _ c.in-Some.ensures.value
