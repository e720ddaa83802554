use Rattle.camel_c.proofs.HandleLemmas.{looked_at}
use Rattle.camel_c.proofs.store.publication.unready.Goals as goal

pub returns-then-is_looking-clause-same : goal.returns-then-is_looking-clause-same
returns-then-is_looking-clause-same c = looked_at c.args.handle.now _ c.in-Some.ensures.value

pub returns-then-own-number-clause-same : goal.returns-then-own-number-clause-same
returns-then-own-number-clause-same c = looked_at c.args.handle.now _ c.in-Some.ensures.value

pub returns-else-own-number-clause-same : goal.returns-else-own-number-clause-same
returns-else-own-number-clause-same c = looked_at c.args.handle.now _ c.in-Some.ensures.value
