use Rattle.std.proofs.Common.{length}
use Rattle.camel_c.proofs.store.publication.+first_unready.Given as goal

abbrev pub decreases-first_unready : goal.decreases-first_unready
decreases-first_unready l = length l.sessions.now
