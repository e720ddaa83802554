use Rattle.std.proofs.Common.{length}
use Rattle.camel_c.proofs.store.publication.+learn_all.Given as goal

abbrev pub decreases-learn_all : goal.decreases-learn_all
decreases-learn_all l = length l.sessions.now
