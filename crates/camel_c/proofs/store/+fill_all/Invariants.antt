use Rattle.std.proofs.Common.{length}
use Rattle.camel_c.proofs.store.+fill_all.Given as goal

abbrev pub decreases-fill_all : goal.decreases-fill_all
decreases-fill_all l = length l.handles.now
