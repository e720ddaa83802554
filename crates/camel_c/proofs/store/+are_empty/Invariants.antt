use Rattle.std.proofs.Common.{length}
use Rattle.camel_c.proofs.store.+are_empty.Given as goal

abbrev pub decreases-are_empty : goal.decreases-are_empty
decreases-are_empty l = length l.handles.now
