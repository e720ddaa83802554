use Rattle.camel_table.proofs.TableLemmas.{no_table}
use Rattle.camel_table.proofs.table.Table.clear.Goals as goal

pub invariant_of-self : goal.invariant_of-self
invariant_of-self g c = let is = c.new-self-inside.ensures in rw (is.hashes, is.level, is.count) (no_table c.clear.ensures)
