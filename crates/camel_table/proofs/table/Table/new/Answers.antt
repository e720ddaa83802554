use Rattle.camel_table.proofs.TableLemmas.{no_table}
use Rattle.camel_table.proofs.table.Table.new.Goals as goal

pub invariant_of-result : goal.invariant_of-result
invariant_of-result g c = let is = c.new.ensures in rw (is.hashes, is.level, is.count) (no_table c.new-2.ensures)
