use Rattle.camel_table.proofs.TableLemmas.{self_counted}
use Rattle.camel_table.proofs.table.Table.len.Goals as goal

pub returns : goal.returns
returns g c = self_counted c.self.invariant c.self.view_is
