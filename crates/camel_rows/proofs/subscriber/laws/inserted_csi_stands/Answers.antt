use Rattle.camel_rows.proofs.UpdateLemmas.{o_stands, vt_stands}
use Rattle.camel_rows.proofs.subscriber.laws.inserted_csi_stands.Goals as goal

pub returns-clause-o : goal.returns-clause-o
returns-clause-o c = o_stands

pub returns-clause-vt : goal.returns-clause-vt
returns-clause-vt c = vt_stands
