use Rattle.camel_script.proofs.InsertMistake.{at_refused_item}
use Rattle.camel_script.proofs.laws.refused_list_names_item.Goals as goal

pub returns : goal.returns
returns c = record { place = at_refused_item }
