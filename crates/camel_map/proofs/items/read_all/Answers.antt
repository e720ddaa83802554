use Rattle.std.proofs.Common.{List, Result, subst}
use Rattle.camel_ber.specs.Elements.{view}
use Rattle.camel_map.specs.Reading.{IsMemory}
use Rattle.camel_map.specs.declared.map_fault.MapFault.{MapFault}
use Rattle.camel_reading.proofs.EachLemmas.{each_of-seen}
use Rattle.camel_reading.specs.Reading.{ReadsList}
use Rattle.camel_map.proofs.items.read_all.Goals as goal

pub returns : goal.returns
returns g c =
    λ value_of answers.
    subst (λ (reading : Result (List g.row.T.Denot) MapFault). ReadsList IsMemory c.read_each.result reading)
    (each_of-seen value_of view c.args.items.now) (c.read_each.ensures (λ item. value_of (view item)) answers)
