use Rattle.std.proofs.Common.{◌≡◌, ℕ, Bor, List}
use Rattle.std.specs.Fn.{FnReturnsAt}
use Rattle.std.specs.Option.{option_map}
use Rattle.camel_reading.proofs.EachLemmas.{behind}
use Rattle.camel_reading.specs.Reading.{AnswersAs, each_of}
use Rattle.camel_script.proofs.PartsLemmas.{length_left}
use Rattle.camel_script.specs.Fields.{element_separator, parts_behind, IsMemory, elements_as}
use Rattle.camel_script.proofs.text.lists.read_elements.Given as goal

-- the values so far, with those of the elements that are left behind them, are those of all elements
abbrev pub invariant-elements : goal.invariant-elements
invariant-elements g l =
    (value_of : _) → AnswersAs IsMemory (FnReturnsAt g.F.Fn l.read) value_of
    → behind l.values.items (each_of value_of (parts_behind element_separator (option_map (λ (rest : Bor (List ℕ)). rest.now) l.left)))
    ≡ elements_as value_of l.text

abbrev pub decreases-elements : goal.decreases-elements
decreases-elements g l = length_left l.left
