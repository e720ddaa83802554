-- Operations that are taken back from a copy.
use Rattle.std.specs.Prelude.{List, fold}

-- a state once what operations have changed is restored, as the one that is shown has it
abbrev pub restored_from : {S O : Type 0} → (S → O → S → S) → S → S → List O → S
restored_from restored shown spare operations = fold (λ now operation. restored now operation shown) spare operations
