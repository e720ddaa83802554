use Rattle.std.proofs.Common.{Some}
use Rattle.camel_switch_example.proofs.switch.run_switch.Given as goal

-- the store that was opened
abbrev pub ghosts-run_store : goal.ghosts-run_store
ghosts-run_store g a = record { store = Some a.store.store }
