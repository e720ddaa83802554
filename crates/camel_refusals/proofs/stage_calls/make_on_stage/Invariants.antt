use Rattle.std.proofs.Common.{Some}
use Rattle.camel_refusals.proofs.stage_calls.make_on_stage.Given as goal

-- the store that was opened
abbrev pub ghosts-make_of_store : goal.ghosts-make_of_store
ghosts-make_of_store g a = record { store = Some a.store.store }
