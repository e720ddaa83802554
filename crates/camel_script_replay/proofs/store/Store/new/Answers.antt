use Rattle.camel_script_replay.proofs.StoreLemmas.{IsSound-new}
use Rattle.camel_script_replay.proofs.store.Store.new.Goals as goal

pub invariant_of-result : goal.invariant_of-result
invariant_of-result c = rw (c.new.ensures, c.new-2.ensures, c.none.ensures, c.new-3.ensures.items) (IsSound-new c.args.limit)
