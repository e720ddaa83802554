use Rattle.std.proofs.Common.{◌≡◌, map, take}
use Rattle.std.specs.Prelude.{Some}
use Rattle.camel_rows.specs.declared.subscriber.update.Update.{Update}
use Rattle.camel_c.specs.Updates.{update_held}
use Rattle.camel_c.specs.declared.handle.CamelHandle.{CamelHandle}
use Rattle.camel_c.proofs.update.copies_of.Given as goal

-- the handles are as before, and the updates of the first ones are copied
abbrev pub invariant-loop-at : goal.invariant-loop-at
invariant-loop-at l = record {
  same : l.handles ≡ l.initial.handles;
  so_far : map (λ (handle : CamelHandle). update_held handle.value) (take l.at l.initial.handles)
      ≡ map (λ (held : Update). Some held) l.copies.items;
}
