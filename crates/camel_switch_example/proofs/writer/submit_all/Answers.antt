use Rattle.std.proofs.Common.{◌≡◌, ◌∙◌, List, Some, sym, ap}
use Rattle.std.specs.Prelude.{Result, Ok, Err, OnOk, OnErr, fold}
use Rattle.camel_rows.specs.declared.subscriber.update.Update.{Update}
use Rattle.camel_vlr.proofs.StoreLemmas.{with_all-pending}
use Rattle.camel_vlr.specs.Store.{StoreData, with_accepted}
use Rattle.camel_switch_example.proofs.writer.submit_all.Goals as goal

-- it is the store that it was
same_store : {T E : Type 0} (result : Result T E) (old new : StoreData) (updates : List Update)
    → OnOk result (new ≡ fold with_accepted old updates) → OnErr result (new ≡ old) → new.store ≡ old.store
same_store (Ok _) old new updates accepted unchanged = ap (λ (s : StoreData). s.store) (accepted ∙ with_all-pending old updates)
same_store (Err _) old new updates accepted unchanged = ap (λ (s : StoreData). s.store) unchanged

pub invariant_of-store : goal.invariant_of-store
invariant_of-store g c =
    let done = c.submit_all in record {
      is_of = c.args.store.now.is_of ∙ ap Some (sym (same_store done.result c.args.store.now.value done.new.self c.args.updates.items
          done.ensures.accepted done.ensures.unchanged));
    }
