use Rattle.std.proofs.Common.{◌≡◌, true, [], ◌∷◌, take, arith, subst, sym}
use Rattle.camel_rows.specs.Update.{leaves_record}
use Rattle.camel_rows.specs.declared.subscriber.update.Update.{Update}
use Rattle.camel_vlr.proofs.OperationLemmas.{restored-both, restored-has, each_of, updates_among-next}
use Rattle.camel_vlr.specs.Operation.{IsRestored, updates_among}
use Rattle.camel_vlr.proofs.writer.dropping.restore_each.Goals as goal

pub restore_one-requires-clause-leaves : goal.restore_one-requires-clause-leaves
restore_one-requires-clause-leaves c =
    each_of (λ (update : Update). leaves_record update ≡ true) c.args.operations.now.items c.loop-at.at c.index.result.now
    (omega (arith, c.loop-at-test.true, c.args.operations.now.ok.0)) c.index.ensures c.requires.leave

pub loop-at-preserved : goal.loop-at-preserved
loop-at-preserved c =
    let items = c.args.operations.now.items in let at = c.loop-at.at in let item = c.index.result.now in
    let i = c.loop-at.invariant in let records = c.args.records.now in let before = c.args.admission.now in let after = c.restore_one.new.admission in
    record {
      bound = omega (arith, c.loop-at-test.true);
      has = restored-has records (updates_among (item ∷ [])) c.loop-at.admission after c.restore_one.ensures i.has;
      restored = subst (λ updates. IsRestored records updates before after)
          (sym (updates_among-next items at item (omega (arith, c.loop-at-test.true, c.args.operations.now.ok.0)) c.index.ensures))
          (restored-both records (updates_among (take at items)) (updates_among (item ∷ [])) before c.loop-at.admission after i.restored c.restore_one.ensures);
    }
