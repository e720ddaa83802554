use Rattle.std.proofs.Common.{◌≡◌, true, [], ◌∷◌, All, take, arith, subst, sym}
use Rattle.std.proofs.lemmas.List.{take_all}
use Rattle.std.proofs.lemmas.List.Elements.{All-append}
use Rattle.camel_rows.specs.Update.{leaves_record}
use Rattle.camel_rows.specs.declared.subscriber.update.Update.{Update}
use Rattle.camel_vlr.proofs.OperationLemmas.{each_of, updates_among-next}
use Rattle.camel_vlr.specs.Store.{AllLeave}
use Rattle.camel_vlr.specs.Operation.{updates_among}
use Rattle.camel_vlr.proofs.writer.dropping.leave_records.Goals as goal

pub loop-at-preserved : goal.loop-at-preserved
loop-at-preserved c =
    let items = c.args.operations.now.items in let at = c.loop-at.at in let item = c.index.result.now in
    let leaves = λ (update : Update). leaves_record update ≡ true in record {
      bound = omega (arith, c.loop-at-test.true);
      all = subst (All leaves) (sym (updates_among-next items at item (omega (arith, c.loop-at-test.true, c.args.operations.now.ok.0)) c.index.ensures))
          (All-append leaves (updates_among (take at items)) (updates_among (item ∷ [])) c.loop-at.invariant.all
          (c.leaves_record.ensures.yes c.if-not-leaves_record.false));
    }

-- a list of which each update leaves a record has no operation that doesn't
pub returns-then-not-leaves_record-clause-no : goal.returns-then-not-leaves_record-clause-no
returns-then-not-leaves_record-clause-no c all =
    let items = c.args.operations.now.items in let item = c.index.result.now in
    let own = each_of (λ update. leaves_record update ≡ true) items c.loop-at.at item
    (omega (arith, c.loop-at-test.true, c.args.operations.now.ok.0)) c.index.ensures all in
    absurd (let leaves = c.leaves_record.ensures.no own in cc)

pub returns-clause-yes : goal.returns-clause-yes
returns-clause-yes c is_true =
    subst (λ list. AllLeave (updates_among list))
    (take_all c.loop-at.at c.args.operations.now.items (omega (arith, c.loop-at-test.false, c.args.operations.now.ok.0))) c.loop-at.invariant.all
