use Rattle.std.proofs.Common.{arith}
use Rattle.std.proofs.lemmas.Result.{err_from_is_err_and}
use Rattle.csv.specs.Records.{fields_of}
use Rattle.camel_script.proofs.InsertMistake.{fails_at, goes_on, is_done, numbered-field, numbered-none}
use Rattle.camel_script.specs.Item.{item_into}
use Rattle.camel_script.proofs.record.insert.parse_items.Goals as goal

pub loop-at-preserved : goal.loop-at-preserved
loop-at-preserved c =
    goes_on item_into c.loop-at.items _ c.loop-at.invariant
    (numbered-field (fields_of c.args.fields.now) c.loop-at.at (omega arith))
    (rw (c.field.ensures, c.in_ok-push.was) at c.push.ensures)

pub returns-in_err-push : goal.returns-in_err-push
returns-in_err-push c =
    let returned = err_from_is_err_and c.from_residual.result c.from_residual.ensures.1 in
    rw (returned.1, returned.2)
    (fails_at item_into c.loop-at.items _ c.loop-at.invariant
    (numbered-field (fields_of c.args.fields.now) c.loop-at.at (omega arith))
    (rw (c.field.ensures, c.in_err-push.was) at c.push.ensures))

pub returns : goal.returns
returns c =
    is_done item_into c.loop-at.items _ c.loop-at.invariant
    (numbered-none (fields_of c.args.fields.now) c.loop-at.at (omega arith))
