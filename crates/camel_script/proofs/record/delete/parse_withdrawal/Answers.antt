use Rattle.std.proofs.Common.{arith, sym}
use Rattle.std.proofs.lemmas.Result.{err_from_is_err_and}
use Rattle.csv.specs.Records.{fields_of}
use Rattle.camel_script.proofs.InsertMistake.{fails_here, goes_on, is_done, numbered-field, numbered-none}
use Rattle.camel_script.specs.Record.{withdrawal_with}
use Rattle.camel_script.proofs.record.delete.parse_withdrawal.Goals as goal

pub loop-at-preserved : goal.loop-at-preserved
loop-at-preserved c =
    goes_on withdrawal_with c.loop-at.what _ c.loop-at.invariant
    (numbered-field (fields_of c.args.fields.now) c.loop-at.at (omega arith))
    (rw c.field.ensures at (sym c.in_ok-what.ensures))

pub returns-in_err-what : goal.returns-in_err-what
returns-in_err-what c =
    let returned = err_from_is_err_and c.from_residual.result c.from_residual.ensures.1 in
    rw (returned.1, returned.2)
    (sym (fails_here withdrawal_with c.loop-at.what _ c.loop-at.invariant
    (numbered-field (fields_of c.args.fields.now) c.loop-at.at (omega arith))
    (rw c.field.ensures at (sym c.in_err-what.ensures))))

pub returns : goal.returns
returns c =
    sym (is_done withdrawal_with c.loop-at.what _ c.loop-at.invariant
    (numbered-none (fields_of c.args.fields.now) c.loop-at.at (omega arith)))
