use Rattle.std.proofs.Common.{rules}
use Rattle.std.proofs.lemmas.Result.{err_from_is_err_and}
use Rattle.camel_c_data.specs.Update.{row_in}
use Rattle.camel_reading.proofs.StepLemmas.{reads_exactly}
use Rattle.camel_c_data.specs.Fields.{IsMemory}
use Rattle.camel_c_data.proofs.FewLemmas.{few, refused}
use Rattle.camel_c_data.proofs.csi_lists.read_rows.Goals as goal

pub returns-in_err-check_count-clause-rows : goal.returns-in_err-check_count-clause-rows
returns-in_err-check_count-clause-rows c =
    let returned = err_from_is_err_and c.from_residual.result c.from_residual.ensures.1 in
    rw (returned.1, returned.2) (refused row_in c.args.rows.now _ c.in_err-check_count.ensures.many)

pub returns-clause-rows : goal.returns-clause-rows
returns-clause-rows c =
    rw (few row_in c.args.rows.now c.in_ok-check_count.ensures.few) (c.read_into.ensures.values row_in (λ row answer says. reads_exactly IsMemory _ _ (search rules)))
