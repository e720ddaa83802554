use Rattle.std.proofs.Common.{rules}
use Rattle.std.proofs.lemmas.Result.{err_from_is_err_and}
use Rattle.camel_c_data.proofs.FewLemmas.{few, refused}
use Rattle.camel_c_data.proofs.csi_lists.read_entries.Goals as goal

pub returns-in_err-check_count : goal.returns-in_err-check_count
returns-in_err-check_count g c =
    let returned = err_from_is_err_and c.from_residual.result c.from_residual.ensures.1 in
    rw (returned.1, returned.2) (refused g.E.SentEntry.entry_in c.args.entries.now _ c.in_err-check_count.ensures.many)

pub returns : goal.returns
returns g c =
    rw (few g.E.SentEntry.entry_in c.args.entries.now c.in_ok-check_count.ensures.few)
    (c.read_each.ensures g.E.SentEntry.entry_in (λ entry answer says. search rules))
