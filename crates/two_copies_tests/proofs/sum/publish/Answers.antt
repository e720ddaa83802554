use Rattle.std.proofs.Common.{arith}
use Rattle.two_copies.specs.Copies.{pending_of, shown_by}
use Rattle.two_copies_tests.proofs.SumLemmas.{fold_rises}
use Rattle.two_copies_tests.proofs.sum.publish.Goals as goal

pub publish-requires : goal.publish-requires
publish-requires c next is =
    let sums = c.args.sums.now in
    (tt, omega (arith, is, fold_rises (shown_by sums).total (pending_of sums)))
