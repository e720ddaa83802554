use Rattle.std.proofs.Common.{arith}
use Rattle.camel_vlr.proofs.SessionLemmas.{extends_length}
use Rattle.camel_vlr_tests.proofs.fronts.fronts_after.Goals as goal

pub returns-clause-second : goal.returns-clause-second
returns-clause-second c =
    let longer = extends_length c.front_of_look.new.session.seen c.front_after.new.session.seen c.front_of_look.ensures.later in
    omega (arith, longer, c.in_ok-first.ensures.count, c.in_ok-second.ensures.count)
