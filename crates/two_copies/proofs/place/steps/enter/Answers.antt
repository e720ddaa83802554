use Rattle.std.proofs.Common.{arith, rules, ◌∙◌}
use Rattle.two_copies.proofs.Steps.{enters, withdraws}
use Rattle.two_copies.proofs.place.steps.enter.Goals as goal

pub fetch_add-found-requires : goal.fetch_add-found-requires
fetch_add-found-requires g c = (c.requires.seated.same, omega (arith, c.requires.seated.sized), enters g.F.CopyRule _ _ _ _ c.requires.idle)

pub fetch_sub-requires : goal.fetch_sub-requires
fetch_sub-requires g c =
    let e = c.fetch_add-found.ensures in
    (e.0 ∙ c.requires.seated.same, omega (arith, c.requires.seated.sized), withdraws g.F.CopyRule _ _ _ _ _ (e.2.takes_none (search rules)))
