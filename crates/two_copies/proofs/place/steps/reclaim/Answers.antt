use Rattle.std.proofs.Common.{arith}
use Rattle.two_copies.proofs.Steps.{reclaims}
use Rattle.two_copies.proofs.place.steps.reclaim.Goals as goal

pub fetch_and-found-requires : goal.fetch_and-found-requires
fetch_and-found-requires g c =
    (c.requires.seated.same, omega (arith, c.requires.seated.sized), reclaims g.F.CopyRule _ _ _ c.args.newest _ c.requires.writes)
