use Rattle.std.proofs.Common.{arith}
use Rattle.two_copies.proofs.Steps.{closes_with_other}
use Rattle.two_copies.proofs.place.steps.close_with_other.Goals as goal

pub fetch_add-found-requires : goal.fetch_add-found-requires
fetch_add-found-requires g c =
    (c.requires.seated.same, omega (arith, c.requires.seated.sized), closes_with_other g.F.CopyRule _ _ _ _ c.args.newest _ c.requires.writes)
