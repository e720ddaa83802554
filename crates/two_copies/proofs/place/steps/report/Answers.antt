use Rattle.std.proofs.Common.{arith}
use Rattle.two_copies.proofs.Steps.{reports}
use Rattle.two_copies.proofs.place.steps.report.Goals as goal

pub fetch_add-requires : goal.fetch_add-requires
fetch_add-requires g c = (c.requires.seated.same, omega (arith, c.requires.seated.sized), reports g.F.CopyRule _ _ _ c.requires.leaving)
