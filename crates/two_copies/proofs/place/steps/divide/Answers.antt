use Rattle.std.proofs.Common.{arith, ap}
use Rattle.two_copies.proofs.Steps.{divides}
use Rattle.two_copies.proofs.place.steps.divide.Goals as goal

pub split_seat-reader-requires : goal.split_seat-reader-requires
split_seat-reader-requires g c =
    (c.requires.seated.same, omega (arith, c.requires.seated.sized), divides g.F.CopyRule _ _ (ap (λ m. m.0) c.requires.whole))
