use Rattle.std.proofs.Common.{refl}
use Rattle.two_copies.proofs.Steps.{begins}
use Rattle.two_copies.proofs.place.board.lay.Goals as goal

pub new-requires : goal.new-requires
new-requires g c = begins g.F.CopyRule _ _ _ _ refl c.in_ok-slots.ensures c.of-shown.ensures c.requires
