use Rattle.std.proofs.Common.{arith, ◌∙◌}
use Rattle.two_copies.proofs.Steps.{shows}
use Rattle.two_copies.proofs.Plays.{fills_slot}
use Rattle.two_copies.proofs.place.steps.show.Goals as goal

pub fetch_xor-found-requires : goal.fetch_xor-found-requires
fetch_xor-found-requires g c =
    let e = c.exchange-emptied.ensures in (
      e.0 ∙ c.requires.seated.same,
      omega (arith, c.requires.seated.sized),
      shows g.F.CopyRule _ _ _ c.args.newest _ c.args.next _
          (fills_slot _ _ _ _ _ _ _ _ c.requires.writes c.index.ensures e.3) c.requires.holds c.requires.follows,
    )
