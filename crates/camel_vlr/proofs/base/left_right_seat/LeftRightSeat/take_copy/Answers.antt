use Rattle.camel_vlr.proofs.RuleLemmas.{looks}
use Rattle.camel_vlr.proofs.base.left_right_seat.LeftRightSeat.take_copy.Goals as goal

pub enter_as-requires : goal.enter_as-requires
enter_as-requires c copy = looks _ _ copy
