use Rattle.std.proofs.Common.{◌≡◌, take}
use Rattle.camel_tbcd.proofs.imsi.Imsi.of_decimal.Given as goal

-- the digits so far
abbrev pub invariant-loop-digit : goal.invariant-loop-digit
invariant-loop-digit l = l.first ≡ take l.digit-index l.digits
