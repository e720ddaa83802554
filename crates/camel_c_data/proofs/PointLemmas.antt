-- The detection points of events.
use Rattle.std.proofs.Common.{◌≡◌, ◌≤◌, refl, arith}
use Rattle.camel_rows.specs.Decision.{event_data, event_dp}
use Rattle.camel_rows.specs.declared.trigger.event.TdpEvent.{TdpEvent}
use Rattle.camel_rows.specs.declared.trigger.event.TdpEvent.TheVariants.{CollectedInfo, RouteSelectFailure, TerminatingAttempt, Busy, NoAnswer}
use Rattle.camel_tbcd.specs.declared.address.Address.{Address}

pub bound : {A : Type 0} (event : TdpEvent A) → event_dp event ≤ 14
bound (CollectedInfo imsi destination basic forwarded) = omega arith
bound (RouteSelectFailure imsi destination basic forwarded cause) = omega arith
bound (TerminatingAttempt imsi basic) = omega arith
bound (Busy imsi basic cause) = omega arith
bound (NoAnswer imsi basic cause) = omega arith

-- an event with a borrowed destination is at the detection point of what it is
pub same_dp : (event : TdpEvent Address) → event_dp (event_data event) ≡ event_dp event
same_dp (CollectedInfo imsi destination basic forwarded) = refl
same_dp (RouteSelectFailure imsi destination basic forwarded cause) = refl
same_dp (TerminatingAttempt imsi basic) = refl
same_dp (Busy imsi basic cause) = refl
same_dp (NoAnswer imsi basic cause) = refl
