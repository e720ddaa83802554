-- What an event with a borrowed destination has in common with its data.
use Rattle.std.proofs.Common.{◌≡◌, refl}
use Rattle.camel_tbcd.specs.declared.address.Address.{Address}
use Rattle.camel_rows.specs.Decision.{event_data, event_dp}
use Rattle.camel_rows.specs.declared.trigger.event.TdpEvent.{TdpEvent}
use Rattle.camel_rows.specs.declared.trigger.event.TdpEvent.TheVariants.{CollectedInfo, RouteSelectFailure, TerminatingAttempt, Busy, NoAnswer}

pub same_dp : (event : TdpEvent Address) → event_dp (event_data event) ≡ event_dp event
same_dp (CollectedInfo imsi destination basic forwarded) = refl
same_dp (RouteSelectFailure imsi destination basic forwarded cause) = refl
same_dp (TerminatingAttempt imsi basic) = refl
same_dp (Busy imsi basic cause) = refl
same_dp (NoAnswer imsi basic cause) = refl
