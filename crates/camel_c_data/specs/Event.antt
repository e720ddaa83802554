-- What C asks with and is answered: events, answers, and counts of decisions.
use Rattle.std.specs.Prelude.{ℕ, ◌==◌, Result, Ok, Err, if◌then◌else◌, ◌≡◌, ◌+◌, ◌*◌, ◌%◌, ◌^◌, replicate, slice_index}
use Rattle.std.specs.Prelude.{slice_set}
use Rattle.camel_criteria.specs.Cause.{cause_of}
use Rattle.camel_rows.specs.Decision.{EventData}
use Rattle.camel_rows.specs.declared.trigger.event.TdpEvent.TheVariants.{CollectedInfo, RouteSelectFailure}
use Rattle.camel_rows.specs.declared.trigger.event.TdpEvent.TheVariants.{TerminatingAttempt, Busy, NoAnswer}
use Rattle.camel_c_data.specs.Fields.{call_address_in, basic_service_in, is_set, imsi_in, some_or_malformed}
use Rattle.camel_c_data.specs.Fields.{isdn_address_in}
use Rattle.camel_reading.specs.Reading.{◌>>=◌}
use Rattle.camel_c_data.specs.declared.data_fault.DataFault.{DataFault}
use Rattle.camel_c_data.specs.declared.data_fault.DataFault.TheVariants.{Malformed}
use Rattle.camel_c_data.specs.declared.event.CamelEvent.{CamelEvent}
use Rattle.camel_rows.specs.declared.trigger.decision.Reason.{Reason}
use Rattle.camel_rows.specs.declared.trigger.decision.Reason.TheVariants.{Unknown, NoCsi, NotArmed, Emergency, Criteria}
use Rattle.camel_rows.specs.declared.trigger.outcome.Answer.{Answer}
use Rattle.camel_rows.specs.declared.trigger.outcome.Outcome.{Outcome}
use Rattle.camel_rows.specs.declared.trigger.outcome.Outcome.TheVariants.{Trigger, NoTrigger}
use Rattle.camel_c_data.specs.Update.{handling_number}
use Rattle.camel_c_data.specs.declared.answer.CamelAnswer.{CamelAnswer}
use Rattle.camel_c_data.specs.declared.counts.CamelDecisions.{CamelDecisions}

-- A call event (TS 23.078) by its fields. Each detection point has the fields of its kind of event.

-- the cause of this value
abbrev pub cause_in : ℕ → Result ℕ DataFault
cause_in value = some_or_malformed (cause_of value)

-- DP 2
abbrev pub collected_info_in : CamelEvent → Result EventData DataFault
collected_info_in event = do
  imsi ← imsi_in event.imsi
  destination ← call_address_in event.destination
  Ok (CollectedInfo imsi destination (basic_service_in event.basic) (is_set event.is_forwarded))

-- DP 4
abbrev pub route_select_failure_in : CamelEvent → Result EventData DataFault
route_select_failure_in event = do
  imsi ← imsi_in event.imsi
  destination ← call_address_in event.destination
  cause ← cause_in event.cause
  Ok (RouteSelectFailure imsi destination (basic_service_in event.basic) (is_set event.is_forwarded) cause)

-- DP 12
abbrev pub terminating_attempt_in : CamelEvent → Result EventData DataFault
terminating_attempt_in event = do
  imsi ← imsi_in event.imsi
  Ok (TerminatingAttempt imsi (basic_service_in event.basic))

-- DP 13
abbrev pub busy_in : CamelEvent → Result EventData DataFault
busy_in event = do
  imsi ← imsi_in event.imsi
  cause ← cause_in event.cause
  Ok (Busy imsi (basic_service_in event.basic) cause)

-- DP 14
abbrev pub no_answer_in : CamelEvent → Result EventData DataFault
no_answer_in event = do
  imsi ← imsi_in event.imsi
  cause ← cause_in event.cause
  Ok (NoAnswer imsi (basic_service_in event.basic) cause)

-- the event that the fields are; malformed at any other detection point
unfoldable pub event_in : CamelEvent → Result EventData DataFault
event_in event =
    if event.dp == 2 then collected_info_in event
    else if event.dp == 4 then route_select_failure_in event
    else if event.dp == 12 then terminating_attempt_in event
    else if event.dp == 13 then busy_in event
    else if event.dp == 14 then no_answer_in event
    else Err Malformed

-- An answer by its fields.

-- the number of a reason
abbrev pub reason_number : Reason → ℕ
reason_number Unknown = 1
reason_number NoCsi = 2
reason_number NotArmed = 3
reason_number Emergency = 4
reason_number Criteria = 5

-- the number of the reason why no service is invoked, and 0 if one is
abbrev pub outcome_number : Outcome → ℕ
outcome_number (Trigger dp key scf handling) = 0
outcome_number (NoTrigger reason) = reason_number reason

-- the fields of a row are 0, and have no octets
pub record HasNoRow (answer : CamelAnswer) : Type 0 where
  pub key : answer.key ≡ 0
  pub scf : answer.scf.length ≡ 0
  pub dp : answer.dp ≡ 0
  pub handling : answer.is_release ≡ 0

-- the fields are those of an outcome, the four values of the row or none
abbrev pub ShowsOutcome : Outcome → CamelAnswer → Type 0
ShowsOutcome (Trigger dp key scf handling) fields = (fields.is_trigger ≡ 1) × (fields.dp ≡ dp) × (fields.key ≡ key)
    × (isdn_address_in fields.scf ≡ Ok scf) × (fields.is_release ≡ handling_number handling)
ShowsOutcome (NoTrigger reason) fields = (fields.is_trigger ≡ 0) × HasNoRow fields

-- the fields are those of an answer
pub record ShowsAnswer (answer : Answer) (fields : CamelAnswer) : Type 0 where
  pub front : fields.front ≡ answer.front
  pub reason : fields.reason ≡ outcome_number answer.outcome
  pub outcome : ShowsOutcome answer.outcome fields

-- How many events were decided at each detection point with each reason, by both numbers. Reason 0 is of those that
-- invoke a service.

abbrev pub no_decisions : CamelDecisions
no_decisions = record { by = replicate 90 0 }

-- the place of a detection point and a reason
abbrev pub place_of : ℕ → ℕ → ℕ
place_of dp reason = dp * 6 + reason

-- one decision more at this detection point with the reason of this number, modulo 2^64
abbrev pub with_decision : CamelDecisions → ℕ → ℕ → CamelDecisions
with_decision decisions dp reason = record {
  by = slice_set decisions.by (place_of dp reason) ((slice_index decisions.by (place_of dp reason) + 1) % 2 ^ 64);
}
