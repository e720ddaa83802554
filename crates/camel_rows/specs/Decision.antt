-- Call events, and the decision of each over the data of all subscribers: as it is computed, and in the words of the
-- standard.
use Rattle.std.specs.Prelude.{ℕ, List, Option, Some, None, Bool, if◌then◌else◌, length, ◌≡◌, IsTrue, IsSome, IsNone}
use Rattle.std.specs.Prelude.{IfSome, [], unwrap_or}
use Rattle.std.specs.Option.{option_map}
use Rattle.camel_criteria.specs.Met.{OEventData, o_event_data, o_met, t_met, OMet, TMet}
use Rattle.camel_criteria.specs.declared.basic_service.BasicService.{BasicService}
use Rattle.camel_criteria.specs.declared.event.OEvent.{OEvent}
use Rattle.camel_criteria.specs.declared.event.TEvent.{TEvent}
use Rattle.camel_tbcd.specs.Address.{octets}
use Rattle.camel_tbcd.specs.declared.address.Address.{Address}
use Rattle.camel_rows.specs.declared.trigger.event.TdpEvent.{TdpEvent}
use Rattle.camel_rows.specs.declared.trigger.event.TdpEvent.TheVariants.{CollectedInfo, RouteSelectFailure}
use Rattle.camel_rows.specs.declared.trigger.event.TdpEvent.TheVariants.{TerminatingAttempt, Busy, NoAnswer}
use Rattle.camel_criteria.specs.BasicService.{is_emergency}
use Rattle.camel_tbcd.specs.declared.profile.Profile.{Profile}
use Rattle.camel_rows.specs.TdpRow.{TdpRowData}
use Rattle.camel_rows.specs.Subscriber.{EntryData, O, T, StoredCsiData, SubscriberData, entry_data, item_among}
use Rattle.camel_rows.specs.Subscriber.{entry_at, row_at, rows_tested_at}
use Rattle.camel_rows.specs.Update.{RecordsData, records_of}
use Rattle.camel_rows.specs.declared.trigger.decision.Decision.{Decision}
use Rattle.camel_rows.specs.declared.trigger.decision.Reason.{Reason}
use Rattle.camel_rows.specs.declared.trigger.decision.Reason.TheVariants.{Unknown, NoCsi, NotArmed, Emergency, Criteria}
use Rattle.camel_criteria.specs.declared.handling.Handling.{Handling}
use Rattle.camel_rows.specs.declared.trigger.outcome.CallAction.{CallAction}
use Rattle.camel_rows.specs.declared.trigger.outcome.Outcome.{Outcome}
use Rattle.camel_rows.specs.declared.trigger.outcome.Outcome.TheVariants.{Trigger, NoTrigger}
use Rattle.camel_rows.specs.declared.subscriber.update.Update.{Update}
use Rattle.camel_rows.specs.declared.trigger.outcome.Answer.{Answer}
use Rattle.camel_criteria.specs.Criteria.{OCriteriaData, TCriteriaData}
use Rattle.std.specs.FinMap as map
use Rattle.camel_rows.specs.declared.trigger.decision.Decision.TheVariants as lent
use Rattle.camel_criteria.specs.declared.handling.Handling.TheVariants as handling
use Rattle.camel_rows.specs.declared.trigger.outcome.CallAction.TheVariants as action

-- A call event at a trigger detection point (TS 23.078).

-- an event whose destination is the list of its octets
abbrev pub EventData : Type 0
EventData = TdpEvent (List ℕ)

-- what an event with a borrowed destination shows
abbrev pub event_data : TdpEvent Address → EventData
event_data (CollectedInfo imsi destination basic forwarded) = CollectedInfo imsi (octets destination) basic forwarded
event_data (RouteSelectFailure imsi destination basic forwarded cause) =
    RouteSelectFailure imsi (octets destination) basic forwarded cause
event_data (TerminatingAttempt imsi basic) = TerminatingAttempt imsi basic
event_data (Busy imsi basic cause) = Busy imsi basic cause
event_data (NoAnswer imsi basic cause) = NoAnswer imsi basic cause

module _ {A : Type 0} where
  -- the detection point
  abbrev pub event_dp : TdpEvent A → ℕ
  event_dp (CollectedInfo imsi destination basic forwarded) = 2
  event_dp (RouteSelectFailure imsi destination basic forwarded cause) = 4
  event_dp (TerminatingAttempt imsi basic) = 12
  event_dp (Busy imsi basic cause) = 13
  event_dp (NoAnswer imsi basic cause) = 14

  -- the subscriber
  abbrev pub event_imsi : TdpEvent A → List ℕ
  event_imsi (CollectedInfo imsi destination basic forwarded) = imsi
  event_imsi (RouteSelectFailure imsi destination basic forwarded cause) = imsi
  event_imsi (TerminatingAttempt imsi basic) = imsi
  event_imsi (Busy imsi basic cause) = imsi
  event_imsi (NoAnswer imsi basic cause) = imsi

  -- the basic service
  abbrev pub event_basic : TdpEvent A → BasicService
  event_basic (CollectedInfo imsi destination basic forwarded) = basic
  event_basic (RouteSelectFailure imsi destination basic forwarded cause) = basic
  event_basic (TerminatingAttempt imsi basic) = basic
  event_basic (Busy imsi basic cause) = basic
  event_basic (NoAnswer imsi basic cause) = basic

  -- the cause of the release, at a detection point that comes after one
  abbrev pub event_cause : TdpEvent A → Option ℕ
  event_cause (CollectedInfo imsi destination basic forwarded) = None
  event_cause (RouteSelectFailure imsi destination basic forwarded cause) = Some cause
  event_cause (TerminatingAttempt imsi basic) = None
  event_cause (Busy imsi basic cause) = Some cause
  event_cause (NoAnswer imsi basic cause) = Some cause

-- what an event shows to the criteria of the O-CSI, or to those of the VT-CSI
pub data ShownData : Type 0 where
  ToO : OEventData → ShownData
  ToVt : TEvent → ShownData

-- what an event shows to the criteria of the VT-CSI, if it is tested against these
abbrev pub vt_event : EventData → TEvent
vt_event event = record { basic = event_basic event; cause = event_cause event }

-- what is shown to the criteria of the O-CSI, with a borrowed destination, or else to those of the VT-CSI
abbrev pub shown_as : Option OEvent → TEvent → ShownData
shown_as (Some event) other = ToO (o_event_data event)
shown_as None event = ToVt event

-- what an event shows to the criteria that it is tested against
abbrev pub shown_of : EventData → ShownData
shown_of (CollectedInfo imsi destination basic forwarded) =
    ToO (record { destination = destination; basic = basic; forwarded = forwarded; cause = None })
shown_of (RouteSelectFailure imsi destination basic forwarded cause) =
    ToO (record { destination = destination; basic = basic; forwarded = forwarded; cause = Some cause })
shown_of (TerminatingAttempt imsi basic) = ToVt (record { basic = basic; cause = None })
shown_of (Busy imsi basic cause) = ToVt (record { basic = basic; cause = Some cause })
shown_of (NoAnswer imsi basic cause) = ToVt (record { basic = basic; cause = Some cause })

-- The trigger rules (TS 23.078): whether an event triggers a service. The order of the reasons, and that CAMEL does not
-- apply to emergency calls at the VT-CSI either, is profile 1's own. `Standard` says the same in the standard's words.

-- a decision as plain data: the row whose service is invoked, with the entry of its detection point, if there
-- is one; or why none is
pub data DecisionData : Type 0 where
  Triggers : TdpRowData → Option EntryData → DecisionData
  TriggersNothing : Reason → DecisionData

-- what a decision with a borrowed row and entry shows
abbrev pub decision_data : Decision → DecisionData
decision_data (lent.Trigger row criteria) = Triggers row.now (option_map entry_data criteria)
decision_data (lent.NoTrigger reason) = TriggersNothing reason

-- The decision by the CSI that a detection point is tested against, the detection point of each of its entries being
-- given by `dp_of`, whether the event meets an entry by `is_met`, and the entry as part of a decision by `entry_as`.
-- The reasons in their order: no CSI, no row of the detection point, an emergency call, an entry that is not met.
module _ {Entry : Type 0} (dp_of : Entry → ℕ) (is_met : Entry → Bool) (entry_as : Entry → EntryData) where
  abbrev pub by_entry : TdpRowData → Option Entry → DecisionData
  by_entry row None = Triggers row None
  by_entry row (Some entry) = if is_met entry then Triggers row (Some (entry_as entry)) else TriggersNothing Criteria

  abbrev pub by_row : EventData → Option TdpRowData → Option Entry → DecisionData
  by_row event None entry = TriggersNothing NotArmed
  by_row event (Some row) entry = if is_emergency (event_basic event) then TriggersNothing Emergency else by_entry row entry

  abbrev pub by_csi : EventData → Option (StoredCsiData Entry) → DecisionData
  by_csi event None = TriggersNothing NoCsi
  by_csi event (Some csi) = by_row event (item_among (λ row. row.dp) (event_dp event) csi.rows) (item_among dp_of (event_dp event) csi.entries)

-- the CSI of the record whose criteria the event is shown to decides
abbrev pub by_shown : Profile → EventData → SubscriberData → ShownData → DecisionData
by_shown profile event subscriber (ToO shown) = by_csi (λ entry. entry.dp) (λ entry. o_met profile entry shown) O event subscriber.o
by_shown profile event subscriber (ToVt shown) = by_csi (λ entry. entry.dp) (λ entry. t_met entry shown) T event subscriber.vt

abbrev pub by_record : Profile → EventData → Option SubscriberData → DecisionData
by_record profile event None = TriggersNothing Unknown
by_record profile event (Some subscriber) = by_shown profile event subscriber (shown_of event)

-- what an event triggers over the data
abbrev pub decision : Profile → RecordsData → EventData → DecisionData
decision profile m event = by_record profile event (map.get m (event_imsi event))

-- What is returned of a decision, and what is done if the service can't be reached (TS 23.078).

-- the four values of the row, or the reason
abbrev pub outcome_of : DecisionData → Outcome
outcome_of (Triggers row entry) = Trigger row.dp row.key row.scf row.handling
outcome_of (TriggersNothing reason) = NoTrigger reason

-- the default call handling is the action of its name
abbrev pub action_of : Handling → CallAction
action_of handling.Continue = action.Continue
action_of handling.Release = action.Release

-- What is returned for a call event.

-- the outcome over the data that a front leaves, and how many updates the front has
abbrev pub answer_over : Profile → List Update → EventData → Answer
answer_over profile front event = record { front = length front; outcome = outcome_of (decision profile (records_of front) event) }

-- What `Decision` and `Update` compute, in the words of the standard (TS 23.078).

-- what is shown to the criteria of a CSI meets an entry of that CSI if it meets each criterion that the entry holds
abbrev pub ShownMeets : Profile → ShownData → EntryData → Type 0
ShownMeets profile (ToO shown) (O entry) = OMet profile entry shown
ShownMeets profile (ToVt shown) (T entry) = TMet entry shown
ShownMeets profile shown entry = ⊥

abbrev pub Meets : Profile → EventData → EntryData → Type 0
Meets profile event entry = ShownMeets profile (shown_of event) entry

-- The service of a row is invoked if there is a record of the subscriber with the CSI that the detection point is
-- tested against, that CSI has this row of the detection point, the call is no emergency call, and the event meets the
-- entry of the detection point, if there is one.
pub record Invokes (profile : Profile) (m : RecordsData) (event : EventData) (row : TdpRowData) (entry : Option EntryData) : Type 0 where
  pub subscriber : SubscriberData
  pub registered : map.get m (event_imsi event) ≡ Some subscriber
  pub stored : IsSome (rows_tested_at (event_dp event) subscriber)
  pub armed : row_at (event_dp event) subscriber ≡ Some row
  pub no_emergency : ¬ (IsTrue (is_emergency (event_basic event)))
  pub criteria : entry_at (event_dp event) subscriber ≡ entry
  pub met : IfSome entry (Meets profile event)

-- there is no record of the subscriber
abbrev pub IsUnknown : RecordsData → EventData → Type 0
IsUnknown m event = map.get m (event_imsi event) ≡ None

-- there is a record, without the CSI that the detection point is tested against
pub record LacksCsi (m : RecordsData) (event : EventData) : Type 0 where
  pub subscriber : SubscriberData
  pub registered : map.get m (event_imsi event) ≡ Some subscriber
  pub not_stored : IsNone (rows_tested_at (event_dp event) subscriber)

-- there is a record with the CSI that the detection point is tested against, and that CSI has no row of it
pub record IsNotArmed (m : RecordsData) (event : EventData) : Type 0 where
  pub subscriber : SubscriberData
  pub registered : map.get m (event_imsi event) ≡ Some subscriber
  pub stored : IsSome (rows_tested_at (event_dp event) subscriber)
  pub not_armed : row_at (event_dp event) subscriber ≡ None

-- the detection point is armed, and the call is an emergency call
pub record IsEmergencyCall (m : RecordsData) (event : EventData) : Type 0 where
  pub subscriber : SubscriberData
  pub registered : map.get m (event_imsi event) ≡ Some subscriber
  pub armed : IsSome (row_at (event_dp event) subscriber)
  pub emergency : IsTrue (is_emergency (event_basic event))

-- the detection point is armed, the call is no emergency call, and the event does not meet the entry of the detection
-- point
pub record FailsCriteria (profile : Profile) (m : RecordsData) (event : EventData) : Type 0 where
  pub subscriber : SubscriberData
  pub registered : map.get m (event_imsi event) ≡ Some subscriber
  pub armed : IsSome (row_at (event_dp event) subscriber)
  pub no_emergency : ¬ (IsTrue (is_emergency (event_basic event)))
  pub entry : EntryData
  pub criteria : entry_at (event_dp event) subscriber ≡ Some entry
  pub not_met : ¬ (Meets profile event entry)

-- a CSI with the criteria that came with it, or with none
abbrev pub csi_with : {Entry : Type 0} → List TdpRowData → Option (List Entry) → StoredCsiData Entry
csi_with rows entries = record { rows = rows; entries = unwrap_or entries [] }

-- there is a record of the subscriber, of which this part is so
pub record Has {Part : Type 0} (m : RecordsData) (imsi : List ℕ) (part_of : SubscriberData → Option Part) (part : Part) : Type 0 where
  pub subscriber : SubscriberData
  pub registered : map.get m imsi ≡ Some subscriber
  pub stored : part_of subscriber ≡ Some part

-- there is a record of the subscriber, with this O-CSI; with this VT-CSI
abbrev pub HasO : RecordsData → List ℕ → StoredCsiData OCriteriaData → Type 0
HasO m imsi csi = Has m imsi (λ subscriber. subscriber.o) csi

abbrev pub HasVt : RecordsData → List ℕ → StoredCsiData TCriteriaData → Type 0
HasVt m imsi csi = Has m imsi (λ subscriber. subscriber.vt) csi
