-- What the trigger rules mean.
use Rattle.std.proofs.Common.{◌≡◌, ◌∙◌, ◌↔◌, ℕ, Bool, true, false, IsTrue, IsSome, IsNone, IfSome, List, Option, Some}
use Rattle.std.proofs.Common.{None, if◌then◌else◌, refl, sym, subst, ap}
use Rattle.std.proofs.lemmas.Bool.{both_ways, false_from_ne_true}
use Rattle.std.proofs.lemmas.Option.{option_and_then_some}
use Rattle.std.specs.FinMap as map
use Rattle.std.specs.Option.{option_and_then, option_map}
use Rattle.camel_criteria.proofs.MeansLemmas.{o_means, t_means}
use Rattle.camel_criteria.specs.BasicService.{is_emergency}
use Rattle.camel_criteria.specs.Met.{o_met, t_met}
use Rattle.camel_tbcd.specs.declared.profile.Profile.{Profile}
use Rattle.camel_rows.specs.TdpRow.{TdpRowData}
use Rattle.camel_rows.specs.Decision.{DecisionData, Triggers, TriggersNothing, by_csi, by_record, by_row, by_shown}
use Rattle.camel_rows.specs.Decision.{decision, EventData, ShownData, ToO, ToVt, event_basic, event_dp, event_imsi}
use Rattle.camel_rows.specs.Decision.{shown_of, FailsCriteria, Invokes, IsEmergencyCall, IsNotArmed, IsUnknown}
use Rattle.camel_rows.specs.Decision.{LacksCsi, Meets, ShownMeets}
use Rattle.camel_rows.specs.Update.{RecordsData}
use Rattle.camel_rows.specs.Subscriber.{EntryData, O, T, StoredCsiData, SubscriberData, entry_at, entry_of, item_among, row_at, rows_of, rows_tested_at}
use Rattle.camel_rows.specs.declared.trigger.decision.Reason.{Reason}
use Rattle.camel_rows.specs.declared.trigger.decision.Reason.TheVariants.{Unknown, NoCsi, NotArmed, Emergency, Criteria}
use Rattle.camel_rows.specs.declared.trigger.event.TdpEvent.TheVariants.{CollectedInfo, RouteSelectFailure, TerminatingAttempt, Busy, NoAnswer}

module _ (profile : Profile) where
  -- whether what is shown meets an entry, as a test; it fails for an entry of the other CSI
  abbrev meets : ShownData → EntryData → Bool
  meets (ToO shown) (O entry) = o_met profile entry shown
  meets (ToVt shown) (T entry) = t_met entry shown
  meets shown entry = false

  meets_means : (shown : ShownData) (entry : EntryData) → IsTrue (meets shown entry) ↔ ShownMeets profile shown entry
  meets_means (ToO shown) (O entry) = o_means profile entry shown
  meets_means (ToVt shown) (T entry) = t_means entry shown
  meets_means (ToO shown) (T entry) = (λ e. absurd (cc), λ met. absurd met)
  meets_means (ToVt shown) (O entry) = (λ e. absurd (cc), λ met. absurd met)

  -- the decision by what the standard names: whether the CSI is stored, the row, whether the call is an emergency call,
  -- the entry
  abbrev at_entry : (EntryData → Bool) → TdpRowData → Option EntryData → DecisionData
  at_entry is_met row None = Triggers row None
  at_entry is_met row (Some entry) = if is_met entry then Triggers row (Some entry) else TriggersNothing Criteria

  abbrev at_row : (EntryData → Bool) → Bool → Option TdpRowData → Option EntryData → DecisionData
  at_row is_met emergency None entry = TriggersNothing NotArmed
  at_row is_met emergency (Some row) entry = if emergency then TriggersNothing Emergency else at_entry is_met row entry

  abbrev at_csi : (EntryData → Bool) → Bool → Option (List TdpRowData) → Option TdpRowData → Option EntryData → DecisionData
  at_csi is_met emergency None row entry = TriggersNothing NoCsi
  at_csi is_met emergency (Some rows) row entry = at_row is_met emergency row entry

  abbrev at_parts : EventData → SubscriberData → DecisionData
  at_parts event subscriber =
      at_csi (meets (shown_of event)) (is_emergency (event_basic event)) (rows_tested_at (event_dp event) subscriber)
      (row_at (event_dp event) subscriber) (entry_at (event_dp event) subscriber)

  module _ {Entry : Type 0} (dp_of : Entry → ℕ) (entry_as : Entry → EntryData) (is_met : EntryData → Bool) where
    abbrev of_row : EventData → Option TdpRowData → Option Entry → DecisionData
    of_row event row entry = at_row is_met (is_emergency (event_basic event)) row (option_map entry_as entry)

    same_row : (event : EventData) (row : Option TdpRowData) (entry : Option Entry)
        → by_row dp_of (λ held. is_met (entry_as held)) entry_as event row entry ≡ of_row event row entry
    same_row event None entry = refl
    same_row event (Some row) None = refl
    same_row event (Some row) (Some entry) = refl

    same_csi : (event : EventData) (csi : Option (StoredCsiData Entry))
        → by_csi dp_of (λ held. is_met (entry_as held)) entry_as event csi
        ≡ at_csi is_met (is_emergency (event_basic event)) (option_map rows_of csi)
        (option_and_then (item_among (λ row. row.dp) (event_dp event)) (option_map rows_of csi))
        (option_map entry_as (option_and_then (entry_of dp_of (event_dp event)) csi))
    same_csi event None = refl
    same_csi event (Some csi) = same_row event (item_among (λ row. row.dp) (event_dp event) csi.rows) (entry_of dp_of (event_dp event) csi)

  same_parts : (event : EventData) (subscriber : SubscriberData) → by_shown profile event subscriber (shown_of event) ≡ at_parts event subscriber
  same_parts (CollectedInfo imsi destination basic forwarded) subscriber =
      same_csi (λ entry. entry.dp) O (meets (shown_of (CollectedInfo imsi destination basic forwarded)))
      (CollectedInfo imsi destination basic forwarded) subscriber.o
  same_parts (RouteSelectFailure imsi destination basic forwarded cause) subscriber =
      same_csi (λ entry. entry.dp) O (meets (shown_of (RouteSelectFailure imsi destination basic forwarded cause)))
      (RouteSelectFailure imsi destination basic forwarded cause) subscriber.o
  same_parts (TerminatingAttempt imsi basic) subscriber =
      same_csi (λ entry. entry.dp) T (meets (shown_of (TerminatingAttempt imsi basic))) (TerminatingAttempt imsi basic) subscriber.vt
  same_parts (Busy imsi basic cause) subscriber =
      same_csi (λ entry. entry.dp) T (meets (shown_of (Busy imsi basic cause))) (Busy imsi basic cause) subscriber.vt
  same_parts (NoAnswer imsi basic cause) subscriber =
      same_csi (λ entry. entry.dp) T (meets (shown_of (NoAnswer imsi basic cause))) (NoAnswer imsi basic cause) subscriber.vt

  -- what the standard says if a decision is so
  abbrev Because : RecordsData → EventData → Reason → Type 0
  Because m event Unknown = IsUnknown m event
  Because m event NoCsi = LacksCsi m event
  Because m event NotArmed = IsNotArmed m event
  Because m event Emergency = IsEmergencyCall m event
  Because m event Criteria = FailsCriteria profile m event

  abbrev Explains : RecordsData → EventData → DecisionData → Type 0
  Explains m event (Triggers row entry) = Invokes profile m event row entry
  Explains m event (TriggersNothing reason) = Because m event reason

  -- the parts of a decision at a registered subscriber
  module _ (m : RecordsData) (event : EventData) (subscriber : SubscriberData) (registered : map.get m (event_imsi event) ≡ Some subscriber) where
    abbrev dp : ℕ
    dp = event_dp event

    abbrev is_met : EntryData → Bool
    is_met = meets (shown_of event)

    entry_explained : (row : TdpRowData) (entry : EntryData) (met : Bool)
        → IsSome (rows_tested_at dp subscriber) → row_at dp subscriber ≡ Some row → ¬ (IsTrue (is_emergency (event_basic event)))
        → entry_at dp subscriber ≡ Some entry → is_met entry ≡ met
        → Explains m event (if met then Triggers row (Some entry) else TriggersNothing Criteria)
    entry_explained row entry true stored armed no_emergency criteria e = record {
      subscriber = subscriber;
      registered = registered;
      stored = stored;
      armed = armed;
      no_emergency = no_emergency;
      criteria = criteria;
      met = (meets_means (shown_of event) entry).0 e;
    }
    entry_explained row entry false stored armed no_emergency criteria e = record {
      subscriber = subscriber;
      registered = registered;
      armed = rw armed refl;
      no_emergency = no_emergency;
      entry = entry;
      criteria = criteria;
      not_met = λ met. both_ways (is_met entry) e ((meets_means (shown_of event) entry).1 met);
    }

    held_explained : (row : TdpRowData) (entry : Option EntryData)
        → IsSome (rows_tested_at dp subscriber) → row_at dp subscriber ≡ Some row → ¬ (IsTrue (is_emergency (event_basic event)))
        → entry_at dp subscriber ≡ entry → Explains m event (at_entry is_met row entry)
    held_explained row None stored armed no_emergency criteria = record {
      subscriber = subscriber;
      registered = registered;
      stored = stored;
      armed = armed;
      no_emergency = no_emergency;
      criteria = criteria;
      met = tt;
    }
    held_explained row (Some entry) stored armed no_emergency criteria = entry_explained row entry (is_met entry) stored armed no_emergency criteria refl

    call_explained : (row : TdpRowData) (emergency : Bool)
        → IsSome (rows_tested_at dp subscriber) → row_at dp subscriber ≡ Some row → is_emergency (event_basic event) ≡ emergency
        → Explains m event (if emergency then TriggersNothing Emergency else at_entry is_met row (entry_at dp subscriber))
    call_explained row true stored armed e = record { subscriber = subscriber; registered = registered; armed = rw armed refl; emergency = e }
    call_explained row false stored armed e = held_explained row (entry_at dp subscriber) stored armed (both_ways _ e) refl

    row_explained : (row : Option TdpRowData) → IsSome (rows_tested_at dp subscriber) → row_at dp subscriber ≡ row
        → Explains m event (at_row is_met (is_emergency (event_basic event)) row (entry_at dp subscriber))
    row_explained None stored armed = record { subscriber = subscriber; registered = registered; stored = stored; not_armed = armed }
    row_explained (Some row) stored armed = call_explained row (is_emergency (event_basic event)) stored armed refl

    csi_explained : (rows : Option (List TdpRowData)) → rows_tested_at dp subscriber ≡ rows
        → Explains m event (at_csi is_met (is_emergency (event_basic event)) rows (row_at dp subscriber) (entry_at dp subscriber))
    csi_explained None e = record { subscriber = subscriber; registered = registered; not_stored = rw e refl }
    csi_explained (Some rows) e = row_explained (row_at dp subscriber) (rw e refl) refl

  record_explained : (m : RecordsData) (event : EventData) (found : Option SubscriberData) → map.get m (event_imsi event) ≡ found
      → Explains m event (by_record profile event found)
  record_explained m event None e = e
  record_explained m event (Some subscriber) e =
      subst (Explains m event) (sym (same_parts event subscriber)) (csi_explained m event subscriber e (rows_tested_at (event_dp event) subscriber) refl)

  explained : (m : RecordsData) (event : EventData) → Explains m event (decision profile m event)
  explained m event = record_explained m event (map.get m (event_imsi event)) refl

  -- what the standard says is enough for a decision
  at_registered : (m : RecordsData) (event : EventData) (subscriber : SubscriberData) → map.get m (event_imsi event) ≡ Some subscriber
      → decision profile m event ≡ at_parts event subscriber
  at_registered m event subscriber registered = ap (by_record profile event) registered ∙ same_parts event subscriber

  some_of : {X : Type 0} (o : Option X) → IsSome o → (found : X) × (o ≡ Some found)
  some_of None e = absurd (cc)
  some_of (Some found) e = (found, refl)

  no_rows : (rows : Option (List TdpRowData)) → IsNone rows → rows ≡ None
  no_rows None e = refl
  no_rows (Some rows) e = absurd (cc)

  -- a row is of rows that are stored
  rows_of_row : (dp : ℕ) (subscriber : SubscriberData) (row : TdpRowData) → row_at dp subscriber ≡ Some row → IsSome (rows_tested_at dp subscriber)
  rows_of_row dp subscriber row e =
      option_and_then_some (item_among (λ row. row.dp) dp) (rows_tested_at dp subscriber) row e (λ rows is found. rw is refl)

  -- the decision by what is found of each part
  parts_at : (event : EventData) (subscriber : SubscriberData) (rows : List TdpRowData) (row : Option TdpRowData) (emergency : Bool) (entry : Option EntryData)
      → rows_tested_at (event_dp event) subscriber ≡ Some rows → row_at (event_dp event) subscriber ≡ row
      → is_emergency (event_basic event) ≡ emergency → entry_at (event_dp event) subscriber ≡ entry
      → at_parts event subscriber ≡ at_row (meets (shown_of event)) emergency row entry
  parts_at event subscriber rows row emergency entry stored armed call criteria =
      let dp = event_dp event in
      let is_met = meets (shown_of event) in
      ap (λ found. at_csi is_met (is_emergency (event_basic event)) found (row_at dp subscriber) (entry_at dp subscriber)) stored
      ∙ ap (λ found. at_row is_met (is_emergency (event_basic event)) found (entry_at dp subscriber)) armed
      ∙ ap (λ found. at_row is_met found row (entry_at dp subscriber)) call
      ∙ ap (λ found. at_row is_met emergency row found) criteria

  met_enough : (event : EventData) (row : TdpRowData) (entry : Option EntryData) → IfSome entry (Meets profile event)
      → at_entry (meets (shown_of event)) row entry ≡ Triggers row entry
  met_enough event row None met = refl
  met_enough event row (Some entry) met = rw ((meets_means (shown_of event) entry).1 met) refl

  invokes_enough : (m : RecordsData) (event : EventData) (row : TdpRowData) (entry : Option EntryData) → Invokes profile m event row entry
      → decision profile m event ≡ Triggers row entry
  invokes_enough m event row entry invokes =
      let rows = some_of _ invokes.stored in
      at_registered m event invokes.subscriber invokes.registered
      ∙ parts_at event invokes.subscriber rows.0 (Some row) false entry rows.1 invokes.armed (false_from_ne_true _ invokes.no_emergency) invokes.criteria
      ∙ met_enough event row entry invokes.met

  lacks_enough : (m : RecordsData) (event : EventData) → LacksCsi m event → decision profile m event ≡ TriggersNothing NoCsi
  lacks_enough m event lacks = at_registered m event lacks.subscriber lacks.registered ∙ rw (no_rows _ lacks.not_stored) refl

  not_armed_enough : (m : RecordsData) (event : EventData) → IsNotArmed m event → decision profile m event ≡ TriggersNothing NotArmed
  not_armed_enough m event unarmed =
      let rows = some_of _ unarmed.stored in
      at_registered m event unarmed.subscriber unarmed.registered
      ∙ parts_at event unarmed.subscriber rows.0 None (is_emergency (event_basic event))
      (entry_at (event_dp event) unarmed.subscriber) rows.1 unarmed.not_armed refl refl

  emergency_enough : (m : RecordsData) (event : EventData) → IsEmergencyCall m event → decision profile m event ≡ TriggersNothing Emergency
  emergency_enough m event call =
      let row = some_of _ call.armed in
      let rows = some_of _ (rows_of_row (event_dp event) call.subscriber row.0 row.1) in
      at_registered m event call.subscriber call.registered
      ∙ parts_at event call.subscriber rows.0 (Some row.0) true (entry_at (event_dp event) call.subscriber) rows.1 row.1 call.emergency refl

  criteria_enough : (m : RecordsData) (event : EventData) → FailsCriteria profile m event → decision profile m event ≡ TriggersNothing Criteria
  criteria_enough m event fails =
      let row = some_of _ fails.armed in
      let rows = some_of _ (rows_of_row (event_dp event) fails.subscriber row.0 row.1) in
      let not_met = false_from_ne_true (meets (shown_of event) fails.entry) (λ e. fails.not_met ((meets_means (shown_of event) fails.entry).0 e)) in
      at_registered m event fails.subscriber fails.registered
      ∙ parts_at event fails.subscriber rows.0 (Some row.0) false (Some fails.entry) rows.1 row.1 (false_from_ne_true _ fails.no_emergency) fails.criteria
      ∙ ap (λ met. if met then Triggers row.0 (Some fails.entry) else TriggersNothing Criteria) not_met

  pub triggers_means : (m : RecordsData) (event : EventData) (row : TdpRowData) (entry : Option EntryData)
      → (decision profile m event ≡ Triggers row entry) ↔ Invokes profile m event row entry
  triggers_means m event row entry = (λ e. subst (Explains m event) e (explained m event), invokes_enough m event row entry)

  pub unknown_means : (m : RecordsData) (event : EventData) → (decision profile m event ≡ TriggersNothing Unknown) ↔ IsUnknown m event
  unknown_means m event = (λ e. subst (Explains m event) e (explained m event), λ unknown. ap (by_record profile event) unknown)

  pub no_csi_means : (m : RecordsData) (event : EventData) → (decision profile m event ≡ TriggersNothing NoCsi) ↔ LacksCsi m event
  no_csi_means m event = (λ e. subst (Explains m event) e (explained m event), lacks_enough m event)

  pub not_armed_means : (m : RecordsData) (event : EventData) → (decision profile m event ≡ TriggersNothing NotArmed) ↔ IsNotArmed m event
  not_armed_means m event = (λ e. subst (Explains m event) e (explained m event), not_armed_enough m event)

  pub emergency_means : (m : RecordsData) (event : EventData) → (decision profile m event ≡ TriggersNothing Emergency) ↔ IsEmergencyCall m event
  emergency_means m event = (λ e. subst (Explains m event) e (explained m event), emergency_enough m event)

  pub criteria_mean : (m : RecordsData) (event : EventData) → (decision profile m event ≡ TriggersNothing Criteria) ↔ FailsCriteria profile m event
  criteria_mean m event = (λ e. subst (Explains m event) e (explained m event), criteria_enough m event)
