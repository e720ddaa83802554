-- What an argument brings, and what two Inserts of one dialogue bring together.
use Rattle.std.specs.Prelude.{ℕ, List, Option, Some, None, ◌≡◌, ◌⊎◌, false, ◌++◌, length, Result, Ok, Err}
use Rattle.std.specs.Prelude.{if◌then◌else◌}
use Rattle.std.specs.Option.{option_and_then, option_map, option_or}
use Rattle.std.specs.Str.{bytes_eq}
use Rattle.camel_criteria.specs.Criteria.{OCriteriaData, TCriteriaData}
use Rattle.camel_rows.specs.TdpRow.{TdpRowData, o_criteria_set_of, o_csi_of, t_criteria_set_of, vt_csi_of}
use Rattle.camel_rows.specs.declared.subscriber.update.Update.{Update}
use Rattle.camel_map.specs.declared.arrival.Arrival.{Arrival}
use Rattle.camel_map.specs.declared.arrival.CapabilityHandling.{CapabilityHandling}
use Rattle.camel_map.specs.declared.items.ReceivedList.{ReceivedList}
use Rattle.camel_map.specs.declared.row.ReceivedCsi.{ReceivedCsi}
use Rattle.camel_map.specs.declared.row.ReceivedLists.{ReceivedLists}
use Rattle.camel_ber.specs.Elements.{◌>>=◌}
use Rattle.camel_criteria.specs.declared.refusal.Refusal.{Refusal}
use Rattle.camel_criteria.specs.declared.refusal.Refusal.TheVariants.{OutOfMemory}
use Rattle.camel_rows.specs.Update.{is_insert}
use Rattle.camel_map.specs.declared.join.JoinFault.{JoinFault}
use Rattle.camel_map.specs.declared.join.JoinFault.TheVariants.{NoInsert, OtherSubscriber, Refused}
use Rattle.camel_rows.specs.declared.subscriber.update.Update.TheVariants as update

-- What an argument brings beside the update that it says.

-- how many items came in a list; none, if it did not come
abbrev pub count_of : {A : Type 0} → Option (ReceivedList A) → ℕ
count_of None = 0
count_of (Some list) = list.count

-- the items that are kept of a list, if it came
abbrev pub kept_in : {A : Type 0} → Option (ReceivedList A) → Option A
kept_in list = option_map (λ list. list.kept) list

abbrev pub rows_in : {A : Type 0} → Option (ReceivedCsi A) → Option (ReceivedList A)
rows_in csi = option_map (λ csi. csi.rows) csi

abbrev pub capability_in : {A : Type 0} → Option (ReceivedCsi A) → Option ℕ
capability_in csi = option_and_then (λ csi. csi.capability) csi

-- an update, and nothing beside it
abbrev pub bare : Update → Arrival
bare update = record {
  update = update;
  counts = record { o = 0; o_criteria = 0; vt = 0; t_criteria = 0 };
  capabilities = record { o = None; vt = None };
}

-- an Insert of lists, each if it came
abbrev pub insert_with : List ℕ → Option (ReceivedList (List TdpRowData)) → Option (ReceivedList (List OCriteriaData))
    → Option (ReceivedList (List TdpRowData)) → Option (ReceivedList (List TCriteriaData)) → CapabilityHandling → Arrival
insert_with imsi o o_criteria vt t_criteria capabilities = record {
  update = update.Insert imsi (kept_in o) (kept_in o_criteria) (kept_in vt) (kept_in t_criteria);
  counts = record {
    o = count_of o;
    o_criteria = count_of o_criteria;
    vt = count_of vt;
    t_criteria = count_of t_criteria;
  };
  capabilities = capabilities;
}

-- an Insert of what came
abbrev pub insert_of : List ℕ → ReceivedLists (List TdpRowData) (List OCriteriaData)
    → ReceivedLists (List TdpRowData) (List TCriteriaData) → Arrival
insert_of imsi o vt =
    insert_with imsi (rows_in o.csi) o.criteria (rows_in vt.csi) vt.criteria
    (record { o = capability_in o.csi; vt = capability_in vt.csi })

-- The lists of an Insert as they are received, and what comes of those of the Inserts of a dialogue. TS 29.002 says that
-- a CSI shall not be segmented, so one that comes again stands in place of the earlier one. Lists of criteria may be
-- split: all rules of received lists hold for the whole.

-- the lists of an Insert with all of their items, each if it came
pub record Lists : Type 0 where
  pub o : Option (List TdpRowData)
  pub o_criteria : Option (List OCriteriaData)
  pub vt : Option (List TdpRowData)
  pub t_criteria : Option (List TCriteriaData)

-- what is kept of a list, if it came, and how many items came
abbrev pub list_of : {A : Type 0} → (List A → Result (List A) Refusal) → Option (List A)
    → Result (Option (ReceivedList (List A))) Refusal
list_of kept_of None = Ok None
list_of kept_of (Some received) =
    kept_of received >>= λ kept. Ok (Some (record { kept = kept; count = length received }))

-- what an Insert of these lists brings
unfoldable pub insert_of_lists : List ℕ → Lists → CapabilityHandling → Result Arrival Refusal
insert_of_lists imsi lists capabilities = do
  o ← list_of o_csi_of lists.o
  o_criteria ← list_of o_criteria_set_of lists.o_criteria
  vt ← list_of vt_csi_of lists.vt
  t_criteria ← list_of t_criteria_set_of lists.t_criteria
  Ok (insert_with imsi o o_criteria vt t_criteria capabilities)

-- the Insert of some lists
pub record IsOfLists (arrival : Arrival) : Type 0 where
  pub imsi : List ℕ
  pub lists : Lists
  pub whole : insert_of_lists imsi lists arrival.capabilities ≡ Ok arrival

-- what an argument brings: the Insert of some lists, or another update with nothing beside it
abbrev pub IsReceived : Arrival → Type 0
IsReceived arrival = IsOfLists arrival ⊎ ((is_insert arrival.update ≡ false) × (arrival ≡ bare arrival.update))

-- a list, and behind it the one that came later
abbrev pub joined : {A : Type 0} → Option (List A) → Option (List A) → Option (List A)
joined None later = later
joined (Some list) None = Some list
joined (Some list) (Some later) = Some (list ++ later)

-- the lists of two operations in one: the rows of a CSI are those that came last
abbrev pub as_one : Lists → Lists → Lists
as_one earlier later = record {
  o = option_or later.o earlier.o;
  o_criteria = joined earlier.o_criteria later.o_criteria;
  vt = option_or later.vt earlier.vt;
  t_criteria = joined earlier.t_criteria later.t_criteria;
}

-- the camelCapabilityHandling of each CSI that came last
abbrev pub latest : CapabilityHandling → CapabilityHandling → CapabilityHandling
latest earlier later = record { o = option_or later.o earlier.o; vt = option_or later.vt earlier.vt }

-- a join has the refusal of what is meant, or is out of memory
abbrev pub JoinsAs : Result Arrival JoinFault → Result Arrival Refusal → Type 0
JoinsAs (Ok arrival) meant = meant ≡ Ok arrival
JoinsAs (Err fault) meant = (fault ≡ Refused OutOfMemory) ⊎ ((why : Refusal) × (fault ≡ Refused why) × (meant ≡ Err why))

-- why two updates are not joined, whatever lists they have: one is no Insert, or they are of different subscribers
abbrev pub join_fault : Update → Update → Option JoinFault
join_fault (update.Insert imsi o o_criteria vt t_criteria) (update.Insert next next_o next_o_criteria next_vt next_t_criteria) =
    if bytes_eq imsi next then None else Some OtherSubscriber
join_fault one other = Some NoInsert

-- whatever lists the two Inserts had, what is joined is what one operation brings that has those of both
abbrev pub IsJoin : Arrival → Arrival → Result Arrival JoinFault → Type 0
IsJoin one other result = (imsi : List ℕ) (earlier later : Lists)
    → insert_of_lists imsi earlier one.capabilities ≡ Ok one
    → insert_of_lists imsi later other.capabilities ≡ Ok other
    → JoinsAs result (insert_of_lists imsi (as_one earlier later) (latest one.capabilities other.capabilities))

-- What the functions make that join the lists of two Inserts. These are for the proof: the contract of a join is
-- `IsJoin`.

-- a list, of which so many items came
abbrev pub part_of : {Kept : Type 0} → Option Kept → ℕ → Option (ReceivedList Kept)
part_of list count = option_map (λ kept. record { kept = kept; count = count }) list

-- what is made of lists is what is meant, or memory ran out
abbrev pub MadeLists : {Item : Type 0} → Result (Option (ReceivedList (List Item))) Refusal
    → Result (Option (ReceivedList (List Item))) Refusal → Type 0
MadeLists (Ok list) meant = meant ≡ Ok list
MadeLists (Err why) meant = (why ≡ OutOfMemory) ⊎ (meant ≡ Err why)

-- what is made of two lists that came
abbrev pub MadeTwo : {Item : Type 0} → List Item → Result (ReceivedList (List Item)) Refusal → Result (List Item) Refusal → Type 0
MadeTwo all (Ok list) meant = (meant ≡ Ok list.kept) × (list.count ≡ length all)
MadeTwo all (Err why) meant = (why ≡ OutOfMemory) ⊎ (meant ≡ Err why)

-- what is made of two lists is what is kept of one that has the items of both, whatever those were
abbrev pub JoinsTwo : {Item : Type 0} → (List Item → Result (List Item) Refusal) → List Item → ℕ → List Item → ℕ
    → Result (ReceivedList (List Item)) Refusal → Type 0
JoinsTwo {Item} kept_of one count other more result = (earlier later : List Item)
    → kept_of earlier ≡ Ok one → length earlier ≡ count → kept_of later ≡ Ok other → length later ≡ more
    → MadeTwo (earlier ++ later) result (kept_of (earlier ++ later))

-- so for two lists each of which may not have come
abbrev pub JoinsLists : {Item : Type 0} → (List Item → Result (List Item) Refusal) → Option (List Item) → ℕ
    → Option (List Item) → ℕ → Result (Option (ReceivedList (List Item))) Refusal → Type 0
JoinsLists {Item} kept_of one count other more result = (earlier later : Option (List Item))
    → list_of kept_of earlier ≡ Ok (part_of one count) → list_of kept_of later ≡ Ok (part_of other more)
    → MadeLists result (list_of kept_of (joined earlier later))
