-- TDP rows: as clauses see them, as a CSI keeps them, and what is kept of received ones.
use Rattle.std.specs.Prelude.{ℕ, nat_le, List, Result, Ok, Err, if◌then◌else◌, ◌≡◌, ◌≤◌, ◌++◌, [], ◌∷◌, length, take}
use Rattle.std.specs.Prelude.{drop, replicate, ◌==◌, Bool, ◌&&◌, filter, count_by, Option, Some, None}
use Rattle.std.specs.List.{list_all}
use Rattle.camel_criteria.specs.declared.handling.Handling.{Handling}
use Rattle.camel_criteria.specs.declared.refusal.Refusal.{Refusal}
use Rattle.camel_criteria.specs.declared.refusal.Refusal.TheVariants.{UnexpectedDataValue, DataMissing}
use Rattle.camel_criteria.specs.declared.handling.Handling.TheVariants.{Continue}
use Rattle.camel_criteria.specs.Criteria.{OCriteriaData, TCriteriaData}
use Rattle.camel_criteria.specs.DetectionPoint.{is_among, o_detection_points, vt_detection_points}

-- A TDP row as clauses see it: O-BcsmCamelTDPData and T-BcsmCamelTDPData of TS 29.002.

-- a trigger detection point, a service key, a gsmSCF address as its octets, and a default call handling
pub record TdpRowData : Type 0 where
  pub dp : ℕ
  pub key : ℕ
  pub scf : List ℕ
  pub handling : Handling

-- the greatest service key of TS 29.002
abbrev pub max_service_key : ℕ
max_service_key = 2147483647

-- the row of these data, unless the service key is over the greatest
abbrev pub tdp_row_of : ℕ → ℕ → List ℕ → Handling → Result TdpRowData Refusal
tdp_row_of dp key scf handling =
    if nat_le key max_service_key then Ok (record { dp = dp; key = key; scf = scf; handling = handling })
    else Err UnexpectedDataValue

-- How a CSI keeps its few rows: in a room of so many places, filled from the first one on.

-- what stands in a place that holds no row
abbrev pub no_row : TdpRowData
no_row = record { dp = 0; key = 0; scf = 0 ∷ []; handling = Continue }

-- the rows, and fillers behind them up to the end of the room
abbrev pub room_with : ℕ → List TdpRowData → List TdpRowData
room_with most rows = rows ++ drop (length rows) (replicate most no_row)

-- a room of at most 3 places, so that it is known to fit into memory, keeps its first `len` rows
pub record IsKept (most : ℕ) (room : List TdpRowData) (len : ℕ) : Type 0 where
  pub few : most ≤ 3
  pub full : length room ≡ most
  pub counted : len ≡ length (take len room)
  pub fill : room ≡ room_with most (take len room)

-- What a received list of TDP rows or of criteria entries leaves (TS 23.078 and TS 29.002). That two entries may not
-- have one detection point, that an ignored item counts, and that a list of which all items are ignored is taken, is
-- profile 1's own.

-- maxNumOfCamelTDPData of TS 29.002: the most items of a list
abbrev pub max_tdp_data : ℕ
max_tdp_data = 10

-- at most one item is of a detection point, that of each item being given by `dp_of`
abbrev pub is_single : {Item : Type 0} → (Item → ℕ) → ℕ → List Item → Bool
is_single dp_of dp items = nat_le (count_by (λ item. dp_of item == dp) items) 1

-- no two items are of one of these detection points
abbrev pub has_no_two : {Item : Type 0} → (Item → ℕ) → List ℕ → List Item → Bool
has_no_two dp_of points items = list_all (λ point. is_single dp_of point items) points

-- the items of these detection points, in their order
abbrev pub items_at : {Item : Type 0} → (Item → ℕ) → List ℕ → List Item → List Item
items_at dp_of points items = filter (λ item. is_among points (dp_of item)) items

-- why a list of so many items is refused: no items are missing data, and more than the most, or two of one
-- detection point that counts, are unexpected
abbrev pub list_refusal : ℕ → Bool → Option Refusal
list_refusal count are_single =
    if count == 0 then Some DataMissing
    else if nat_le count max_tdp_data && are_single then None
    else Some UnexpectedDataValue

abbrev pub kept_unless : {Item : Type 0} → Option Refusal → List Item → Result (List Item) Refusal
kept_unless None items = Ok items
kept_unless (Some why) items = Err why

-- a list that is not refused leaves its items of these detection points, in their order
abbrev pub kept_of : {Item : Type 0} → List ℕ → (Item → ℕ) → List Item → Result (List Item) Refusal
kept_of points dp_of received =
    kept_unless (list_refusal (length received) (has_no_two dp_of points received)) (items_at dp_of points received)

-- the rows of an O-CSI and of a VT-CSI
abbrev pub o_csi_of : List TdpRowData → Result (List TdpRowData) Refusal
o_csi_of received = kept_of o_detection_points (λ row. row.dp) received

abbrev pub vt_csi_of : List TdpRowData → Result (List TdpRowData) Refusal
vt_csi_of received = kept_of vt_detection_points (λ row. row.dp) received

-- the criteria entries of an O-CSI and of a VT-CSI
abbrev pub o_criteria_set_of : List OCriteriaData → Result (List OCriteriaData) Refusal
o_criteria_set_of received = kept_of o_detection_points (λ entry. entry.dp) received

abbrev pub t_criteria_set_of : List TCriteriaData → Result (List TCriteriaData) Refusal
t_criteria_set_of received = kept_of vt_detection_points (λ entry. entry.dp) received
