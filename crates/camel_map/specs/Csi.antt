-- The CSIs of an Insert as they are read: their rows and the criteria beside them (TS 29.002).
use Rattle.std.specs.Prelude.{ℕ, List, [], ◌∷◌, Option, Result, Ok}
use Rattle.camel_ber.specs.Elements.{◌>>=◌, PlacedData}
use Rattle.camel_criteria.specs.DetectionPoint.{handling_of}
use Rattle.camel_criteria.specs.declared.refusal.Refusal.{Refusal}
use Rattle.camel_rows.specs.TdpRow.{TdpRowData, tdp_row_of, o_criteria_set_of, o_csi_of, t_criteria_set_of, vt_csi_of}
use Rattle.camel_map.specs.Reading.{field_of, identified, if_present, mandatory, enumerated, integer, primitive}
use Rattle.camel_map.specs.Reading.{sequence, item_in, received_as, contents, elements_in, fails_at, or_refused_at}
use Rattle.camel_map.specs.Reading.{detection_point_in, isdn_address_in, unsigned_in, if_listed, constructed, items_as}
use Rattle.camel_map.specs.Reading.{basic_service_in, call_type_in, cause_in, length_in, match_type_in, number_in}
use Rattle.camel_map.specs.declared.items.ReceivedList.{ReceivedList}
use Rattle.camel_map.specs.declared.map_fault.MapFault.{MapFault}
use Rattle.camel_map.specs.declared.map_fault.MapFaultKind.TheVariants.{MissingField}
use Rattle.camel_map.specs.declared.row.ReceivedCsi.{ReceivedCsi}
use Rattle.camel_map.specs.declared.row.ReceivedLists.{ReceivedLists}
use Rattle.camel_criteria.specs.Criteria.{NumberCriterionData, OCriteriaData, TCriteriaData, number_criterion_of}
use Rattle.camel_criteria.specs.Criteria.{o_criteria_of, t_criteria_of}

-- O-CSI and T-CSI, and their rows O-BcsmCamelTDPData and T-BcsmCamelTDPData (TS 29.002), which are alike.

-- the detection point, serviceKey, gsmSCF-Address [0] and defaultCallHandling [1] of a row
unfoldable pub row_of_fields : PlacedData → List PlacedData → Result TdpRowData MapFault
row_of_fields item fields = do
  dp ← mandatory item enumerated fields >>= detection_point_in
  key ← mandatory item integer fields >>= unsigned_in
  scf ← mandatory item (primitive 0) fields >>= isdn_address_in
  received ← mandatory item (primitive 1) fields >>= unsigned_in
  or_refused_at item.place (tdp_row_of dp key scf (handling_of received))

-- the first element of the contents of another, which must have one
abbrev pub first_of : PlacedData → List PlacedData → Result PlacedData MapFault
first_of element [] = fails_at element.place MissingField
first_of element (first ∷ more) = Ok first

-- the camelCapabilityHandling [0] among the fields of a CSI, if it is there
abbrev pub capability_in : List PlacedData → Result (Option ℕ) MapFault
capability_in fields = field_of (primitive 0) fields >>= if_present unsigned_in

-- A CSI: its list of rows, and its camelCapabilityHandling. The list is the first element, since an extension container
-- with the tag of a list may follow. The rows are those that are kept of the received ones.
unfoldable pub csi_in : (List TdpRowData → Result (List TdpRowData) Refusal) → PlacedData
    → Result (ReceivedCsi (List TdpRowData)) MapFault
csi_in kept_of csi = do
  fields ← elements_in (contents csi)
  list ← first_of csi fields >>= identified sequence
  rows ← received_as (item_in row_of_fields) kept_of list
  capability ← capability_in fields
  Ok (record { rows = rows; capability = capability })

-- a CSI and its criteria, which are fields of these identifiers
unfoldable pub lists_of_fields : {Entry : Type 0} → ℕ → (List TdpRowData → Result (List TdpRowData) Refusal) → ℕ
    → (PlacedData → Result (ReceivedList (List Entry)) MapFault) → List PlacedData
    → Result (ReceivedLists (List TdpRowData) (List Entry)) MapFault
lists_of_fields csi kept_of criteria criteria_in fields = do
  csi ← field_of csi fields >>= if_present (csi_in kept_of)
  criteria ← field_of criteria fields >>= if_present criteria_in
  Ok (record { csi = csi; criteria = criteria })

-- O-BcsmCamelTDP-Criteria and T-BCSM-CAMEL-TDP-Criteria, and the lists of them (TS 29.002).

-- the matchType [0], destinationNumberList [1] and destinationNumberLengthList [2] of DestinationNumberCriteria
unfoldable pub number_criterion_in : PlacedData → Result NumberCriterionData MapFault
number_criterion_in criterion = do
  fields ← elements_in (contents criterion)
  match_type ← mandatory criterion (primitive 0) fields >>= match_type_in
  numbers ← field_of (constructed 1) fields >>= if_listed (items_as number_in)
  lengths ← field_of (constructed 2) fields >>= if_listed (items_as length_in)
  or_refused_at criterion.place (number_criterion_of match_type numbers lengths)

-- the detection point, destinationNumberCriteria [0], basicServiceCriteria [1], callTypeCriteria [2] and
-- o-CauseValueCriteria [3] of an entry of the O-CSI
unfoldable pub o_entry_of_fields : PlacedData → List PlacedData → Result OCriteriaData MapFault
o_entry_of_fields item fields = do
  dp ← mandatory item enumerated fields >>= detection_point_in
  number ← field_of (constructed 0) fields >>= if_present number_criterion_in
  basic ← field_of (constructed 1) fields >>= if_listed (items_as basic_service_in)
  call_type ← field_of (primitive 2) fields >>= if_present call_type_in
  causes ← field_of (constructed 3) fields >>= if_listed (items_as cause_in)
  or_refused_at item.place (o_criteria_of dp number basic call_type causes)

-- the detection point, basicServiceCriteria [0] and t-CauseValueCriteria [1] of an entry of the VT-CSI
unfoldable pub t_entry_of_fields : PlacedData → List PlacedData → Result TCriteriaData MapFault
t_entry_of_fields item fields = do
  dp ← mandatory item enumerated fields >>= detection_point_in
  basic ← field_of (constructed 0) fields >>= if_listed (items_as basic_service_in)
  causes ← field_of (constructed 1) fields >>= if_listed (items_as cause_in)
  or_refused_at item.place (t_criteria_of dp basic causes)

-- o-CSI [0] and o-BcsmCamelTDP-CriteriaList [4] among the fields of VlrCamelSubscriptionInfo
abbrev pub o_lists_in : List PlacedData → Result (ReceivedLists (List TdpRowData) (List OCriteriaData)) MapFault
o_lists_in fields =
    lists_of_fields (constructed 0) o_csi_of (constructed 4) (received_as (item_in o_entry_of_fields) o_criteria_set_of) fields

-- vt-CSI [7] and t-BCSM-CAMEL-TDP-CriteriaList [8] among them
abbrev pub vt_lists_in : List PlacedData → Result (ReceivedLists (List TdpRowData) (List TCriteriaData)) MapFault
vt_lists_in fields =
    lists_of_fields (constructed 7) vt_csi_of (constructed 8) (received_as (item_in t_entry_of_fields) t_criteria_set_of) fields
