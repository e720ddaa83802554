-- An encoded CSI is read as its rows.
use Rattle.std.proofs.Common.{◌≡◌, ◌<◌, ◌≤◌, ℕ, true, leb, List, [], ◌∷◌, Ok, refl, ap, arith, length, map, All, Result}
use Rattle.std.proofs.Common.{inl, inr, None}
use Rattle.std.proofs.lemmas.Bool.{le-leb}
use Rattle.std.proofs.lemmas.List.Elements.{All-cons, All-nil, All-weaker}
use Rattle.camel_ber.specs.Elements.{PlacedData, ElementData}
use Rattle.camel_criteria.specs.DetectionPoint.{handling_of}
use Rattle.camel_criteria.specs.declared.handling.Handling.{Handling}
use Rattle.camel_criteria.specs.declared.handling.Handling.TheVariants.{Continue, Release}
use Rattle.camel_rows.specs.TdpRow.{TdpRowData, max_service_key, tdp_row_of}
use Rattle.camel_map.specs.Encoding.{handling_number, ignored_row, item_element, leaf, row_fields, IsRow, list_element}
use Rattle.camel_map.specs.Encoding.{parent, sent, IsKeptList, csi_element}
use Rattle.camel_map.specs.Reading.{enumerated, integer, primitive, item_in, or_refused_at, detection_point_in}
use Rattle.camel_map.specs.Reading.{isdn_address_in, unsigned_in, items_as, received_as, sequence}
use Rattle.camel_map.specs.Csi.{row_of_fields, csi_in, first_of}
use Rattle.camel_map.proofs.Encoded.Series.{mandatory_read, AreIdentified, AreRead, Decodes, one_octet, a_sequence, at}
use Rattle.camel_map.proofs.Encoded.Series.{field_absent, parts_read, first_read}
use Rattle.camel_map.proofs.Encoded.Values.{item_read, detection_point, unsigned_number, unsigned_octet, address_read}
use Rattle.camel_map.proofs.Encoded.Values.{items_read}
use Rattle.camel_criteria.specs.declared.refusal.Refusal.{Refusal}
use Rattle.camel_map.specs.declared.items.ReceivedList.{ReceivedList}
use Rattle.camel_map.specs.declared.map_fault.MapFault.{MapFault}
use Rattle.camel_map.specs.declared.row.ReceivedCsi.{ReceivedCsi}

-- An encoded TDP row is read as itself.

-- the number of a default call handling is one, and means it
handling_known : (handling : Handling) → (handling_number handling < 128)
    × (handling_of (handling_number handling) ≡ handling)
handling_known Continue = (omega arith, refl)
handling_known Release = (omega arith, refl)

row_identified : (row : TdpRowData) → AreIdentified (row_fields row)
row_identified row =
    let last : AreIdentified (leaf (primitive 1) (handling_number row.handling ∷ []) ∷ []) =
    (one_octet (primitive 1) (refl, refl), tt) in
    (one_octet enumerated (refl, refl), (one_octet integer (refl, refl), (one_octet (primitive 0) (refl, refl), last)))

row_made : (row : TdpRowData) → row.key ≤ max_service_key → handling_of (handling_number row.handling) ≡ row.handling
    → tdp_row_of row.dp row.key row.scf (handling_of (handling_number row.handling)) ≡ Ok row
row_made row most same = let small : leb row.key 2147483647 ≡ true = le-leb _ _ most in rw (small, same) refl

fields_read : (row : TdpRowData) → IsRow row → (item : PlacedData) (fields : List PlacedData)
    → AreRead fields (row_fields row) → row_of_fields item fields ≡ Ok row
unfolding row_of_fields
fields_read row is item fields read =
    let parts = row_fields row in
    let known = handling_known row.handling in
    let dp = mandatory_read detection_point_in enumerated fields parts item _ row.dp refl read refl
    (detection_point enumerated row.dp is.dp) in
    let key = mandatory_read unsigned_in integer fields parts item _ row.key refl read refl (unsigned_number integer row.key is.key) in
    let scf = mandatory_read isdn_address_in (primitive 0) fields parts item _ row.scf refl read refl
    (address_read (primitive 0) row.scf is.scf) in
    let handling = mandatory_read unsigned_in (primitive 1) fields parts item _ (handling_number row.handling) refl read refl
    (unsigned_octet (primitive 1) (handling_number row.handling) known.0) in
    rw (dp, key, scf, handling) (ap (or_refused_at item.place) (row_made row is.key known.1))

-- a row is read as itself
pub row_read : (row : TdpRowData) → IsRow row → Decodes (item_in row_of_fields) (item_element row_fields row) row
row_read row is = item_read row_of_fields row_fields row (row_identified row) (fields_read row is)

pub is_ignored_row : (dp : ℕ) → dp ≤ 255 → IsRow (ignored_row dp)
is_ignored_row dp few = record { dp = few; key = omega arith; scf = record { some = omega arith; few = omega arith } }

-- An encoded list is read as the items that its constructor keeps.

-- the items of a list that was sent, and how many those were
abbrev pub came : {Item : Type 0} → Item → List Item → ReceivedList (List Item)
came ignored items = record { kept = items; count = length (sent ignored items) }

module _ {Item : Type 0} (of_fields : PlacedData → List PlacedData → Result Item MapFault)
    (fields_of : Item → List ElementData) (Is : Item → Type 0) (kept_of : List Item → Result (List Item) Refusal)
    (read : (x : Item) → Is x → Decodes (item_in of_fields) (item_element fields_of x) x)
    (ignored : Item) (is : Is ignored) (none : kept_of (ignored ∷ []) ≡ Ok []) (octet : ℕ) where
  received : (x : Item) (xs kept : List Item) → All Is (x ∷ xs) → kept_of (x ∷ xs) ≡ Ok kept
      → Decodes (received_as (item_in of_fields) kept_of) (parent octet (map (item_element fields_of) (x ∷ xs)))
      (record { kept = kept; count = length (x ∷ xs) })
  unfolding received_as
  received x xs kept all taken short place end =
      let list = at (parent octet (map (item_element fields_of) (x ∷ xs))) place end in
      let decoded = All-weaker Is (λ x. Decodes (item_in of_fields) (item_element fields_of x) x) read (x ∷ xs) all in
      let items : items_as (item_in of_fields) list ≡ Ok (x ∷ xs) =
      items_read (item_in of_fields) (item_element fields_of) octet x xs (λ x. a_sequence) decoded short place end in
      rw (items, taken) refl

  -- a list that is sent is read as the items that are kept
  pub sent_read : (items : List Item) → IsKeptList Is kept_of items
      → Decodes (received_as (item_in of_fields) kept_of) (list_element fields_of ignored octet items) (came ignored items)
  sent_read [] kept = received ignored [] [] (All-cons Is ignored [] is (All-nil Is)) none
  sent_read (x ∷ xs) kept =
      elim kept.1 [ inl empty ↦ absurd cc | inr whole ↦ received x xs (x ∷ xs) kept.0 whole ]

-- An encoded CSI is read as its rows.

-- a CSI that was sent, without camelCapabilityHandling
abbrev pub csi_came : TdpRowData → List TdpRowData → ReceivedCsi (List TdpRowData)
csi_came ignored rows = record { rows = came ignored rows; capability = None }

-- a CSI is read as its rows
pub csi_read : (kept_of : List TdpRowData → Result (List TdpRowData) Refusal) (ignored : TdpRowData) → IsRow ignored
    → kept_of (ignored ∷ []) ≡ Ok [] → (octet : ℕ) (rows : List TdpRowData) → IsKeptList IsRow kept_of rows
    → Decodes (csi_in kept_of) (csi_element ignored octet rows) (csi_came ignored rows)
unfolding csi_in
csi_read kept_of ignored is none octet rows kept short place end =
    let list = list_element row_fields ignored sequence rows in
    let csi = at (csi_element ignored octet rows) place end in
    let parts = parts_read octet (list ∷ []) place end (a_sequence, tt) short in
    let first = first_read csi parts.0 list [] parts.2 in
    let there : first_of csi parts.0 ≡ Ok (at list first.0 first.1) = first.2 in
    let read = sent_read row_of_fields row_fields IsRow kept_of row_read ignored is none sequence rows kept first.3
    first.0 first.1 in
    let no_capability = field_absent (primitive 0) parts.0 (list ∷ []) parts.2 refl in
    rw (parts.1, there, read, no_capability) refl
