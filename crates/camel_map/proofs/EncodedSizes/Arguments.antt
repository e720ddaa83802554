-- How long the encoding of the argument of an update is at most: shorter than the greatest length.
use Rattle.std.proofs.Common.{ℕ, Bool, true, false, [], ◌∷◌, arith, List, ◌++◌, IfSome, ◌≡◌, ◌≤◌, ◌<◌, length, Option}
use Rattle.std.proofs.Common.{Some, None, subst}
use Rattle.std.proofs.lemmas.Option.{IfSome_then}
use Rattle.camel_map.specs.Encoding.{everything_parts, leaf, specific_parts, argument_of, camel_parts, csi_element}
use Rattle.camel_map.specs.Encoding.{ignored_o_entry, ignored_t_entry, ignored_in_o, ignored_in_vt, ignored_row}
use Rattle.camel_map.specs.Encoding.{list_element, o_entry_fields, parent, t_entry_fields, tbcd_octets, IsKept}
use Rattle.camel_map.specs.Encoding.{IsOEntry, IsTEntry, Argument, encoding, argument_octets, octets_of_update}
use Rattle.camel_map.specs.Reading.{primitive, constructed, octet_string, sequence}
use Rattle.camel_map.proofs.EncodedSizes.Bounds.{AreMost, leaf_most, more_most, none_most, within, IsMost, parent_most}
use Rattle.camel_map.proofs.EncodedSizes.Bounds.{any_most, append_most}
use Rattle.camel_criteria.specs.DetectionPoint.{o_detection_points, vt_detection_points}
use Rattle.camel_rows.specs.declared.subscriber.update.Update.{Update}
use Rattle.camel_tbcd.specs.Imsi.{IsImsi}
use Rattle.camel_map.proofs.EncodedLists.Entries.{is_ignored_o_entry, is_ignored_t_entry}
use Rattle.camel_map.proofs.EncodedLists.Csis.{is_ignored_row}
use Rattle.camel_map.proofs.Encoded.Imsis.{octets_few as imsi_octets_few}
use Rattle.camel_map.proofs.EncodedSizes.Lists.{o_entry_most, t_entry_most, csi_most, list_most}
use Rattle.camel_rows.specs.declared.subscriber.update.Update.TheVariants as update

-- How long the encodings of what a Delete names are at most.

pub everything_most : (everything : Bool) → AreMost 6 (everything_parts everything)
everything_most false = within [] 0 6 none_most (omega arith)
everything_most true =
    more_most (leaf (primitive 9) []) [] 6 0 (leaf_most (primitive 9) [] 0 (omega arith)) none_most

bits_most : (bits : ℕ) → AreMost 8 (leaf (primitive 15) (0 ∷ bits ∷ []) ∷ [])
bits_most bits =
    let e = leaf (primitive 15) (0 ∷ bits ∷ []) in
    more_most e [] 8 0 (leaf_most (primitive 15) (0 ∷ bits ∷ []) 2 (omega arith)) none_most

pub specific_most : (o vt : Bool) → AreMost 8 (specific_parts o vt)
specific_most false false = within [] 0 8 none_most (omega arith)
specific_most true false = bits_most 0x80
specific_most false true = bits_most 0x08
specific_most true true = bits_most 0x88

-- How long the encoding of the argument of an update is at most.

imsi_most : (octet : ℕ) (imsi : List ℕ) → IsImsi imsi → IsMost 14 (leaf octet (tbcd_octets imsi))
imsi_most octet imsi is = leaf_most octet (tbcd_octets imsi) 8 (imsi_octets_few imsi is)

-- a kept update is said in at most so many octets
pub argument_most : (update : Update) → IsKept update
    → IfSome (argument_of update) (λ argument. IsMost 1198 argument.element)
argument_most (update.Insert imsi o o_criteria vt t_criteria) kept =
    let own = imsi_most (primitive 0) imsi kept.0 in
    let the_o = any_most (csi_element (ignored_row ignored_in_o) (constructed 0)) 108 o
    (IfSome_then o kept.1 (csi_most (ignored_row ignored_in_o) (is_ignored_row ignored_in_o (omega arith)) (constructed 0) o_detection_points (omega arith))) in
    let the_o_criteria = any_most (list_element o_entry_fields ignored_o_entry (constructed 4)) 608 o_criteria
    (IfSome_then o_criteria kept.2 (list_most o_entry_fields 301 IsOEntry o_entry_most ignored_o_entry is_ignored_o_entry
    (λ entry. entry.dp) o_detection_points (omega arith) (constructed 4))) in
    let the_vt = any_most (csi_element (ignored_row ignored_in_vt) (constructed 7)) 156 vt
    (IfSome_then vt kept.3 (csi_most (ignored_row ignored_in_vt) (is_ignored_row ignored_in_vt (omega arith)) (constructed 7) vt_detection_points (omega arith))) in
    let the_t_criteria = any_most (list_element t_entry_fields ignored_t_entry (constructed 8)) 300 t_criteria
    (IfSome_then t_criteria kept.4 (list_most t_entry_fields 98 IsTEntry t_entry_most ignored_t_entry is_ignored_t_entry
    (λ entry. entry.dp) vt_detection_points (omega arith) (constructed 8))) in
    let camel = camel_parts o o_criteria vt t_criteria in
    let fields : AreMost 1172 camel =
    append_most _ _ 872 300 (append_most _ _ 716 156 (append_most _ _ 108 608 the_o the_o_criteria) the_vt)
    the_t_criteria in
    let info = parent (constructed 13) camel in
    let there = parent_most (constructed 13) camel 1172 fields in
    let first = leaf (primitive 0) (tbcd_octets imsi) in
    parent_most sequence (first ∷ info ∷ []) 1192
    (more_most first (info ∷ []) 14 1178 own (more_most info [] 1178 0 there none_most))
argument_most (update.Delete imsi what) kept =
    let own = leaf (primitive 0) (tbcd_octets imsi) in
    let rest = everything_parts what.everything ++ specific_parts what.o what.vt in
    let fields : AreMost 28 (own ∷ rest) =
    more_most own rest 14 14 (imsi_most (primitive 0) imsi kept)
    (append_most _ _ 6 8 (everything_most what.everything) (specific_most what.o what.vt)) in
    parent_most sequence (own ∷ rest) 1192 (within (own ∷ rest) 28 1192 fields (omega arith))
argument_most (update.Cancel imsi) kept =
    let own = leaf octet_string (tbcd_octets imsi) in
    let fields : AreMost 14 (own ∷ []) = more_most own [] 14 0 (imsi_most octet_string imsi kept) none_most in
    parent_most (constructed 3) (own ∷ []) 1192 (within (own ∷ []) 14 1192 fields (omega arith))
argument_most (update.Register imsi) kept = tt
argument_most update.ClearAll kept = tt

-- The encoding of each update that is kept is shorter than the greatest length.

few_enough : (count : ℕ) → count ≤ 1198 → count < 4294967296
few_enough count most = omega arith

-- the argument of a kept update has a length
pub encoding_few : (update : Update) (argument : Argument) → IsKept update → argument_of update ≡ Some argument
    → length (encoding argument.element) < 4294967296
encoding_few update argument kept said =
    let most : IsMost 1198 argument.element =
    subst (λ (said : Option Argument). IfSome said (λ argument. IsMost 1198 argument.element)) said
    (argument_most update kept) in
    few_enough (length (encoding argument.element)) most

octets_few : (said : Option Argument) → IfSome said (λ argument. IsMost 1198 argument.element)
    → length (argument_octets said) ≤ 1198
octets_few None few = omega arith
octets_few (Some argument) few = few

-- the octets of a kept update are at most so many
pub update_few : (update : Update) → IsKept update → length (octets_of_update update) ≤ 1198
update_few update kept = octets_few (argument_of update) (argument_most update kept)
