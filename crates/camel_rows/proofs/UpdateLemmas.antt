-- What updates leave of the data and of a directory, one and in a list.
use Rattle.std.proofs.Common.{◌≡◌, ◌∙◌, ℕ, Bool, true, false, List, Option, Some, None, cond, refl, sym, ap, subst}
use Rattle.std.proofs.Common.{is_some, ◌||◌, [], ◌∷◌, ◌++◌, IsSome}
use Rattle.std.specs.Cmp.{eq_by_cmp_equiv}
use Rattle.std.specs.Cmp.Lexicographic.{slice_cmp, nat_list_cmp_total}
use Rattle.std.specs.FinMap.{get, get-empty, get-insert, get-remove, insert, same_map}
use Rattle.std.specs.Ordering.{eq_by_cmp, nat_cmp}
use Rattle.std.specs.Str.{bytes_eq}
use Rattle.std.proofs.lemmas.Bool.Decides.{same_from_decides}
use Rattle.std.proofs.lemmas.Map.Lookups.{exact_bytes}
use Rattle.std.proofs.lemmas.Map.Views.{tells_apart}
use Rattle.std.proofs.lemmas.Slice.Eq.{bytes_eq-Decides}
use Rattle.std.proofs.lemmas.Bool.{cond-false, cond_both}
use Rattle.std.specs.Option.{option_map}
use Rattle.camel_rows.specs.Update.{ByImsi, concerns, value_of, with_value, with_value_of, RecordsData, csis_after}
use Rattle.camel_rows.specs.Update.{csis_of, csis_refusal, removes_o, removes_vt, records_after, csi_after, csi_unless}
use Rattle.camel_rows.specs.Update.{record_after, refusal, update_imsi, AcceptedFrom, is_of, record_with_insert}
use Rattle.camel_rows.specs.Update.{records_from}
use Rattle.camel_rows.specs.TdpRow.{TdpRowData}
use Rattle.camel_rows.specs.Store.{IsDirectoryOf, DirectoryData}
use Rattle.camel_rows.specs.Subscriber.{StoredCsiData, SubscriberData, empty_record}
use Rattle.camel_rows.specs.declared.subscriber.csis_present.CsisPresent.{CsisPresent}
use Rattle.camel_rows.specs.declared.subscriber.update.Update.{Update}
use Rattle.camel_rows.specs.declared.subscriber.update.Update.TheVariants.{Register, Insert, Delete, Cancel, ClearAll}
use Rattle.camel_criteria.specs.Criteria.{OCriteriaData, TCriteriaData}
use Rattle.camel_criteria.specs.declared.refusal.Refusal.{Refusal}
use Rattle.camel_rows.specs.Decision.{HasO, HasVt, csi_with}
use Rattle.std.specs.FinMap as map

-- What a map by IMSIs holds after a change at one of them, or at all.

-- both tests of two keys say the same
same_test : (key imsi : List ℕ) → eq_by_cmp (slice_cmp nat_cmp) imsi key ≡ bytes_eq key imsi
same_test key imsi =
    let same = bytes_eq-Decides key imsi in
    same_from_decides _ _ (
      λ e. sym (tells_apart exact_bytes imsi key e),
      λ is. subst (λ other. eq_by_cmp (slice_cmp nat_cmp) other key ≡ true) is ((eq_by_cmp_equiv nat_list_cmp_total).refl key),
    )
    same

module _ {X : Type 0} where
  -- a map with a value at one key holds it there, and elsewhere what it held
  pub get-with_value : (m : ByImsi X) (key : List ℕ) (value : Option X) (imsi : List ℕ)
      → get (with_value m key value) imsi ≡ cond (eq_by_cmp (slice_cmp nat_cmp) imsi key) value (get m imsi)
  get-with_value m key None imsi = get-remove nat_list_cmp_total m key imsi
  get-with_value m key (Some value) imsi = get-insert nat_list_cmp_total m key value imsi

  pub get-with_value_there : (m : ByImsi X) (key : List ℕ) (value : Option X) → get (with_value m key value) key ≡ value
  get-with_value_there m key value = get-with_value m key value key ∙ ap (λ b. cond b value (get m key)) ((eq_by_cmp_equiv nat_list_cmp_total).refl key)

  -- what the map holds of a subscriber, if one of them, or all, got another value
  pub get-with_value_of : (m : ByImsi X) (whom : Option (List ℕ)) (value : Option X) (imsi : List ℕ) → (whom ≡ None → value ≡ None)
      → get (with_value_of m whom value) imsi ≡ cond (concerns whom imsi) value (get m imsi)
  get-with_value_of m None value imsi none = get-empty (slice_cmp nat_cmp) imsi ∙ sym (none refl)
  get-with_value_of m (Some own) value imsi none = get-with_value m own value imsi ∙ ap (λ b. cond b value (get m imsi)) (same_test own imsi)

  -- two maps that hold the same of a subscriber hold the same of the one whom something concerns, if it concerns this
  -- one
  pub value_of-same : (m n : ByImsi X) (whom : Option (List ℕ)) (imsi : List ℕ) → concerns whom imsi ≡ true → get m imsi ≡ get n imsi
      → value_of m whom ≡ value_of n whom
  value_of-same m n None imsi own same = refl
  value_of-same m n (Some key) imsi own same = subst (λ (at : List ℕ). get m at ≡ get n at) (sym ((bytes_eq-Decides key imsi).0 own)) same

  -- what a key has changes nothing if it is put there again
  pub insert_same : (m : ByImsi X) (key : List ℕ) (value : X) → get m key ≡ Some value → insert m key value ≡ m
  insert_same m key value held = same_map nat_list_cmp_total exact_bytes _ _ (λ q.
      get-insert nat_list_cmp_total m key value q ∙ either q (eq_by_cmp (slice_cmp nat_cmp) q key) refl)
    where
      either : (q : List ℕ) (b : Bool) → eq_by_cmp (slice_cmp nat_cmp) q key ≡ b → cond b (Some value) (get m q) ≡ get m q
      either q true is = sym held ∙ ap (get m) (sym (tells_apart exact_bytes q key is))
      either q false is = refl

  -- of two values at one key the later one stays
  pub insert_twice : (m : ByImsi X) (key : List ℕ) (first second : X) → insert (insert m key first) key second ≡ insert m key second
  insert_twice m key first second = same_map nat_list_cmp_total exact_bytes _ _ (λ q.
      get-insert nat_list_cmp_total (insert m key first) key second q
      ∙ ap (cond (eq_by_cmp (slice_cmp nat_cmp) q key) (Some second)) (get-insert nat_list_cmp_total m key first q)
      ∙ either (eq_by_cmp (slice_cmp nat_cmp) q key) (get m q)
      ∙ sym (get-insert nat_list_cmp_total m key second q))
    where
      either : (b : Bool) (held : Option X) → cond b (Some second) (cond b (Some first) held) ≡ cond b (Some second) held
      either true held = refl
      either false held = refl

-- A directory decides about refusals as the data do, goes with them from update to update, and is as before if an entry
-- is put back.

-- the directory holds the CSIs of the record of the subscriber whom an update concerns
value_of-shown : (directory : DirectoryData) (m : RecordsData) (whom : Option (List ℕ)) → IsDirectoryOf directory m
    → value_of directory whom ≡ option_map csis_of (value_of m whom)
value_of-shown directory m None shown = refl
value_of-shown directory m (Some imsi) shown = shown imsi

-- an update is refused by the directory as it is by the data
pub same_refusal : (directory : DirectoryData) (m : RecordsData) (update : Update) → IsDirectoryOf directory m
    → csis_refusal (value_of directory (update_imsi update)) update ≡ refusal m update
same_refusal directory m update shown = ap (λ csis. csis_refusal csis update) (value_of-shown directory m (update_imsi update) shown)

-- an update of all subscribers leaves no record
pub record_after-none : (old : Option SubscriberData) (update : Update) → update_imsi update ≡ None → record_after old update ≡ None
record_after-none old (Register imsi) all = absurd (cc all)
record_after-none old (Insert imsi o o_criteria vt t_criteria) all = absurd (cc all)
record_after-none old (Delete imsi what) all = absurd (cc all)
record_after-none old (Cancel imsi) all = absurd (cc all)
record_after-none old ClearAll all = refl

csis_after-none : (old : Option CsisPresent) (update : Update) → update_imsi update ≡ None → csis_after old update ≡ None
csis_after-none old (Register imsi) all = absurd (cc all)
csis_after-none old (Insert imsi o o_criteria vt t_criteria) all = absurd (cc all)
csis_after-none old (Delete imsi what) all = absurd (cc all)
csis_after-none old (Cancel imsi) all = absurd (cc all)
csis_after-none old ClearAll all = refl

csi_stays : {Entry : Type 0} (csi : Option (StoredCsiData Entry)) (rows : Option (List TdpRowData)) (entries : Option (List Entry))
    → (is_some csi || is_some rows) ≡ is_some (csi_after csi rows entries)
csi_stays None None None = refl
csi_stays None None (Some entries) = refl
csi_stays None (Some rows) None = refl
csi_stays None (Some rows) (Some entries) = refl
csi_stays (Some csi) None None = refl
csi_stays (Some csi) None (Some entries) = refl
csi_stays (Some csi) (Some rows) None = refl
csi_stays (Some csi) (Some rows) (Some entries) = refl

csi_goes : {Entry : Type 0} (is_named : Bool) (csi : Option (StoredCsiData Entry)) → cond is_named false (is_some csi) ≡ is_some (csi_unless is_named csi)
csi_goes true csi = refl
csi_goes false csi = refl

csis_after-csis_of : (old : Option SubscriberData) (update : Update) → csis_after (option_map csis_of old) update ≡ option_map csis_of (record_after old update)
csis_after-csis_of old (Register imsi) = refl
csis_after-csis_of None (Insert imsi o o_criteria vt t_criteria) = refl
csis_after-csis_of (Some subscriber) (Insert imsi o o_criteria vt t_criteria) =
    rw (csi_stays subscriber.o o o_criteria, csi_stays subscriber.vt vt t_criteria) refl
csis_after-csis_of None (Delete imsi what) = refl
csis_after-csis_of (Some subscriber) (Delete imsi what) = rw (csi_goes (removes_o what) subscriber.o, csi_goes (removes_vt what) subscriber.vt) refl
csis_after-csis_of old (Cancel imsi) = refl
csis_after-csis_of old ClearAll = refl

at_either : (is_there : Bool) (new old : Option SubscriberData) (new_csis old_csis : Option CsisPresent) → new_csis ≡ option_map csis_of new
    → old_csis ≡ option_map csis_of old → cond is_there new_csis old_csis ≡ option_map csis_of (cond is_there new old)
at_either true new old new_csis old_csis there elsewhere = there
at_either false new old new_csis old_csis there elsewhere = elsewhere

-- after an update that is not refused, the directory with the CSIs that it leaves is that of the data
pub IsDirectoryOf-after : (stored : DirectoryData) (m : RecordsData) (update : Update) → IsDirectoryOf stored m → refusal m update ≡ None
    → IsDirectoryOf (with_value_of stored (update_imsi update) (csis_after (value_of stored (update_imsi update)) update)) (records_after m update)
IsDirectoryOf-after stored m update shown accepted imsi =
    let whom = update_imsi update in
    let new = record_after (value_of m whom) update in
    let new_csis = csis_after (value_of stored whom) update in
    let there : new_csis ≡ option_map csis_of new =
    ap (λ csis. csis_after csis update) (value_of-shown stored m whom shown) ∙ csis_after-csis_of (value_of m whom) update in
    rw accepted
    (get-with_value_of stored whom new_csis imsi (csis_after-none (value_of stored whom) update)
    ∙ at_either (concerns whom imsi) new (map.get m imsi) new_csis (map.get stored imsi) there (shown imsi)
    ∙ ap (option_map csis_of) (sym (get-with_value_of m whom new imsi (record_after-none (value_of m whom) update))))

-- the empty directory is that of no records
pub IsDirectoryOf-empty : IsDirectoryOf map.empty map.empty
IsDirectoryOf-empty imsi = rw (map.get-empty {X = CsisPresent} (slice_cmp nat_cmp) imsi, map.get-empty {X = SubscriberData} (slice_cmp nat_cmp) imsi) refl

-- what was stored at an IMSI, put back over what was put there since, leaves the directory as it was
pub put_back-same : (stored : DirectoryData) (key : List ℕ) (new : CsisPresent) → with_value (map.insert stored key new) key (map.get stored key) ≡ stored
put_back-same stored key new = same_map nat_list_cmp_total exact_bytes _ _ (λ imsi.
    let is_there = eq_by_cmp (slice_cmp nat_cmp) imsi key in
    get-with_value (map.insert stored key new) key (map.get stored key) imsi
    ∙ ap (cond is_there (map.get stored key)) (map.get-insert nat_list_cmp_total stored key new imsi)
    ∙ cond_both is_there (map.get stored key) (cond is_there (Some new) (map.get stored imsi)) (λ found. found ≡ map.get stored imsi)
    (λ same. ap (map.get stored) (sym (tells_apart exact_bytes imsi key same)))
    (λ other. cond-false is_there (Some new) (map.get stored imsi) other))

-- Updates, one and in a list.

-- what an update that is not refused leaves of a subscriber
left_by : (m : RecordsData) (update : Update) (imsi : List ℕ)
    → map.get (with_value_of m (update_imsi update) (record_after (value_of m (update_imsi update)) update)) imsi
    ≡ cond (is_of imsi update) (record_after (value_of m (update_imsi update)) update) (map.get m imsi)
left_by m update imsi =
    let whom = update_imsi update in
    get-with_value_of m whom (record_after (value_of m whom) update) imsi (record_after-none (value_of m whom) update)

-- an update leaves each record of a subscriber whom it does not concern
pub other_record : (m : RecordsData) (update : Update) (imsi : List ℕ) → is_of imsi update ≡ false → map.get (records_after m update) imsi ≡ map.get m imsi
other_record m update imsi other =
    cond_both (is_some (refusal m update)) m _ (λ after. map.get after imsi ≡ map.get m imsi) (λ refused. refl)
    (λ accepted. left_by m update imsi ∙ rw other refl)

-- an update that is not refused leaves the same record of each subscriber whom it concerns
pub own_record : (m : RecordsData) (update : Update) (imsi : List ℕ) → is_of imsi update ≡ true → refusal m update ≡ None
    → map.get (records_after m update) imsi ≡ record_after (value_of m (update_imsi update)) update
own_record m update imsi own accepted = rw accepted (left_by m update imsi ∙ rw own refl)

-- the data after an update that concerns one subscriber, who has a record: only that may have changed
pub with_record_after : (m : RecordsData) (update : Update) (imsi : List ℕ) (old new : SubscriberData) → update_imsi update ≡ Some imsi
    → map.get m imsi ≡ Some old → (IsSome (csis_refusal (Some (csis_of old)) update) → new ≡ old)
    → (csis_refusal (Some (csis_of old)) update ≡ None → Some new ≡ record_after (Some old) update)
    → map.insert m imsi new ≡ records_after m update
with_record_after m update imsi old new whom held kept changed = rw (whom, held) (either (csis_refusal (Some (csis_of old)) update) refl)
  where
    either : (why : Option Refusal) → csis_refusal (Some (csis_of old)) update ≡ why
        → map.insert m imsi new ≡ cond (is_some why) m (with_value m imsi (record_after (Some old) update))
    either None is = ap (with_value m imsi) (changed is)
    either (Some why) is = ap (map.insert m imsi) (kept (ap is_some is)) ∙ insert_same m imsi old held

inserted : (m : RecordsData) (imsi : List ℕ) (o : Option (List TdpRowData)) (o_criteria : Option (List OCriteriaData)) (vt : Option (List TdpRowData))
    (t_criteria : Option (List TCriteriaData)) → refusal (records_after m (Register imsi)) (Insert imsi o o_criteria vt t_criteria) ≡ None
    → map.get (records_after (records_after m (Register imsi)) (Insert imsi o o_criteria vt t_criteria)) imsi
    ≡ Some (record_with_insert o o_criteria vt t_criteria empty_record)
inserted m imsi o o_criteria vt t_criteria accepted =
    own_record (records_after m (Register imsi)) (Insert imsi o o_criteria vt t_criteria) imsi ((bytes_eq-Decides imsi imsi).1 refl) accepted
    ∙ ap (λ old. record_after old (Insert imsi o o_criteria vt t_criteria)) (get-with_value_there m imsi (Some empty_record))

pub o_stands : (m : RecordsData) (imsi : List ℕ) (rows : List TdpRowData) (o_criteria : Option (List OCriteriaData)) (vt : Option (List TdpRowData))
    (t_criteria : Option (List TCriteriaData)) → refusal (records_after m (Register imsi)) (Insert imsi (Some rows) o_criteria vt t_criteria) ≡ None
    → HasO (records_after (records_after m (Register imsi)) (Insert imsi (Some rows) o_criteria vt t_criteria)) imsi (csi_with rows o_criteria)
o_stands m imsi rows o_criteria vt t_criteria accepted = record {
  subscriber = record_with_insert (Some rows) o_criteria vt t_criteria empty_record;
  registered = inserted m imsi (Some rows) o_criteria vt t_criteria accepted;
  stored = refl;
}

pub vt_stands : (m : RecordsData) (imsi : List ℕ) (rows : List TdpRowData) (t_criteria : Option (List TCriteriaData)) (o : Option (List TdpRowData))
    (o_criteria : Option (List OCriteriaData)) → refusal (records_after m (Register imsi)) (Insert imsi o o_criteria (Some rows) t_criteria) ≡ None
    → HasVt (records_after (records_after m (Register imsi)) (Insert imsi o o_criteria (Some rows) t_criteria)) imsi (csi_with rows t_criteria)
vt_stands m imsi rows t_criteria o o_criteria accepted = record {
  subscriber = record_with_insert o o_criteria (Some rows) t_criteria empty_record;
  registered = inserted m imsi o o_criteria (Some rows) t_criteria accepted;
  stored = refl;
}

pub records_from-append : (m : RecordsData) (first second : List Update) → records_from m (first ++ second) ≡ records_from (records_from m first) second
records_from-append m [] second = refl
records_from-append m (update ∷ first) second = records_from-append (records_after m update) first second

-- an update that is not refused after accepted ones is accepted too
pub AcceptedFrom-push : (m : RecordsData) (updates : List Update) (update : Update) → AcceptedFrom m updates → refusal (records_from m updates) update ≡ None
    → AcceptedFrom m (updates ++ update ∷ [])
AcceptedFrom-push m [] update accepted next = (next, tt)
AcceptedFrom-push m (first ∷ updates) update accepted next = (accepted.0, AcceptedFrom-push (records_after m first) updates update accepted.1 next)

-- the beginning of accepted updates is accepted
pub AcceptedFrom-prefix : (m : RecordsData) (first second : List Update) → AcceptedFrom m (first ++ second) → AcceptedFrom m first
AcceptedFrom-prefix m [] second accepted = tt
AcceptedFrom-prefix m (update ∷ first) second accepted = (accepted.0, AcceptedFrom-prefix (records_after m update) first second accepted.1)
