-- What a store and its admission know of the updates that they have accepted.
use Rattle.std.proofs.Common.{◌≡◌, ◌+◌, ◌-◌, ◌==◌, ℕ, List, Some, None, refl, ap, arith, ◌∙◌, ◌≤◌, Bool, true, false}
use Rattle.std.proofs.Common.{[], ◌∷◌, ◌++◌, length, Option, sym, append_assoc, zero, suc, cond, All, IsSome, subst}
use Rattle.std.proofs.lemmas.Bool.Decides.{nat_tests}
use Rattle.std.proofs.lemmas.List.{length-append}
use Rattle.std.proofs.lemmas.List.Sums.{sum_by-append}
use Rattle.std.proofs.lemmas.Map.Lookups.{exact_bytes}
use Rattle.std.proofs.lemmas.Map.Views.{tells_apart}
use Rattle.std.specs.Cmp.Lexicographic.{nat_list_cmp_total}
use Rattle.std.specs.Option.{option_map}
use Rattle.std.proofs.lemmas.List.Elements.{All-head, All-tail}
use Rattle.camel_rows.proofs.UpdateLemmas.{IsDirectoryOf-after, IsDirectoryOf-empty, put_back-same, same_refusal}
use Rattle.camel_rows.proofs.UpdateLemmas.{AcceptedFrom-prefix, AcceptedFrom-push, records_from-append, other_record}
use Rattle.camel_rows.proofs.UpdateLemmas.{own_record}
use Rattle.camel_rows.specs.Store.{AdmissionData, IsAdmissionOf, admission_refusal, no_admissions, refusal_or_full}
use Rattle.camel_rows.specs.Store.{with_admission, IsAdmissionOfUpdates, Updates, accepted_updates, store_refusal}
use Rattle.camel_rows.specs.Store.{with_update, DirectoryData}
use Rattle.camel_rows.specs.Update.{value_of, with_value, csis_after, RecordsData, no_records, records_after, refusal}
use Rattle.camel_rows.specs.Update.{update_imsi, IsFront, AcceptedFrom, records_from, records_of, csis_of, csis_refusal}
use Rattle.camel_rows.specs.Update.{is_of, leaves_record, record_after}
use Rattle.camel_rows.specs.declared.subscriber.csis_present.CsisPresent.{CsisPresent}
use Rattle.camel_rows.specs.declared.subscriber.update.Update.{Update}
use Rattle.camel_criteria.specs.declared.refusal.Refusal.{Refusal}
use Rattle.camel_table.specs.ByImsi.{is_same, times_listed}
use Rattle.camel_rows.specs.Subscriber.{SubscriberData}
use Rattle.camel_rows.specs.declared.subscriber.update.Update.TheVariants.{Register, Insert, Delete, Cancel, ClearAll}
use Rattle.std.specs.FinMap as map

-- An admission refuses an update as the data do, or since the store is full, goes with them from update to update, and
-- is as before if an acceptance is taken back.

pub admission-refusal : (admission : AdmissionData) (limit count : ℕ) (m : RecordsData) (update : Update) → IsAdmissionOf admission limit count m
    → admission_refusal admission update ≡ refusal_or_full (refusal m update) (count == limit)
admission-refusal admission limit count m update is =
    rw (same_refusal admission.directory m update is.directory, is.same_limit, is.same_count) refl

pub IsAdmissionOf-after : (admission : AdmissionData) (limit count : ℕ) (m : RecordsData) (update : Update) → IsAdmissionOf admission limit count m
    → refusal m update ≡ None
    → IsAdmissionOf (with_admission admission (update_imsi update) (csis_after (value_of admission.directory (update_imsi update)) update)) limit (count + 1)
    (records_after m update)
IsAdmissionOf-after admission limit count m update is accepted = record {
  same_limit = is.same_limit;
  same_count = ap (λ n. n + 1) is.same_count;
  directory = IsDirectoryOf-after admission.directory m update is.directory accepted;
}

pub IsAdmissionOf-empty : (limit : ℕ) → IsAdmissionOf (no_admissions limit) limit 0 no_records
IsAdmissionOf-empty limit = record { same_limit = refl; same_count = refl; directory = IsDirectoryOf-empty }

-- an acceptance that is taken back leaves the admission before it
pub taken_back : (admission : AdmissionData) (imsi : List ℕ) (csis : CsisPresent)
    → record (with_admission admission (Some imsi) (Some csis)) {
      accepted = admission.accepted + 1 - 1;
      directory = with_value (map.insert admission.directory imsi csis) imsi (map.get admission.directory imsi);
    } ≡ admission
taken_back admission imsi csis =
    let back : admission.accepted + 1 - 1 ≡ admission.accepted = omega arith in
    rw (back, put_back-same admission.directory imsi csis) refl

-- The accepted updates of a store are a front, and stay one.

not_refused : (o : Option Refusal) (is_full : Bool) → refusal_or_full o is_full ≡ None → (o ≡ None) × (is_full ≡ false)
not_refused (Some why) is_full e = absurd (cc)
not_refused None true e = absurd (cc)
not_refused None false e = (refl, refl)

-- an accepted update comes after all that were accepted
accepted-with_update : (updates : Updates) (update : Update) → accepted_updates (with_update updates update) ≡ accepted_updates updates ++ update ∷ []
accepted-with_update updates update = sym (append_assoc updates.published updates.pending (update ∷ []))

length-with_update : (updates : Updates) (update : Update) → length (accepted_updates (with_update updates update)) ≡ length (accepted_updates updates) + 1
length-with_update updates update = ap length (accepted-with_update updates update) ∙ length-append (accepted_updates updates) (update ∷ [])

records-with_update : (updates : Updates) (update : Update)
    → records_of (accepted_updates (with_update updates update)) ≡ records_after (records_of (accepted_updates updates)) update
records-with_update updates update =
    ap records_of (accepted-with_update updates update) ∙ records_from-append no_records (accepted_updates updates) (update ∷ [])

-- no updates are a front
pub IsFront-empty : (limit : ℕ) → IsFront limit []
IsFront-empty limit = record { accepted = tt; few = omega arith }

pub IsFront-with_update : (limit : ℕ) (updates : Updates) (update : Update) → IsFront limit (accepted_updates updates)
    → store_refusal limit updates update ≡ None → IsFront limit (accepted_updates (with_update updates update))
IsFront-with_update limit updates update front e =
    let old : List Update = accepted_updates updates in
    let accepted = not_refused (refusal (records_of old) update) (length old == limit) e in
    let not_full : (length old == limit) ≡ false = accepted.1 in
    let few : length old ≤ limit = front.few in
    let longer = length-with_update updates update in
    record {
      accepted = rw (accepted-with_update updates update) (AcceptedFrom-push no_records old update front.accepted accepted.0);
      few = rw longer (grind (arith, nat_tests));
    }

-- the published updates are a front, without the pending ones
pub IsFront-published : (limit : ℕ) (updates : Updates) → IsFront limit (accepted_updates updates) → IsFront limit updates.published
IsFront-published limit updates front =
    let count : length (accepted_updates updates) ≡ length updates.published + length updates.pending = length-append updates.published updates.pending in
    let few : length (accepted_updates updates) ≤ limit = front.few in
    record { accepted = AcceptedFrom-prefix no_records updates.published updates.pending front.accepted; few = omega arith }

-- an admission of the accepted updates refuses what the store refuses
pub admits : (admission : AdmissionData) (limit : ℕ) (updates : Updates) (update : Update)
    → IsAdmissionOfUpdates admission limit updates
    → admission_refusal admission update ≡ store_refusal limit updates update
admits admission limit updates update is =
    admission-refusal admission limit (length (accepted_updates updates)) (records_of (accepted_updates updates)) update is

-- an admission of the accepted updates, with one accepted update more, is that of the updates with it
pub IsAdmissionOf-with_update : (admission : AdmissionData) (limit : ℕ) (updates : Updates) (update : Update)
    → IsAdmissionOfUpdates admission limit updates → store_refusal limit updates update ≡ None
    → IsAdmissionOfUpdates (with_admission admission (update_imsi update) (csis_after (value_of admission.directory (update_imsi update)) update)) limit
    (with_update updates update)
IsAdmissionOf-with_update admission limit updates update is e =
    let accepted = not_refused (refusal (records_of (accepted_updates updates)) update) (length (accepted_updates updates) == limit) e in
    rw (length-with_update updates update, records-with_update updates update)
    (IsAdmissionOf-after admission limit (length (accepted_updates updates)) (records_of (accepted_updates updates)) update is accepted.0)

-- the first pending update is accepted over what is published
pub first-pending : (published rest : List Update) (update : Update) → AcceptedFrom no_records (published ++ update ∷ rest)
    → refusal (records_of published) update ≡ None
first-pending published rest update accepted = (behind no_records published accepted).0
  where
    behind : (m : _) (first : List Update) → AcceptedFrom m (first ++ update ∷ rest) → AcceptedFrom (records_from m first) (update ∷ rest)
    behind m [] all = all
    behind m (next ∷ first) all = behind (records_after m next) first all.1

-- A directory that is made by going through a list of the IMSIs that have a record.

-- the value of an IMSI that is listed so many times; none, if it is not listed
abbrev if_listed : ℕ → Option CsisPresent → Option CsisPresent
if_listed zero csis = None
if_listed (suc n) csis = csis

-- the directory has the CSIs of the records of the IMSIs that are listed, and no others
abbrev pub IsDirectoryOfListed : List (List ℕ) → DirectoryData → RecordsData → Type 0
IsDirectoryOfListed imsis directory m =
    (imsi : List ℕ) → map.get directory imsi ≡ if_listed (times_listed imsi imsis) (option_map csis_of (map.get m imsi))

pub none_listed : (m : RecordsData) → IsDirectoryOfListed [] map.empty m
none_listed m imsi = map.get-empty {X = CsisPresent} _ imsi

listed_more : (q imsi : List ℕ) (imsis : List (List ℕ)) → times_listed q (imsis ++ imsi ∷ []) ≡ times_listed q imsis + cond (is_same q imsi) 1 0
listed_more q imsi imsis = sum_by-append (λ listed. cond (is_same q listed) 1 0) imsis (imsi ∷ []) ∙ omega arith

if_once_more : (n : ℕ) (csis : Option CsisPresent) → if_listed (n + 1) csis ≡ csis
if_once_more n csis = let e : n + 1 ≡ suc n = omega arith in ap (λ k. if_listed k csis) e

not_once_more : (n : ℕ) (csis : Option CsisPresent) → if_listed (n + 0) csis ≡ if_listed n csis
not_once_more n csis = let e : n + 0 ≡ n = omega arith in ap (λ k. if_listed k csis) e

if_none : (n : ℕ) → if_listed n None ≡ None
if_none zero = refl
if_none (suc n) = refl

-- the next IMSI is put with its CSIs
pub next_put : (imsis : List (List ℕ)) (imsi : List ℕ) (directory : DirectoryData) (m : RecordsData) (csis : CsisPresent)
    → Some csis ≡ option_map csis_of (map.get m imsi) → IsDirectoryOfListed imsis directory m
    → IsDirectoryOfListed (imsis ++ imsi ∷ []) (map.insert directory imsi csis) m
next_put imsis imsi directory m csis has so_far q =
    map.get-insert nat_list_cmp_total directory imsi csis q ∙ either (is_same q imsi) refl
    ∙ ap (λ n. if_listed n (option_map csis_of (map.get m q))) (sym (listed_more q imsi imsis))
  where
    either : (b : Bool) → is_same q imsi ≡ b
        → cond b (Some csis) (map.get directory q) ≡ if_listed (times_listed q imsis + cond b 1 0) (option_map csis_of (map.get m q))
    either true same =
        has ∙ ap (λ at. option_map csis_of (map.get m at)) (sym (tells_apart exact_bytes q imsi same))
        ∙ sym (if_once_more (times_listed q imsis) (option_map csis_of (map.get m q)))
    either false other = so_far q ∙ sym (not_once_more (times_listed q imsis) (option_map csis_of (map.get m q)))

-- the next IMSI has no record, and is left out
pub next_left_out : (imsis : List (List ℕ)) (imsi : List ℕ) (directory : DirectoryData) (m : RecordsData)
    → None ≡ option_map csis_of (map.get m imsi) → IsDirectoryOfListed imsis directory m → IsDirectoryOfListed (imsis ++ imsi ∷ []) directory m
next_left_out imsis imsi directory m none so_far q =
    so_far q ∙ either (is_same q imsi) refl ∙ ap (λ n. if_listed n (option_map csis_of (map.get m q))) (sym (listed_more q imsi imsis))
  where
    either : (b : Bool) → is_same q imsi ≡ b
        → if_listed (times_listed q imsis) (option_map csis_of (map.get m q)) ≡ if_listed (times_listed q imsis + cond b 1 0) (option_map csis_of (map.get m q))
    either true same =
        let no_csis = none ∙ ap (λ at. option_map csis_of (map.get m at)) (sym (tells_apart exact_bytes q imsi same)) in
        ap (if_listed (times_listed q imsis)) (sym no_csis) ∙ if_none (times_listed q imsis) ∙ no_csis
        ∙ sym (if_once_more (times_listed q imsis) (option_map csis_of (map.get m q)))
    either false other = sym (not_once_more (times_listed q imsis) (option_map csis_of (map.get m q)))

-- Which records a list of updates keeps.

-- updates that do not concern a subscriber leave the record of this one
pub unconcerned : (m : RecordsData) (updates : List Update) (imsi : List ℕ) → All (λ update. is_of imsi update ≡ false) updates
    → map.get (records_from m updates) imsi ≡ map.get m imsi
unconcerned m [] imsi others = refl
unconcerned m (update ∷ updates) imsi others =
    unconcerned (records_after m update) updates imsi (All-tail (λ one. is_of imsi one ≡ false) update updates others)
    ∙ other_record m update imsi (All-head (λ one. is_of imsi one ≡ false) update updates others)

-- what an update that leaves a record leaves, if it is not refused
some_left : (old : Option SubscriberData) (update : Update) → leaves_record update ≡ true → csis_refusal (option_map csis_of old) update ≡ None
    → IsSome (record_after old update)
some_left old (Register imsi) leaves accepted = cc
some_left None (Insert imsi o o_criteria vt t_criteria) leaves accepted = absurd (cc)
some_left (Some subscriber) (Insert imsi o o_criteria vt t_criteria) leaves accepted = cc
some_left None (Delete imsi what) leaves accepted = absurd (cc)
some_left (Some subscriber) (Delete imsi what) leaves accepted = cc
some_left old (Cancel imsi) leaves accepted = absurd (cc)
some_left old ClearAll leaves accepted = absurd (cc)

-- an accepted update that leaves a record leaves one of each subscriber whom it concerns
own_left : (m : RecordsData) (update : Update) (imsi : List ℕ) → refusal m update ≡ None → leaves_record update ≡ true → is_of imsi update ≡ true
    → IsSome (map.get (records_after m update) imsi)
own_left m update imsi accepted leaves own =
    subst (λ (held : Option SubscriberData). IsSome held) (sym (own_record m update imsi own accepted))
    (some_left (value_of m (update_imsi update)) update leaves accepted)

-- a record is still there after accepted updates that each leave a record
pub kept : (m : RecordsData) (updates : List Update) (imsi : List ℕ) → AcceptedFrom m updates → All (λ update. leaves_record update ≡ true) updates
    → IsSome (map.get m imsi) → IsSome (map.get (records_from m updates) imsi)
kept m [] imsi accepted leave held = held
kept m (update ∷ updates) imsi accepted leave held =
    kept (records_after m update) updates imsi accepted.1 (All-tail (λ one. leaves_record one ≡ true) update updates leave)
    (either (is_of imsi update) refl)
  where
    either : (own : Bool) → is_of imsi update ≡ own → IsSome (map.get (records_after m update) imsi)
    either true own = own_left m update imsi accepted.0 (All-head (λ one. leaves_record one ≡ true) update updates leave) own
    either false other = subst (λ (old : Option SubscriberData). IsSome old) (sym (other_record m update imsi other)) held
