-- What a replay writes, line by line, and what its store keeps.
use Rattle.std.proofs.Common.{◌≡◌, ◌∙◌, ℕ, ◌+◌, ◌-◌, ◌<◌, ◌≤◌, ◌≢◌, List, [], length, take, drop, Option, Some, None}
use Rattle.std.proofs.Common.{refl, sym, arith, ◌∷◌, ◌++◌, get_or, drop-cons, ap, subst, append_assoc}
use Rattle.std.proofs.KnownBytes.{Appends-kept, Appends-trans}
use Rattle.std.proofs.lemmas.List.{append-nil, length-drop, take-append-drop, take_all}
use Rattle.std.proofs.Math.Seq.{take-add}
use Rattle.std.specs.Io.KnownBytes.{Appends, Keeps}
use base.Growing.{prefix_trans}
use Rattle.camel_script_replay.specs.Output.{AppendsProperPart, published_after, updates_from, after_submission}
use Rattle.camel_script_replay.specs.Output.{updates_after}
use Rattle.camel_rows.proofs.StoreLemmas.{IsAdmissionOf-empty, IsAdmissionOf-with_update, IsFront-empty}
use Rattle.camel_rows.proofs.StoreLemmas.{IsFront-with_update, admits, first-pending, IsFront-published}
use Rattle.camel_rows.proofs.UpdateLemmas.{records_from-append}
use Rattle.camel_rows.specs.Update.{value_of, csis_after, Extends, RecordsData, no_records, records_after, refusal}
use Rattle.camel_rows.specs.Update.{update_imsi, IsFront}
use Rattle.camel_rows.specs.Store.{AdmissionData, admission_refusal, no_admissions, with_admission, Updates}
use Rattle.camel_rows.specs.Store.{accepted_updates, no_updates, with_update, store_refusal}
use Rattle.camel_rows.specs.declared.subscriber.update.Update.{Update}
use Rattle.camel_tbcd.specs.declared.profile.Profile.{Profile}
use Rattle.camel_script_replay.specs.Store.{IsSound, StoreData}
use Rattle.camel_criteria.specs.declared.refusal.Refusal.{Refusal}
use Rattle.camel_script.specs.declared.record.Record.{Record}
use Rattle.camel_script.specs.declared.record.Record.TheVariants as script_record

-- Octets that are written a part at a time.

-- a write takes some of the octets that are left
pub wrote_more : (old mid new : Option (List ℕ)) (octets : List ℕ) (written taken : ℕ) → written ≤ length octets → Appends old mid (take written octets)
    → Appends mid new (take taken (take (length octets - written) (drop written octets)))
    → Appends old new (take (written + taken) octets)
wrote_more old mid new octets written taken within before more =
    let left : take (length octets - written) (drop written octets) ≡ drop written octets =
    take_all (length octets - written) (drop written octets) (omega (arith, length-drop written octets)) in
    rw (take-add written taken octets)
    (Appends-trans old mid new (take written octets) (take taken (drop written octets)) before (rw left at more))

-- a write takes none of them
pub wrote_part : (old mid new : Option (List ℕ)) (octets : List ℕ) (written : ℕ) → written < length octets
    → Appends old mid (take written octets) → Keeps mid new → AppendsProperPart old new octets
wrote_part old mid new octets written less before same =
    let left : length (drop written octets) ≡ length octets - written = length-drop written octets in
    let some_left : drop written octets ≢ [] =
    λ none. let zero : length (drop written octets) ≡ 0 = rw none refl in omega (arith, left, zero, less) in
    let kept = Appends-kept old mid new (take written octets) before same in
    (take written octets, drop written octets, sym (take-append-drop written octets), some_left, kept)

pub Keeps-append_none : (old new : Option (List ℕ)) → Appends old new [] → Keeps old new
Keeps-append_none None new none = tt
Keeps-append_none (Some held) None none = none
Keeps-append_none (Some held) (Some now) none = none ∙ append-nil held

-- The fields of a store of one thread go on to agree.

-- the fields of a store that is empty agree
pub IsSound-new : (limit : ℕ) → IsSound (no_admissions limit) no_records no_updates
IsSound-new limit = record {
  front = IsFront-empty limit;
  admits = IsAdmissionOf-empty limit;
  published = refl;
}

-- the fields of a store with an accepted update more agree
pub IsSound-accept : (admission next : AdmissionData) (records : RecordsData) (updates : Updates) (update : Update) → IsSound admission records updates
    → admission_refusal admission update ≡ None
    → next ≡ with_admission admission (update_imsi update) (csis_after (value_of admission.directory (update_imsi update)) update)
    → IsSound next records (with_update updates update)
IsSound-accept admission next records updates update sound accepted next_is =
    let taken = sym (admits admission admission.limit updates update sound.admits) ∙ accepted in
    rw next_is (record {
      front = IsFront-with_update admission.limit updates update sound.front taken;
      admits = IsAdmissionOf-with_update admission admission.limit updates update sound.admits taken;
      published = sound.published;
    })

-- a list with a first item is that item and the others
pub first-and-rest : {Item : Type 0} (items : List Item) (item : Item) → 0 < length items → item ≡ get_or items 0 item → items ≡ item ∷ drop 1 items
first-and-rest items item some same = drop-cons items 0 item some ∙ ap (λ head. head ∷ drop 1 items) (sym same)

-- what is accepted stays, while one update after the other is published
pub record IsPublishing (before : StoreData) (admission : AdmissionData) (records : RecordsData) (own : Profile) (updates : Updates) : Type 0 where
  pub sound : IsSound admission records updates
  pub profile : own ≡ before.profile
  pub limit : admission.limit ≡ before.limit
  pub accepted : accepted_updates updates ≡ accepted_updates before.updates
  pub grows : Extends updates.published before.updates.published

module _ (before : StoreData) (admission : AdmissionData) (records : RecordsData) (own : Profile) (published items rest : List Update) (update : Update)
    (so_far : IsPublishing before admission records own (record { published = published; pending = items })) (split : items ≡ update ∷ rest) where
  sound : IsSound admission records (record { published = published; pending = update ∷ rest })
  sound = subst (λ (us : List Update). IsSound admission records (record { published = published; pending = us })) split so_far.sound

  -- the first pending update is not refused by the records
  pub not-refused : refusal records update ≡ None
  not-refused = subst (λ m. refusal m update ≡ None) (sym sound.published) (first-pending published rest update sound.front.accepted)

  -- it is published
  pub IsPublishing-next : (next : RecordsData) (more : List Update) → next ≡ records_after records update → more ≡ published ++ update ∷ []
      → IsPublishing before admission next own (record { published = more; pending = rest })
  IsPublishing-next next more next_is more_is =
      let moved : published ++ update ∷ rest ≡ (published ++ update ∷ []) ++ rest = sym (append_assoc published (update ∷ []) rest) in
      rw (next_is, more_is) (record {
        sound = record {
          front = rw (← moved) sound.front;
          admits = rw (← moved) sound.admits;
          published = ap (λ m. records_after m update) sound.published ∙ sym (records_from-append no_records published (update ∷ []));
        };
        profile = so_far.profile;
        limit = so_far.limit;
        accepted = sym moved ∙ ap (λ us. published ++ us) (sym split) ∙ so_far.accepted;
        grows = prefix_trans before.updates.published published (published ++ update ∷ []) so_far.grows (update ∷ [], refl);
      })

-- What is published in a run is a front, and only grows.

-- published and pending updates together are a front
abbrev AreFront : ℕ → Updates → Type 0
AreFront limit updates = IsFront limit (accepted_updates updates)

AreFront-submission : (limit : ℕ) (updates : Updates) (update : Update) (why : Option Refusal) → store_refusal limit updates update ≡ why
    → AreFront limit updates → AreFront limit (after_submission updates update why)
AreFront-submission limit updates update (Some why) e front = front
AreFront-submission limit updates update None e front = IsFront-with_update limit updates update front e

AreFront-after : (limit : ℕ) (updates : Updates) (next_record : Record) → AreFront limit updates → AreFront limit (updates_after limit updates next_record)
AreFront-after limit updates (script_record.Update update) front = AreFront-submission limit updates update (store_refusal limit updates update) refl front
AreFront-after limit updates script_record.Publish front = subst (IsFront limit) (sym (append-nil (accepted_updates updates))) front
AreFront-after limit updates (script_record.Call event) front = front
AreFront-after limit updates (script_record.Refused why) front = front

AreFront-from : (limit : ℕ) (updates : Updates) (records : List Record) → AreFront limit updates → AreFront limit (updates_from limit updates records)
AreFront-from limit updates [] front = front
AreFront-from limit updates (next_record ∷ records) front =
    AreFront-from limit (updates_after limit updates next_record) records (AreFront-after limit updates next_record front)

pub published_is_front : (limit : ℕ) (records : List Record) → IsFront limit (published_after limit records)
published_is_front limit records =
    IsFront-published limit (updates_from limit no_updates records) (AreFront-from limit no_updates records (IsFront-empty limit))

pub published-after_submission : (now : Updates) (update : Update) (why : Option Refusal) → (after_submission now update why).published ≡ now.published
published-after_submission now update None = refl
published-after_submission now update (Some why) = refl

-- one record leaves what is published, or lets it grow
grows_by_one : (limit : ℕ) (updates : Updates) (next_record : Record) → Extends (updates_after limit updates next_record).published updates.published
grows_by_one limit updates (script_record.Update update) = ([], append-nil updates.published ∙ sym (published-after_submission updates update _))
grows_by_one limit updates script_record.Publish = (updates.pending, refl)
grows_by_one limit updates (script_record.Call event) = ([], append-nil updates.published)
grows_by_one limit updates (script_record.Refused why) = ([], append-nil updates.published)

grows_from : (limit : ℕ) (updates : Updates) (records : List Record) → Extends (updates_from limit updates records).published updates.published
grows_from limit updates [] = ([], append-nil updates.published)
grows_from limit updates (next_record ∷ records) =
    let next = updates_after limit updates next_record in
    prefix_trans updates.published next.published _ (grows_by_one limit updates next_record) (grows_from limit next records)

pub updates_from-append : (limit : ℕ) (updates : Updates) (records more : List Record)
    → updates_from limit updates (records ++ more) ≡ updates_from limit (updates_from limit updates records) more
updates_from-append limit updates [] more = refl
updates_from-append limit updates (next_record ∷ records) more = updates_from-append limit (updates_after limit updates next_record) records more

pub published_grows : (limit : ℕ) (records more : List Record) → Extends (published_after limit (records ++ more)) (published_after limit records)
published_grows limit records more =
    let grown = grows_from limit (updates_from limit no_updates records) more in
    (grown.0, grown.1 ∙ sym (ap (λ (updates : Updates). updates.published) (updates_from-append limit no_updates records more)))
