-- What passes in each part of the subscribers passes: each IMSI is in one.
use Rattle.std.proofs.Common.{◌≡◌, ◌∙◌, ℕ, Bool, true, false, List, [], ◌∷◌, Option, Some, None, refl, sym, ap, arith}
use Rattle.std.proofs.Common.{◌<◌, ◌≤◌, ◌%◌, take, eq-eqb, ◌++◌, subst}
use Rattle.std.proofs.lemmas.Slice.Eq.{bytes_eq-Decides}
use Rattle.std.specs.Option.{option_map}
use Rattle.std.specs.Str.{bytes_eq}
use Rattle.std.proofs.lemmas.List.Elements.{filter-append}
use Rattle.camel_audit.specs.Audit.{concerns_part, updates_of_part, AreExplained, Passes, AreExplainedInPart}
use Rattle.camel_audit.specs.Audit.{PassesInParts, is_in_part}
use Rattle.camel_criteria.specs.declared.refusal.Refusal.{Refusal}
use Rattle.camel_rows.proofs.UpdateLemmas.{other_record, own_record, records_from-append}
use Rattle.camel_rows.specs.Update.{concerns, value_of, csis_of, csis_refusal, RecordsData, AcceptedFrom, is_of}
use Rattle.camel_rows.specs.Update.{records_after, record_after, records_from, refusal, update_imsi, no_records}
use Rattle.camel_rows.specs.Update.{Accepted, records_of}
use Rattle.camel_rows.specs.declared.subscriber.update.Update.{Update}
use Rattle.camel_audit.specs.declared.transcript.Entry.{Entry}
use Rattle.camel_tbcd.specs.Imsi.{imsi_number}
use Rattle.camel_tbcd.specs.declared.profile.Profile.{Profile}
use Rattle.camel_rows.specs.Decision.{by_record, event_imsi, outcome_of}
use Rattle.std.specs.FinMap as map

-- The records that the updates of a part leave are, of each subscriber of the part, those that all updates leave.

module _ (is_in : List ℕ → Bool) where
  -- the update is one of the part
  abbrev pub is_own : Update → Bool
  is_own update = concerns_part is_in (update_imsi update)

  -- two maps hold the same of each subscriber of the part
  abbrev pub Agree : RecordsData → RecordsData → Type 0
  Agree m n = (imsi : List ℕ) → is_in imsi ≡ true → map.get m imsi ≡ map.get n imsi

  same_value : (m n : RecordsData) → Agree m n → (whom : Option (List ℕ)) → concerns_part is_in whom ≡ true → value_of m whom ≡ value_of n whom
  same_value m n agree None own = refl
  same_value m n agree (Some imsi) own = agree imsi own

  -- what refuses an update of the part is a record of the part
  pub same_refusal : (m n : RecordsData) → Agree m n → (update : Update) → is_own update ≡ true → refusal m update ≡ refusal n update
  same_refusal m n agree update own = ap (λ old. csis_refusal (option_map csis_of old) update) (same_value m n agree (update_imsi update) own)

  -- an update of the part leaves the same of each subscriber of the part
  pub after_own : (m n : RecordsData) → Agree m n → (update : Update) → is_own update ≡ true → Agree (records_after m update) (records_after n update)
  after_own m n agree update own imsi here = by_test (is_of imsi update) refl (refusal m update) refl
    where
      same : refusal m update ≡ refusal n update
      same = same_refusal m n agree update own

      by_test : (b : Bool) → is_of imsi update ≡ b → (why : Option Refusal) → refusal m update ≡ why
          → map.get (records_after m update) imsi ≡ map.get (records_after n update) imsi
      by_test false other why is = other_record m update imsi other ∙ agree imsi here ∙ sym (other_record n update imsi other)
      by_test true concerned None is =
          own_record m update imsi concerned is ∙ ap (λ old. record_after old update) (same_value m n agree (update_imsi update) own)
          ∙ sym (own_record n update imsi concerned (sym same ∙ is))
      by_test true concerned (Some why) is = rw (is, sym same ∙ is) (agree imsi here)

  -- an update of others leaves each record of the part
  other_imsi : (whom : Option (List ℕ)) (imsi : List ℕ) → concerns_part is_in whom ≡ false → is_in imsi ≡ true → concerns whom imsi ≡ false
  other_imsi None imsi other here = absurd (cc)
  other_imsi (Some own) imsi other here = by_test (bytes_eq own imsi) refl
    where
      by_test : (b : Bool) → bytes_eq own imsi ≡ b → b ≡ false
      by_test false is = refl
      by_test true is = let same = ap is_in ((bytes_eq-Decides own imsi).0 is) in absurd (cc)

  pub after_other : (m n : RecordsData) → Agree m n → (update : Update) → is_own update ≡ false → Agree (records_after m update) n
  after_other m n agree update other imsi here = other_record m update imsi (other_imsi (update_imsi update) imsi other here) ∙ agree imsi here

  pub after_all : (m n : RecordsData) (updates : List Update) → Agree m n → Agree (records_from m updates) (records_from n (updates_of_part is_in updates))
  after_all m n [] agree = agree
  after_all m n (update ∷ updates) agree = by_test (λ k. after_all (records_after m update) k updates) (is_own update) refl
    where
      by_test : ((k : RecordsData) → Agree (records_after m update) k
          → Agree (records_from m (update ∷ updates)) (records_from k (updates_of_part is_in updates)))
          → (b : Bool) → is_own update ≡ b → Agree (records_from m (update ∷ updates)) (records_from n (updates_of_part is_in (update ∷ updates)))
      by_test further true own = rw own (further (records_after n update) (after_own m n agree update own))
      by_test further false other = rw other (further n (after_other m n agree update other))

  -- each update of the part is refused by nothing over the data left by all those before it
  abbrev pub AcceptedIn : RecordsData → List Update → Type 0
  AcceptedIn m [] = Unit {0}
  AcceptedIn m (update ∷ updates) = (is_own update ≡ true → refusal m update ≡ None) × AcceptedIn (records_after m update) updates

  pub accepted_in : (m n : RecordsData) (updates : List Update) → Agree m n → AcceptedFrom n (updates_of_part is_in updates) → AcceptedIn m updates
  accepted_in m n [] agree accepted = tt
  accepted_in m n (update ∷ updates) agree accepted = by_test (λ k. accepted_in (records_after m update) k updates) (is_own update) refl accepted
    where
      by_test : ((k : RecordsData) → Agree (records_after m update) k → AcceptedFrom k (updates_of_part is_in updates)
          → AcceptedIn (records_after m update) updates) → (b : Bool) → is_own update ≡ b
          → AcceptedFrom n (updates_of_part is_in (update ∷ updates)) → AcceptedIn m (update ∷ updates)
      by_test further true own accepted =
          let split : (refusal n update ≡ None) × AcceptedFrom (records_after n update) (updates_of_part is_in updates) = rw own at accepted in
          (λ _. same_refusal m n agree update own ∙ split.0, further (records_after n update) (after_own m n agree update own) split.1)
      by_test further false other accepted =
          let rest : AcceptedFrom n (updates_of_part is_in updates) = rw other at accepted in
          (λ own. absurd (cc), further n (after_other m n agree update other) rest)

-- What passes in each part passes: each IMSI is in one.

module _ (parts : ℕ) (some : 1 ≤ parts) where
  -- a part that something concerns
  record Home (whom : Option (List ℕ)) : Type 0 where
    part : ℕ
    within : part < parts
    concerned : concerns_part (is_in_part parts part) whom ≡ true

  home : (whom : Option (List ℕ)) → Home whom
  home None = record { part = 0; within = omega (arith, some); concerned = refl }
  home (Some imsi) = record { part = imsi_number imsi % parts; within = omega (arith, some); concerned = eq-eqb _ _ refl }

  accepted_whole : (m : RecordsData) (updates : List Update) → ((part : ℕ) → part < parts → AcceptedIn (is_in_part parts part) m updates)
      → AcceptedFrom m updates
  accepted_whole m [] each = tt
  accepted_whole m (update ∷ updates) each =
      let at = home (update_imsi update) in
      ((each at.part at.within).0 at.concerned, accepted_whole (records_after m update) updates (λ part within. (each part within).1))

  explained_whole : (profile : Profile) (updates : List Update) (earlier : ℕ) (entries : List Entry)
      → ((part : ℕ) → part < parts → AreExplainedInPart (is_in_part parts part) profile updates earlier entries) → AreExplained profile updates earlier entries
  explained_whole profile updates earlier [] each = tt
  explained_whole profile updates earlier (entry ∷ entries) each =
      let imsi = event_imsi entry.event in
      let at = home (Some imsi) in
      let here = (each at.part at.within).0 in
      let same = after_all (is_in_part parts at.part) no_records no_records (take entry.answer.front updates) (λ _ _. refl) imsi at.concerned in (
        record {
          within = here.within;
          later = here.later;
          outcome = here.outcome at.concerned ∙ ap (λ held. outcome_of (by_record profile entry.event held)) (sym same);
        },
        explained_whole profile updates entry.answer.front entries (λ part within. (each part within).1),
      )

  pub passes_whole : (profile : Profile) (updates : List Update) (transcripts : List (List Entry)) → PassesInParts parts profile updates transcripts
      → Passes profile updates transcripts
  passes_whole profile updates transcripts each = record {
    accepted = accepted_whole no_records updates (λ part within.
        accepted_in (is_in_part parts part) no_records no_records updates (λ _ _. refl) (each part within).accepted);
    explained = λ at other small. explained_whole profile updates 0 _ (λ part within. (each part within).explained at other small);
  }

-- One more update, of a part or not.

-- updates that are accepted after accepted ones are accepted with them
accepted_append : (m : RecordsData) (first second : List Update) → AcceptedFrom m first → AcceptedFrom (records_from m first) second
    → AcceptedFrom m (first ++ second)
accepted_append m [] second accepted next = next
accepted_append m (update ∷ first) second accepted next = (accepted.0, accepted_append (records_after m update) first second accepted.1 next)

module _ (is_in : List ℕ → Bool) (front : List Update) (update : Update) where
  -- the part's updates of the front, and the update if it is one of the part
  abbrev pub first : List Update
  first = updates_of_part is_in front

  abbrev pub last : List Update
  last = updates_of_part is_in (update ∷ [])

  split : updates_of_part is_in (front ++ update ∷ []) ≡ first ++ last
  split = filter-append (λ (u : Update). concerns_part is_in (update_imsi u)) front (update ∷ [])

  pub records-push : (before after : RecordsData) → before ≡ records_of first → after ≡ records_from before last
      → after ≡ records_of (updates_of_part is_in (front ++ update ∷ []))
  records-push before after is next = next ∙ ap (λ m. records_from m last) is ∙ sym (records_from-append no_records first last) ∙ ap records_of (sym split)

  pub Accepted-push : (before : RecordsData) → before ≡ records_of first → Accepted first → AcceptedFrom before last
      → Accepted (updates_of_part is_in (front ++ update ∷ []))
  Accepted-push before is accepted next = subst (λ (us : List Update). Accepted us) (sym split)
      (accepted_append no_records first last accepted (subst (λ (m : RecordsData). AcceptedFrom m last) is next))
