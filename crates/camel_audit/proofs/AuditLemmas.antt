-- Entries that are explained, one more at a time, and places in transcripts that move on.
use Rattle.std.proofs.Common.{arith, ℕ, zero, suc, ◌<◌, List, [], ◌∷◌, length, get_or, ◌≡◌, ◌∙◌, ◌+◌, ◌-◌, ◌≤◌, ◌++◌}
use Rattle.std.proofs.Common.{Option, Some, None, drop, take, refl, sym, ap, Bool, All, map, length-append}
use Rattle.std.proofs.Math.ListN.{set, replicate}
use Rattle.std.specs.List.{AllZip}
use Rattle.std.proofs.Math.Seq.{take-add}
use Rattle.std.specs.Prelude.{IfSome}
use Rattle.std.proofs.lemmas.Grind.{take_at_read}
use Rattle.std.proofs.lemmas.List.{take-append-le, take_all}
use Rattle.std.proofs.lemmas.List.Elements.{All-cons, All-nil}
use Rattle.camel_audit.specs.Audit.{AreExplained, IsExplained, last_front, AreExplainedTo, IsDecidedOver, IsExplainedTo}
use Rattle.camel_audit.specs.Audit.{AreExplainedInPart, IsExplainedInPart, updates_of_part}
use Rattle.camel_audit.specs.declared.transcript.Entry.{Entry}
use Rattle.camel_tbcd.specs.declared.profile.Profile.{Profile}
use Rattle.camel_rows.proofs.UpdateLemmas.{records_from-append}
use Rattle.camel_rows.specs.Update.{records_from, records_of, no_records}
use Rattle.camel_rows.specs.declared.subscriber.update.Update.{Update}
use Rattle.camel_rows.specs.Decision.{decision, outcome_of}
use Rattle.camel_rows.specs.declared.trigger.outcome.Outcome.{Outcome}

-- Pairs of two lists, read and written at a place.

pub AllZip-at : {A B : Type 0} (R : A → B → Type 0) (xs : List A) (ys : List B) (i : ℕ) (d : A) (e : B) → AllZip R xs ys → i < length xs
    → R (get_or xs i d) (get_or ys i e)
AllZip-at R [] ys i d e pairs small = absurd (omega (arith, small))
AllZip-at R (x ∷ xs) [] i d e pairs small = absurd pairs
AllZip-at R (x ∷ xs) (y ∷ ys) zero d e pairs small = pairs.0
AllZip-at R (x ∷ xs) (y ∷ ys) (suc i) d e pairs small = AllZip-at R xs ys i d e pairs.1 (omega (arith, small))

pub AllZip-set : {A B : Type 0} (R : A → B → Type 0) (xs : List A) (ys : List B) (i : ℕ) (d : A) (y : B) → AllZip R xs ys → i < length xs → R (get_or xs i d) y
    → AllZip R xs (set ys i y)
AllZip-set R [] ys i d y pairs small one = absurd (omega (arith, small))
AllZip-set R (x ∷ xs) [] i d y pairs small one = absurd pairs
AllZip-set R (x ∷ xs) (y' ∷ ys) zero d y pairs small one = (one, pairs.1)
AllZip-set R (x ∷ xs) (y' ∷ ys) (suc i) d y pairs small one = (pairs.0, AllZip-set R xs ys i d y pairs.1 (omega (arith, small)) one)

-- Entries that are explained, one more at a time.

pub last_front-push : (earlier : ℕ) (entries : List Entry) (entry : Entry) → last_front earlier (entries ++ entry ∷ []) ≡ entry.answer.front
last_front-push earlier [] entry = refl
last_front-push earlier (first ∷ entries) entry = last_front-push first.answer.front entries entry

pub AreExplained-push : (profile : Profile) (updates : List Update) (earlier : ℕ) (entries : List Entry) (entry : Entry)
    → AreExplained profile updates earlier entries → IsExplained profile updates (last_front earlier entries) entry
    → AreExplained profile updates earlier (entries ++ entry ∷ [])
AreExplained-push profile updates earlier [] entry so_far one = (one, tt)
AreExplained-push profile updates earlier (first ∷ entries) entry so_far one =
    (so_far.0, AreExplained-push profile updates first.answer.front entries entry so_far.1 one)

-- the records that a front leaves, and then the updates up to a longer one, are those of the longer one
pub records_of-longer : (updates : List Update) (front longer : ℕ) → front ≤ longer
    → records_from (records_of (take front updates)) (take (longer - front) (drop front updates)) ≡ records_of (take longer updates)
records_of-longer updates front longer small =
    let sum : front + (longer - front) ≡ longer = omega (arith, small) in
    sym (records_from-append no_records (take front updates) (take (longer - front) (drop front updates)))
    ∙ ap records_of (sym (take-add front (longer - front) updates) ∙ ap (λ n. take n updates) sum)

-- what is said of a reason that can't be holds only if there is none
pub not_refused : {E : Type 0} {Says : E → Type 0} {o : Option E} → IfSome o Says → ((e : E) → Says e → ⊥) → o ≡ None
not_refused {o = None} is never = refl
not_refused {o = Some e} is never = absurd (never e is)

-- Places in transcripts, moved on.

module _ (is_in : List ℕ → Bool) (profile : Profile) where
  -- what an entry's call is decided as over the part's updates among these
  abbrev pub outcome_over : Entry → List Update → Outcome
  outcome_over entry updates = outcome_of (decision profile (records_of (updates_of_part is_in updates)) entry.event)

  explained_push : (updates : List Update) (earlier : ℕ) (entries : List Entry) (entry : Entry) → AreExplainedInPart is_in profile updates earlier entries
      → IsExplainedInPart is_in profile updates (last_front earlier entries) entry → AreExplainedInPart is_in profile updates earlier (entries ++ entry ∷ [])
  explained_push updates earlier [] entry so_far one = (one, tt)
  explained_push updates earlier (first ∷ entries) entry so_far one = (so_far.0, explained_push updates first.answer.front entries entry so_far.1 one)

  -- what a front explains, a longer one explains
  explained_longer : (front more : List Update) (earlier : ℕ) (entries : List Entry) → AreExplainedInPart is_in profile front earlier entries
      → AreExplainedInPart is_in profile (front ++ more) earlier entries
  explained_longer front more earlier [] is = tt
  explained_longer front more earlier (entry ∷ entries) is = (
    record {
      within = omega (arith, length-append front more, is.0.within);
      later = is.0.later;
      outcome = λ here. is.0.outcome here ∙ ap (outcome_over entry) (sym (take-append-le entry.answer.front front more is.0.within));
    },
    explained_longer front more entry.answer.front entries is.1,
  )

  -- of entries that a front explains, the last one has no longer front
  last_front-within : (front : List Update) (earlier : ℕ) (entries : List Entry) → AreExplainedInPart is_in profile front earlier entries
      → earlier ≤ length front → last_front earlier entries ≤ length front
  last_front-within front earlier [] is small = small
  last_front-within front earlier (entry ∷ entries) is small = last_front-within front entry.answer.front entries is.1 is.0.within

  -- the entry at a place has the whole front, and is decided over it
  pub IsExplainedTo-push : (front : List Update) (entries : List Entry) (place : ℕ) (entry : Entry) → IsExplainedTo is_in profile front entries place
      → place < length entries → entry ≡ get_or entries place entry → entry.answer.front ≡ length front
      → IsDecidedOver is_in profile (records_of (updates_of_part is_in front)) entry → IsExplainedTo is_in profile front entries (place + 1)
  IsExplainedTo-push front entries place entry is more there count decided =
      let first = take place entries in
      let longer : take (place + 1) entries ≡ first ++ entry ∷ [] = (take_at_read entries place entry more).1 ∙ ap (λ e. first ++ e ∷ []) (sym there) in
      let small : last_front 0 first ≤ length front = last_front-within front 0 first is.explained (omega arith) in
      let whole : take entry.answer.front front ≡ front = take_all entry.answer.front front (omega (arith, count)) in
      record {
        within = omega (arith, more);
        explained = rw longer (explained_push front 0 first entry is.explained (record {
          within = omega (arith, count);
          later = omega (arith, count, small);
          outcome = λ here. decided here ∙ ap (outcome_over entry) (sym whole);
        }));
      }

  -- places that a front explains are places that a longer one explains
  pub AreExplainedTo-longer : (front more : List Update) (transcripts : List (List Entry)) (places : List ℕ)
      → AreExplainedTo is_in profile front transcripts places → AreExplainedTo is_in profile (front ++ more) transcripts places
  AreExplainedTo-longer front more [] [] are = tt
  AreExplainedTo-longer front more [] (place ∷ places) are = absurd are
  AreExplainedTo-longer front more (entries ∷ transcripts) [] are = absurd are
  AreExplainedTo-longer front more (entries ∷ transcripts) (place ∷ places) are = (
    record { within = are.0.within; explained = explained_longer front more 0 (take place entries) are.0.explained },
    AreExplainedTo-longer front more transcripts places are.1,
  )

  -- the places before all entries
  pub AreExplainedTo-none : (front : List Update) (transcripts : List (List Entry))
      → AreExplainedTo is_in profile front transcripts (replicate (length transcripts) 0)
  AreExplainedTo-none front [] = tt
  AreExplainedTo-none front (entries ∷ transcripts) = (record { within = omega arith; explained = tt }, AreExplainedTo-none front transcripts)

  -- the places behind all entries
  pub all_explained : (updates : List Update) (transcripts : List (List Entry)) → AreExplainedTo is_in profile updates transcripts (map length transcripts)
      → All (AreExplainedInPart is_in profile updates 0) transcripts
  all_explained updates [] are = All-nil (AreExplainedInPart is_in profile updates 0)
  all_explained updates (entries ∷ transcripts) are =
      let whole : take (length entries) entries ≡ entries = take_all (length entries) entries (omega arith) in
      All-cons (AreExplainedInPart is_in profile updates 0) entries transcripts (rw (← whole) are.0.explained) (all_explained updates transcripts are.1)
