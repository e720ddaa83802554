-- Operations of the writer, and what restores a copy after them.
use Rattle.std.proofs.Common.{◌≡◌, ◌∙◌, ◌+◌, ◌-◌, ◌^◌, ◌<◌, ◌≤◌, ℕ, List, All, take, [], ◌∷◌, ◌++◌, length, drop, fold}
use Rattle.std.proofs.Common.{min, sym, refl, ap, subst, arith, add-zero, append-nil, append_assoc, inl, inr, Bool}
use Rattle.std.proofs.Common.{true, false, cond, Option, Some, None, IsSome}
use Prim.Native.Nat.{zero, suc}
use Rattle.std.proofs.Math.ListN.{get_or}
use Rattle.std.proofs.Math.Seq.{drop-append_seam}
use Rattle.std.proofs.lemmas.List.{take_more}
use Rattle.std.proofs.lemmas.List.Elements.{All-cons, All-head, All-nil, All-tail, All-append}
use Rattle.std.proofs.lemmas.Slice.Eq.{bytes_eq-Decides}
use Rattle.std.specs.Option.{option_map}
use Rattle.camel_rows.specs.Update.{Extends, records_from, concerns, with_value, csis_of, IsFront, RecordsData}
use Rattle.camel_rows.specs.Update.{no_records, AcceptedFrom, is_of, records_after, records_of, update_imsi}
use Rattle.camel_rows.specs.declared.subscriber.update.Update.{Update}
use Rattle.camel_vlr.specs.Operation.{CopyData, HasMore, copy_after, updates_among, HasAll, IsAdmissionOver, IsRestored}
use Rattle.camel_vlr.specs.Operation.{IsRestoredAt}
use Rattle.camel_vlr.specs.History.{PrefixData}
use Rattle.camel_vlr.specs.declared.writer.TheConstants.{MAX_UPDATES}
use Rattle.camel_vlr.specs.declared.writer.operation.Operation.{Operation}
use Rattle.camel_rows.proofs.UpdateLemmas.{get-with_value_of, records_from-append}
use Rattle.camel_rows.proofs.StoreLemmas.{kept, unconcerned}
use Rattle.camel_rows.specs.Store.{AdmissionData, IsAdmissionOf}
use Rattle.camel_rows.specs.Subscriber.{SubscriberData}
use Rattle.camel_rows.specs.declared.subscriber.csis_present.CsisPresent.{CsisPresent}
use Rattle.camel_vlr.specs.Seat.{IsOfItsFront}
use Rattle.camel_vlr.specs.Store.{AllLeave}
use Rattle.camel_vlr.specs.declared.published_copy.PublishedCopy.{PublishedCopy}
use Rattle.camel_vlr.specs.declared.writer.operation.Operation.TheVariants as operation
use Rattle.std.specs.FinMap as map

-- Operations, and the updates among them.

pub updates_among-append : (first second : List Operation) → updates_among (first ++ second) ≡ updates_among first ++ updates_among second
updates_among-append [] second = refl
updates_among-append (operation.Update update ∷ first) second = ap (λ updates. update.value ∷ updates) (updates_among-append first second)
updates_among-append (operation.Front front ∷ first) second = updates_among-append first second

-- the front of a publication is no update
pub updates_among-front : (operations : List Operation) (front : PrefixData)
    → updates_among (operations ++ operation.Front front ∷ []) ≡ updates_among operations
updates_among-front operations front = updates_among-append operations (operation.Front front ∷ []) ∙ append-nil (updates_among operations)

-- all operations leave the data that their updates leave, and count them
pub fold-copy_after : (copy : CopyData) (operations : List Operation) → copy.1 + length (updates_among operations) ≤ MAX_UPDATES
    → ((fold copy_after copy operations).0 ≡ records_from copy.0 (updates_among operations))
    × ((fold copy_after copy operations).1 ≡ copy.1 + length (updates_among operations))
fold-copy_after copy [] few = (refl, sym (add-zero copy.1))
fold-copy_after copy (operation.Update update ∷ operations) few =
    let next : min (copy.1 + 1) (2 ^ 64 - 1) ≡ copy.1 + 1 = omega arith in
    let rest = fold-copy_after (copy_after copy (operation.Update update)) operations (omega (arith, next)) in
    (rest.0, rest.1 ∙ omega (arith, next))
fold-copy_after copy (operation.Front front ∷ operations) few = fold-copy_after (copy.0, copy.1, front) operations few

-- what stands behind a list in one that extends it
pub behind : (all list : List Update) → Extends all list → list ++ drop (length list) all ≡ all
behind all list (r, p) =
    subst (λ (z : List Update). list ++ drop (length list) z ≡ z) p (ap (λ z. list ++ z) (drop-append_seam list r))

-- so many updates more, behind other operations
pub updates_among-more : (first before after : List Operation) (updates : List Update) → HasMore updates before after
    → updates_among (first ++ after) ≡ updates_among (first ++ before) ++ updates
updates_among-more first before after updates (more, order, all) =
    ap (λ list. updates_among (first ++ list)) order
    ∙ (ap updates_among (sym (append_assoc first before more))
    ∙ (updates_among-append (first ++ before) more ∙ ap (λ list. updates_among (first ++ before) ++ list) all))

-- one operation more, in its order
pub updates_among-next : (items : List Operation) (at : ℕ) (item : Operation) → at < length items → item ≡ get_or items at item
    → updates_among (take (at + 1) items) ≡ updates_among (take at items) ++ updates_among (item ∷ [])
updates_among-next items at item few is =
    ap updates_among (take_more items at item few ∙ ap (λ one. take at items ++ one ∷ []) (sym is)) ∙ updates_among-append (take at items) (item ∷ [])

-- what is true of all updates of two lists is true of those of each
pub each_half : (P : Update → Type 0) (first second : List Update) → All P (first ++ second) → All P first × All P second
each_half P [] second all = (All-nil P, all)
each_half P (update ∷ first) second all =
    let rest = each_half P first second (All-tail P update (first ++ second) all) in
    (All-cons P update first (All-head P update (first ++ second) all) rest.0, rest.1)

-- what is true of all updates is true of that of each operation
pub each_of : (P : Update → Type 0) (items : List Operation) (at : ℕ) (item : Operation) → at < length items → item ≡ get_or items at item
    → All P (updates_among items) → All P (updates_among (item ∷ []))
each_of P [] at item few is all = absurd (omega (arith, few))
each_of P (operation.Update update ∷ items) zero item few is all =
    subst (λ (o : Operation). All P (updates_among (o ∷ []))) (sym is)
    (All-cons P update.value [] (All-head P update.value (updates_among items) all) (All-nil P))
each_of P (operation.Front front ∷ items) zero item few is all = subst (λ (o : Operation). All P (updates_among (o ∷ []))) (sym is) (All-nil P)
each_of P (operation.Update update ∷ items) (suc at) item few is all =
    each_of P items at item (omega (arith, few)) is (All-tail P update.value (updates_among items) all)
each_of P (operation.Front front ∷ items) (suc at) item few is all = each_of P items at item (omega (arith, few)) is all

-- Restoring what the published records have of all whom pending updates concern makes the admission of the published
-- updates.

-- updates are accepted behind those before them
accepted_behind : (m : RecordsData) (first second : List Update) → AcceptedFrom m (first ++ second) → AcceptedFrom (records_from m first) second
accepted_behind m [] second all = all
accepted_behind m (update ∷ first) second all = accepted_behind (records_after m update) first second all.1

is_there : (held : Option SubscriberData) → IsSome held → IsSome (option_map csis_of held)
is_there None some = absurd (cc)
is_there (Some held) some = some

-- for one update, the entry of its subscriber
pub restored-one : (records : RecordsData) (admission : AdmissionData) (update : Update) (own : List ℕ) (csis : Option CsisPresent)
    → update_imsi update ≡ Some own → csis ≡ option_map csis_of (map.get records own)
    → IsRestored records (update ∷ []) admission (record admission { directory = with_value admission.directory own csis })
restored-one records admission update own csis whom is = record { limit = refl; accepted = refl; each = λ imsi. at imsi (concerns (Some own) imsi) refl }
  where
    at : (imsi : List ℕ) (concerned : Bool) → concerns (Some own) imsi ≡ concerned
        → IsRestoredAt records (update ∷ []) admission.directory (with_value admission.directory own csis) imsi
    at imsi true concerned = inl (
        get-with_value_of admission.directory (Some own) csis imsi (λ none. absurd (cc))
        ∙ (ap (λ b. cond b csis (map.get admission.directory imsi)) concerned
        ∙ (is ∙ ap (λ key. option_map csis_of (map.get records key)) ((bytes_eq-Decides own imsi).0 concerned)))
        )
    at imsi false concerned = inr (
      get-with_value_of admission.directory (Some own) csis imsi (λ none. absurd (cc)) ∙ ap (λ b. cond b csis (map.get admission.directory imsi)) concerned,
      All-cons (λ one. is_of imsi one ≡ false) update [] (ap (λ whom. concerns whom imsi) whom ∙ concerned) (All-nil (λ one. is_of imsi one ≡ false)),
    )

-- for some updates, and then for others
pub restored-both : (records : RecordsData) (first second : List Update) (a b c : AdmissionData) → IsRestored records first a b → IsRestored records second b c
    → IsRestored records (first ++ second) a c
restored-both records first second a b c one two = record {
  limit = two.limit ∙ one.limit;
  accepted = two.accepted ∙ one.accepted;
  each = λ imsi. both imsi (one.each imsi) (two.each imsi);
}
  where
    both : (imsi : List ℕ) → IsRestoredAt records first a.directory b.directory imsi → IsRestoredAt records second b.directory c.directory imsi
        → IsRestoredAt records (first ++ second) a.directory c.directory imsi
    both imsi earlier (inl restored) = inl restored
    both imsi (inl restored) (inr (same, others)) = inl (same ∙ restored)
    both imsi (inr (before, few)) (inr (same, others)) = inr (same ∙ before, All-append (λ update. is_of imsi update ≡ false) first second few others)

-- each subscriber of the records still has an entry
pub restored-has : (records : RecordsData) (updates : List Update) (a b : AdmissionData) → IsRestored records updates a b → HasAll records a.directory
    → HasAll records b.directory
restored-has records updates a b restored has imsi held = of (restored.each imsi)
  where
    of : IsRestoredAt records updates a.directory b.directory imsi → IsSome (map.get b.directory imsi)
    of (inl is) = subst (λ (csis : Option CsisPresent). IsSome csis) (sym is) (is_there (map.get records imsi) held)
    of (inr (same, others)) = subst (λ (csis : Option CsisPresent). IsSome csis) (sym same) (has imsi held)

-- each subscriber of the published records has an entry, if each pending update leaves a record
pub all_there : (copy : PublishedCopy) (admission : AdmissionData) (pending : List Update) → IsOfItsFront copy → IsAdmissionOver copy.front admission pending
    → AllLeave pending → HasAll copy.records admission.directory
all_there copy admission pending is over leave imsi held =
    let published = copy.front.updates in
    let now = subst (λ (m : RecordsData). IsSome (map.get m imsi)) is.records held in
    let later = kept (records_of published) pending imsi (accepted_behind no_records published pending over.all.accepted) leave now in
    subst (λ (csis : Option CsisPresent). IsSome csis) (sym (over.admits.directory imsi
    ∙ ap (λ m. option_map csis_of (map.get m imsi)) (records_from-append no_records published pending)))
    (is_there (map.get (records_from (records_of published) pending) imsi) later)

-- an admission over the published updates only, by its parts
pub published_only : (copy : PublishedCopy) (admission : AdmissionData) (pending : List Update) → IsOfItsFront copy
    → IsFront copy.front.store.limit (copy.front.updates ++ pending)
    → IsAdmissionOf admission copy.front.store.limit copy.count copy.records → IsAdmissionOver copy.front admission []
published_only copy admission pending is all admits =
    let published = copy.front.updates in record {
      all = subst (IsFront copy.front.store.limit) (sym (append-nil published)) is.front;
      admits = subst (λ (updates : List Update). IsAdmissionOf admission copy.front.store.limit (length updates) (records_of updates))
          (sym (append-nil published)) (rw (← is.count, ← is.records) admits);
    }

-- the entries of all whom pending updates concern are restored, and only the published ones are counted
pub restored_over : (copy : PublishedCopy) (before after : AdmissionData) (pending : List Update) → IsOfItsFront copy
    → IsAdmissionOver copy.front before pending → IsRestored copy.records pending before after
    → IsAdmissionOver copy.front (record after { accepted = copy.count }) []
restored_over copy before after pending is over restored =
    published_only copy (record after { accepted = copy.count }) pending is over.all (record {
      same_limit = restored.limit ∙ over.admits.same_limit;
      same_count = refl;
      directory = λ imsi. of imsi (restored.each imsi);
    })
  where
    of : (imsi : List ℕ) → IsRestoredAt copy.records pending before.directory after.directory imsi
        → map.get after.directory imsi ≡ option_map csis_of (map.get copy.records imsi)
    of imsi (inl is) = is
    of imsi (inr (same, others)) =
        same ∙ (over.admits.directory imsi ∙ ap (option_map csis_of) (
        ap (λ m. map.get m imsi) (records_from-append no_records copy.front.updates pending)
        ∙ (unconcerned (records_of copy.front.updates) pending imsi others ∙ ap (λ m. map.get m imsi) (sym is.records))
        ))
