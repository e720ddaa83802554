-- Each step, and so each publication, keeps the publication rule.
use base.Growing.{prefix_refl, prefix_trans}
use Rattle.std.proofs.Common.{◌≡◌, ◌∙◌, ◌≢◌, ℕ, List, [], ◌∷◌, ◌++◌, set, sym, refl, subst, ⊎_elim, Some}
use Rattle.std.proofs.Common.{◌+◌, ◌≤◌, length, length-append, fold, ap, arith, append-nil, Result}
use Rattle.std.proofs.Common.{Ok, Err, MatchResult, OnOk}
use mathlib.Core.Option.{some}
use lib.ListN.{get_elem?}
use Rattle.std.proofs.lemmas.Option.{IfSome_then}
use Rattle.std.proofs.lemmas.List.Sums.{fold-append}
use Rattle.atomic_table.proofs.Lists.{at_set, at_snoc}
use Rattle.crossbeam_utils.specs.Register.{Admits, Forks, Merges, TurnsAt}
use Rattle.camel_vlr.specs.History.{PrefixData}
use Rattle.camel_rows.specs.Update.{Extends, IsFront, no_records, records_of, records_from}
use Rattle.camel_vlr.specs.Seat.{IsOfItsFront, AllBehind, IsBehind, IsKept, Knows, Looks, Publishes}
use Rattle.camel_vlr.specs.Seat.{newcomer}
use Rattle.camel_vlr.specs.declared.published_copy.PublishedCopy.{PublishedCopy}
use Rattle.camel_vlr.specs.declared.history.rule.Known.{Known}
use Rattle.camel_rows.proofs.UpdateLemmas.{records_from-append}
use Rattle.camel_vlr.proofs.OperationLemmas.{fold-copy_after, updates_among-front}
use Rattle.camel_vlr.specs.Operation.{copy_after, data_of, updates_among}
use Rattle.camel_vlr.specs.declared.writer.TheConstants.{MAX_UPDATES}
use Rattle.camel_vlr.specs.declared.writer.operation.Operation.{Operation}
use Rattle.camel_vlr.specs.declared.writer.operation.Operation.TheVariants as operation

-- Each step keeps the publication rule.

knows_of : (copy : PublishedCopy) → IsBehind (record { front = Some copy.front }) copy
knows_of copy = (refl, prefix_refl copy.front.updates)

-- what holds of what each seat knows still holds with one of them changed, and with one more
behind_set : (copy : PublishedCopy) (known : List Known) (seat : ℕ) (new : Known) → IsBehind new copy → AllBehind copy known
    → AllBehind copy (set known seat new)
behind_set copy known seat new is all other own at =
    ⊎_elim (λ (t : (other ≡ seat) × (new ≡ own)). subst (λ (w : Known). IsBehind w copy) t.1 is)
    (λ (t : (other ≢ seat) × (get_elem? known other ≡ some own)). all other own t.1) (at_set known seat other new own at)

behind_push : (copy : PublishedCopy) (known : List Known) (new : Known) → IsBehind new copy → AllBehind copy known → AllBehind copy (known ++ new ∷ [])
behind_push copy known new is all other own at =
    ⊎_elim (all other own) (λ (t : new ≡ own). subst (λ (w : Known). IsBehind w copy) t is) (at_snoc known new own other at)

-- ---- the steps

pub admits : Admits IsKept newcomer
admits copy known kept = record { is_of_front = kept.is_of_front; each = behind_push copy known newcomer tt kept.each }

pub looks : (seat : ℕ) (own : Known) (copy : PublishedCopy) → TurnsAt IsKept seat own copy copy Looks
looks seat own copy known kept at = let new : Known = record { front = Some copy.front } in (
  new,
  record { is_of_front = kept.is_of_front; each = behind_set copy known seat new (knows_of copy) kept.each },
  record { is_of_front = kept.is_of_front; behind = kept.each seat own at; known = refl },
)

pub tells : (seat : ℕ) (own : Known) → Forks IsKept seat own own own
tells seat own copy known kept at =
    let is = kept.each seat own at in
    record { is_of_front = kept.is_of_front; each = behind_push copy (set known seat own) own is (behind_set copy known seat own is kept.each) }

pub learns : (seat : ℕ) (own : Known) (other : ℕ) (note : Known) → Merges IsKept seat own other note note newcomer
learns seat own other note copy known kept at apart there =
    let is : IsBehind note copy =
    ⊎_elim (λ (t : (other ≡ seat) × (note ≡ note)). absurd (apart t.0))
    (λ (t : (other ≢ seat) × (get_elem? known other ≡ some note)). kept.each other note t.1) (at_set known seat other note note there) in
    record { is_of_front = kept.is_of_front; each = behind_set copy (set known seat note) other newcomer tt (behind_set copy known seat note is kept.each) }

behind_more : (old new : PublishedCopy) → new.front.store ≡ old.front.store → Extends new.front.updates old.front.updates
    → (own : Known) → IsBehind own old → IsBehind own new
behind_more old new store more own is =
    IfSome_then own.front is (λ front is. (is.0 ∙ sym store, prefix_trans front.updates old.front.updates new.front.updates is.1 more))

pub publishes : (seat : ℕ) (own : Known) (old new : PublishedCopy) → IsOfItsFront new
    → new.front.store ≡ old.front.store → Extends new.front.updates old.front.updates → TurnsAt IsKept seat own old new Publishes
publishes seat own old new is store more known kept at = let next : Known = record { front = Some new.front } in (
  next,
  record { is_of_front = is; each = behind_set new known seat next (knows_of new) (λ other w e. behind_more old new store more w (kept.each other w e)) },
  refl,
)

-- ---- what a session makes of a look

-- One publication keeps the rule.

-- a copy to which all that was pending was applied, its front last, is of that front
pub next_copy : (old new : PublishedCopy) (front : PrefixData) (pending operations : List Operation) → pending ≡ operations ++ operation.Front front ∷ []
    → IsOfItsFront old → front.updates ≡ old.front.updates ++ updates_among pending → IsFront front.store.limit front.updates → front.store.limit ≤ MAX_UPDATES
    → data_of new ≡ fold copy_after (data_of old) pending → (IsOfItsFront new) × (new.front ≡ front)
next_copy old new front pending operations last is updates is_front greatest now =
    let more = updates_among operations in
    let list : front.updates ≡ old.front.updates ++ more =
    updates ∙ ap (λ w. old.front.updates ++ w) (ap updates_among last ∙ updates_among-front operations front) in
    let few : old.count + length more ≤ MAX_UPDATES = omega (arith, is.count, is_front.few, greatest, ap length list, length-append old.front.updates more) in
    let all = now ∙ ap (λ (l : List Operation). fold copy_after (data_of old) l) last
    ∙ fold-append copy_after (data_of old) operations (operation.Front front ∷ []) in
    let each = fold-copy_after (data_of old) operations few in
    let same : new.front ≡ front = ap (λ s. s.2) all in
    let new_list : new.front.updates ≡ old.front.updates ++ more = ap (λ x. x.updates) same ∙ list in (
      record {
        front = subst (λ (x : PrefixData). IsFront x.store.limit x.updates) (sym same) is_front;
        records = ap (λ s. s.0) all ∙ (each.0 ∙ (ap (λ m. records_from m more) is.records
            ∙ (sym (records_from-append no_records old.front.updates more) ∙ ap records_of (sym new_list))));
        count = ap (λ s. s.1) all ∙ (each.1 ∙ (ap (λ (k : ℕ). k + length more) is.count
            ∙ (sym (length-append old.front.updates more) ∙ ap length (sym new_list))));
      },
      same,
    )

pub both_ok : {T E : Type 0} (r : Result T E) (A B A' B' C : Type 0) → MatchResult r (λ _. A) (λ _. B)
    → MatchResult r (λ _. A') (λ _. B') → (A → A' → C) → OnOk r C
both_ok (Ok x) A B A' B' C m n f = f m n
both_ok (Err e) A B A' B' C m n f = tt

pub knows_published : (copy : PublishedCopy) (front : PrefixData) (own : Known) → Publishes own copy copy own → copy.front ≡ front → Knows own front
knows_published copy front own is same =
    subst (λ (v : Known). Knows v front) (sym is) (sym (ap (λ x. x.store) same), ([], append-nil front.updates ∙ sym (ap (λ x. x.updates) same)))
