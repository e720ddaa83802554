-- The update and the counts of an Insert tell its lists.
use Rattle.std.proofs.Common.{◌≡◌, ◌∙◌, ℕ, List, Option, Some, None, Result, Ok, refl, sym, ap}
use Rattle.camel_criteria.specs.Criteria.{OCriteriaData, TCriteriaData}
use Rattle.camel_criteria.specs.declared.refusal.Refusal.{Refusal}
use Rattle.camel_rows.specs.TdpRow.{o_criteria_set_of, o_csi_of, t_criteria_set_of, vt_csi_of, TdpRowData}
use Rattle.camel_rows.specs.declared.subscriber.update.Update.TheVariants as update
use Rattle.camel_map.specs.Arrival.{count_of, insert_with, kept_in, part_of, Lists, insert_of_lists, list_of}
use Rattle.camel_map.specs.declared.arrival.Arrival.{Arrival}
use Rattle.camel_map.specs.declared.arrival.CapabilityHandling.{CapabilityHandling}
use Rattle.camel_map.specs.declared.items.ReceivedList.{ReceivedList}
use Rattle.camel_map.proofs.Received.Updates.{step}

-- a list that came, or did not
abbrev pub Came : Type 0 → Type 0
Came Item = Option (ReceivedList (List Item))

part_back : {Item : Type 0} (list : Came Item) → part_of (kept_in list) (count_of list) ≡ list
part_back None = refl
part_back (Some list) = refl

-- the lists of an Insert, as its update and its counts have them
pub record Parts (imsi : List ℕ) (lists : Lists) (arrival : Arrival) (own : List ℕ) (o : Option (List TdpRowData))
    (o_criteria : Option (List OCriteriaData)) (vt : Option (List TdpRowData))
    (t_criteria : Option (List TCriteriaData)) : Type 0 where
  pub imsi_is : imsi ≡ own
  pub o_is : list_of o_csi_of lists.o ≡ Ok (part_of o arrival.counts.o)
  pub o_criteria_is : list_of o_criteria_set_of lists.o_criteria
      ≡ Ok (part_of o_criteria arrival.counts.o_criteria)
  pub vt_is : list_of vt_csi_of lists.vt ≡ Ok (part_of vt arrival.counts.vt)
  pub t_criteria_is : list_of t_criteria_set_of lists.t_criteria
      ≡ Ok (part_of t_criteria arrival.counts.t_criteria)

parted : {Item : Type 0} (reading : Result (Came Item) Refusal) (list : Came Item) (kept : Option (List Item)) (count : ℕ)
    → reading ≡ Ok list → kept_in list ≡ kept → count_of list ≡ count
    → reading ≡ Ok (part_of kept count)
parted reading list kept count is same_items same_count = rw (is, ← same_items, ← same_count, part_back list) refl

pub parts : (imsi : List ℕ) (lists : Lists) (arrival : Arrival) (own : List ℕ) (o : Option (List TdpRowData))
    (o_criteria : Option (List OCriteriaData)) (vt : Option (List TdpRowData)) (t_criteria : Option (List TCriteriaData))
    → insert_of_lists imsi lists arrival.capabilities ≡ Ok arrival
    → arrival.update ≡ update.Insert own o o_criteria vt t_criteria
    → Parts imsi lists arrival own o o_criteria vt t_criteria
unfolding insert_of_lists
parts imsi lists arrival own o o_criteria vt t_criteria is said =
    let a = step (list_of o_csi_of lists.o) _ arrival is in
    let b = step (list_of o_criteria_set_of lists.o_criteria) _ arrival a.2 in
    let c = step (list_of vt_csi_of lists.vt) _ arrival b.2 in
    let d = step (list_of t_criteria_set_of lists.t_criteria) _ arrival c.2 in
    let came = d.2 in
    let whole : insert_with imsi a.0 b.0 c.0 d.0 arrival.capabilities ≡ arrival = cc in
    let same : update.Insert imsi (kept_in a.0) (kept_in b.0) (kept_in c.0) (kept_in d.0)
    ≡ update.Insert own o o_criteria vt t_criteria =
    ap (λ (arrival : Arrival). arrival.update) whole ∙ said in record {
      imsi_is = cc;
      o_is = parted _ a.0 o _ a.1 (cc) (ap (λ (arrival : Arrival). arrival.counts.o) whole);
      o_criteria_is = parted _ b.0 o_criteria _ b.1 (cc) (ap (λ (arrival : Arrival). arrival.counts.o_criteria) whole);
      vt_is = parted _ c.0 vt _ c.1 (cc) (ap (λ (arrival : Arrival). arrival.counts.vt) whole);
      t_criteria_is = parted _ d.0 t_criteria _ d.1 (cc) (ap (λ (arrival : Arrival). arrival.counts.t_criteria) whole);
    }

-- what lists bring is an Insert
pub brings_insert : (imsi : List ℕ) (lists : Lists) (capabilities : CapabilityHandling) (arrival : Arrival)
    → ((imsi : List ℕ) (o : Option (List TdpRowData)) (o_criteria : Option (List OCriteriaData))
    (vt : Option (List TdpRowData)) (t_criteria : Option (List TCriteriaData))
    → arrival.update ≡ update.Insert imsi o o_criteria vt t_criteria → ⊥)
    → insert_of_lists imsi lists capabilities ≡ Ok arrival → ⊥
unfolding insert_of_lists
brings_insert imsi lists capabilities arrival other is =
    let a = step (list_of o_csi_of lists.o) _ arrival is in
    let b = step (list_of o_criteria_set_of lists.o_criteria) _ arrival a.2 in
    let c = step (list_of vt_csi_of lists.vt) _ arrival b.2 in
    let d = step (list_of t_criteria_set_of lists.t_criteria) _ arrival c.2 in
    let came = d.2 in
    let whole : insert_with imsi a.0 b.0 c.0 d.0 capabilities ≡ arrival = cc in
    other imsi (kept_in a.0) (kept_in b.0) (kept_in c.0) (kept_in d.0)
    (sym (ap (λ (arrival : Arrival). arrival.update) whole))
