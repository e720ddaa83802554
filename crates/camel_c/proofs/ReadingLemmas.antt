-- What is read of the data of a caller, up to the Insert of the lists that it sends.
use Rattle.std.proofs.Common.{◌≡◌, ◌∙◌, ℕ, true≢false, refl, sym, ap, subst, inl, inr, arith, suc, Bool, true, false}
use Rattle.std.proofs.Common.{List, [], ◌∷◌, length, ◌≤◌, min}
use Rattle.std.specs.Prelude.{Option, Result, Ok, Err, is_ok, if◌then◌else◌, Some, None, ◌&&◌, nat_le, is_some}
use Rattle.std.proofs.lemmas.Bool.{leb-true}
use Rattle.camel_rows.specs.declared.subscriber.update.Update.{Update}
use Rattle.camel_map.specs.declared.arrival.ItemCounts.{ItemCounts}
use Rattle.camel_c_data.specs.Fields.{data_fault_code, IsMemory, or_refused, imsi_in, is_set}
use Rattle.camel_reading.specs.Reading.{ReadsAs, each_of}
use Rattle.camel_c_data.specs.declared.data_fault.DataFault.{DataFault}
use Rattle.camel_c.specs.Submission.{ReadsAndSubmits, Submits}
use Rattle.camel_c.specs.Updates.{Makes, ReadsAndMakes, counted, with_counts, HoldsLists, counts_in, TellsCounts}
use Rattle.camel_c.specs.Updates.{parts_of}
use Rattle.camel_c.specs.declared.object.Object.{Object}
use Rattle.camel_criteria.specs.declared.refusal.Refusal.{Refusal}
use Rattle.camel_reading.proofs.StepLemmas.{step_ok}
use Rattle.camel_map.specs.Arrival.{count_of, kept_in, list_of, IsOfLists, insert_of_lists}
use Rattle.camel_c_data.specs.Update.{few_of, sent_list, o_entry_in, t_entry_in, entries_in, rows_in, insert_in}
use Rattle.camel_criteria.specs.Criteria.{OCriteriaData, TCriteriaData}
use Rattle.camel_rows.specs.TdpRow.{o_criteria_set_of, o_csi_of, t_criteria_set_of, vt_csi_of, TdpRowData, kept_of}
use Rattle.camel_rows.specs.TdpRow.{kept_unless, list_refusal}
use Rattle.camel_ber.specs.Elements.{◌>>=◌}
use Rattle.camel_criteria.specs.DetectionPoint.{o_detection_points, vt_detection_points}
use Rattle.camel_c_data.specs.declared.imsi.CamelImsi.{CamelImsi}
use Rattle.camel_c_data.specs.declared.update.CamelLists.{CamelLists}
use Rattle.camel_map.specs.declared.arrival.Arrival.{Arrival}
use Rattle.camel_rows.specs.declared.subscriber.update.Update.TheVariants as update

-- Submissions of data: what is read, and what the fields of the caller are.

value_or : {A E : Type 0} → A → Result A E → A
value_or other (Ok value) = value
value_or other (Err fault) = other

pub same_value : {A E : Type 0} (a b : A) → ◌≡◌ {A = Result A E} (Ok a) (Ok b) → a ≡ b
unfolding value_or
same_value a b e = ap (value_or a) e

pub no_fault : {A E : Type 0} (a : A) (b : E) → ◌≡◌ {A = Result A E} (Ok a) (Err b) → ⊥
no_fault a b e = true≢false (ap is_ok e)

-- what is submitted as read is submitted as the fields are, unless memory was refused
pub submits_as : (read reading : Result Update DataFault) (status : ℕ) (before after : Option Object)
    → ReadsAs IsMemory read reading → Submits read status before after → ReadsAndSubmits reading status before after
submits_as (Ok update) reading status before after is as_read =
    inl (subst (λ (r : Result Update DataFault). Submits r status before after) (sym is) as_read)
submits_as (Err fault) reading status before after (inr is) as_read =
    inl (subst (λ (r : Result Update DataFault). Submits r status before after) (sym is) as_read)
submits_as (Err fault) reading status before after (inl memory) as_read =
    let refused : status ≡ 102 = as_read.faulty fault refl ∙ ap data_fault_code memory in
    inr (refused, as_read.unchanged (λ done. omega (arith, done, refused)))

-- what is made as read is made as the fields are, unless memory was refused
pub makes_as : (counts : ItemCounts) (read reading : Result Update DataFault) (status : ℕ) (before after : Option Object)
    → ReadsAs IsMemory read reading → Makes (counted counts read) status before after
    → ReadsAndMakes (counted counts reading) status before after
makes_as counts (Ok update) reading status before after is as_read =
    inl (subst (λ (r : Result Update DataFault). Makes (counted counts r) status before after) (sym is) as_read)
makes_as counts (Err fault) reading status before after (inr is) as_read =
    inl (subst (λ (r : Result Update DataFault). Makes (counted counts r) status before after) (sym is) as_read)
makes_as counts (Err fault) reading status before after (inl memory) as_read =
    let refused : status ≡ 102 = as_read.faulty fault refl ∙ ap data_fault_code memory in
    inr (refused, as_read.unchanged (λ done. omega (arith, done, refused)))

-- Steps of a reading that have a value.

pub each_of-length : {A S : Type 0} (value_of : S → Result A DataFault) (items : List S) (values : List A)
    → each_of value_of items ≡ Ok values → length values ≡ length items
unfolding each_of
each_of-length value_of [] values is = ap (λ (l : List _). length l) (sym (same_value [] values is))
each_of-length value_of (item ∷ more) values is =
    let one = step_ok (value_of item) _ values is in
    let rest = step_ok (each_of value_of more) _ values one.2 in
    ap (λ (l : List _). length l) (sym (same_value (one.0 ∷ rest.0) values rest.2))
    ∙ ap suc (each_of-length value_of more rest.0 rest.1)

pub few_ok : {A : Type 0} (few : Bool) (reading : Result A DataFault) (fault : DataFault) (value : A)
    → (if few then reading else Err fault) ≡ Ok value → reading ≡ Ok value
few_ok true reading fault value is = is
few_ok false reading fault value is = absurd (no_fault value fault (sym is))

pub refused_ok : {A : Type 0} (kept : Result A Refusal) (value : A) → or_refused kept ≡ Ok value → kept ≡ Ok value
refused_ok (Ok kept) value is = ap Ok (same_value kept value is)
refused_ok (Err why) value is = absurd (no_fault value _ (sym is))

-- A list that is sent is one that came.

-- a list that is sent is what is kept of one that came, with the items that are counted
pub record Came {A : Type 0} (kept_of : List A → Result (List A) Refusal) (kept : Option (List A)) (count : ℕ) : Type 0 where
  pub list : Option (List A)
  pub part : (came : _) × (list_of kept_of list ≡ Ok came) × (kept_in came ≡ kept) × (count_of came ≡ count)

none_came : {A : Type 0} (kept_of : List A → Result (List A) Refusal) (kept : Option (List A))
    → ◌≡◌ {A = Result _ DataFault} (Ok None) (Ok kept) → Came kept_of kept 0
none_came kept_of kept is = record { list = None; part = (None, refl, same_value None kept is, refl) }

some_came : {A : Type 0} (kept_of : List A → Result (List A) Refusal) (received left : List A) (kept : Option (List A)) (count : ℕ)
    → kept_of received ≡ Ok left → Some left ≡ kept → length received ≡ count → Came kept_of kept count
some_came kept_of received left kept count same is counted = record {
  list = Some received;
  part = (Some (record { kept = left; count = length received }), rw same refl, is, counted);
}

pub came : {A S : Type 0} (item_in : S → Result A DataFault) (kept_of : List A → Result (List A) Refusal) (is_sent : Bool)
    (items : List S) (kept : Option (List A)) → sent_list item_in kept_of is_sent items ≡ Ok kept
    → Came kept_of kept (if is_sent then length items else 0)
unfolding few_of
came item_in kept_of false items kept is = none_came kept_of kept is
came item_in kept_of true items kept is =
    let received = step_ok (few_of item_in items) _ kept is in
    let left = step_ok (or_refused (kept_of received.0)) _ kept received.2 in
    let each = few_ok _ (each_of item_in items) _ received.0 received.1 in
    some_came kept_of received.0 left.0 kept (length items) (refused_ok (kept_of received.0) left.0 left.1)
    (same_value (Some left.0) kept left.2) (each_of-length item_in items received.0 each)

-- An Insert of lists that came.

pub of_came : (imsi : List ℕ) (counts : ItemCounts) (o : Option (List TdpRowData)) (o_criteria : Option (List OCriteriaData))
    (vt : Option (List TdpRowData)) (t_criteria : Option (List TCriteriaData))
    → Came o_csi_of o counts.o → Came o_criteria_set_of o_criteria counts.o_criteria
    → Came vt_csi_of vt counts.vt → Came t_criteria_set_of t_criteria counts.t_criteria
    → IsOfLists (with_counts counts (update.Insert imsi o o_criteria vt t_criteria))
unfolding insert_of_lists
of_came imsi counts o o_criteria vt t_criteria a b c d = record {
  imsi = imsi;
  lists = record { o = a.list; o_criteria = b.list; vt = c.list; t_criteria = d.list };
  whole = rw (
    a.part.1,
    b.part.1,
    c.part.1,
    d.part.1,
    a.part.2,
    b.part.2,
    c.part.2,
    d.part.2,
    a.part.3,
    b.part.3,
    c.part.3,
    d.part.3,
  ) refl;
}

-- An Insert of received lists has at most ten items in each.

pub step_is : {A B E : Type 0} (step : Result A E) (next : A → Result B E) (whole : B)
    → (step >>= next) ≡ Ok whole → (value : A) × (step ≡ Ok value) × (next value ≡ Ok whole)
step_is (Ok value) next whole is = (value, refl, is)
step_is (Err fault) next whole is = absurd (no_fault whole fault (sym is))

not_refused : {Item : Type 0} (refusal : Option Refusal) (items kept : List Item)
    → kept_unless refusal items ≡ Ok kept → refusal ≡ None
not_refused None items kept is = refl
not_refused (Some why) items kept is = absurd (no_fault kept why (sym is))

is_few : (empty few single : Bool) (one other : Refusal)
    → (if empty then Some one else if few && single then None else Some other) ≡ None → few ≡ true
is_few true few single one other is = absurd (true≢false (ap is_some is))
is_few false true single one other is = refl
is_few false false single one other is = absurd (true≢false (ap is_some is))

few_items : (count : ℕ) (single : Bool) → list_refusal count single ≡ None → count ≤ 10
few_items count single is = let few : nat_le count 10 ≡ true = is_few _ (nat_le count 10) single _ _ is in leb-true count 10 few

-- a list that came has at most ten items
pub came_few : {Item : Type 0} (points : List ℕ) (dp_of : Item → ℕ) (list : Option (List Item)) (came : _)
    → list_of (kept_of points dp_of) list ≡ Ok came → count_of came ≤ 10
came_few points dp_of None came is = subst (λ c. count_of c ≤ 10) (same_value None came is) (omega arith)
came_few points dp_of (Some received) came is =
    let step = step_is (kept_of points dp_of received) _ came is in
    let few : length received ≤ 10 = few_items (length received) _ (not_refused _ _ step.0 step.1) in
    subst (λ c. count_of c ≤ 10) (same_value _ came step.2) few

-- The Insert of the lists that are sent is one of received lists.

pub insert_in-of_lists : (sent : CamelLists) (held : CamelImsi) (made : Update)
    → insert_in sent held ≡ Ok made → IsOfLists (with_counts (counts_in sent) made)
unfolding insert_in rows_in entries_in
insert_in-of_lists sent held made is =
    let imsi = step_ok (imsi_in held) _ made is in
    let o = step_ok (rows_in o_detection_points sent.o) _ made imsi.2 in
    let o_criteria = step_ok (entries_in o_entry_in o_detection_points (λ entry. entry.dp) sent.o) _ made o.2 in
    let vt = step_ok (rows_in vt_detection_points sent.vt) _ made o_criteria.2 in
    let t_criteria = step_ok (entries_in t_entry_in vt_detection_points (λ entry. entry.dp) sent.vt) _ made vt.2 in
    let o_came = came _ _ (is_set sent.o.has_rows) sent.o.rows.now o.0 o.1 in
    let o_criteria_came = came _ _ (is_set sent.o.has_criteria) sent.o.criteria.now o_criteria.0 o_criteria.1 in
    let vt_came = came _ _ (is_set sent.vt.has_rows) sent.vt.rows.now vt.0 vt.1 in
    let t_criteria_came = came _ _ (is_set sent.vt.has_criteria) sent.vt.criteria.now t_criteria.0 t_criteria.1 in
    let same : update.Insert imsi.0 o.0 o_criteria.0 vt.0 t_criteria.0 ≡ made = same_value _ made t_criteria.2 in
    subst (λ (u : Update). IsOfLists (with_counts (counts_in sent) u)) same
    (of_came imsi.0 (counts_in sent) o.0 o_criteria.0 vt.0 t_criteria.0 o_came o_criteria_came vt_came t_criteria_came)

-- what is made of the lists that are sent is held as an Insert of received lists
pub made_lists : (sent : CamelLists) (held : CamelImsi) (read : Result Update DataFault) (status : ℕ)
    (before after : Option Object) → ReadsAs IsMemory read (insert_in sent held)
    → Makes (counted (counts_in sent) read) status before after → status ≡ 0 → HoldsLists after
made_lists sent held (Ok made) status before after is makes done =
    let arrival = with_counts (counts_in sent) made in
    (arrival, ((makes.update arrival refl).filled done).1, insert_in-of_lists sent held made is)
made_lists sent held (Err fault) status before after is makes done = absurd (true≢false (sym (makes.made done)))

-- What is told of the counts of an Insert.

shown_whole : (count : ℕ) → count ≤ 10 → min count 255 ≡ count
shown_whole count few = omega (arith, few)

pub tells_counts : (arrival : Arrival) → IsOfLists arrival → TellsCounts arrival.counts (parts_of arrival)
unfolding insert_of_lists
tells_counts arrival of_lists =
    let lists = of_lists.lists in
    let o = step_is (list_of o_csi_of lists.o) _ arrival of_lists.whole in
    let o_criteria = step_is (list_of o_criteria_set_of lists.o_criteria) _ arrival o.2 in
    let vt = step_is (list_of vt_csi_of lists.vt) _ arrival o_criteria.2 in
    let t_criteria = step_is (list_of t_criteria_set_of lists.t_criteria) _ arrival vt.2 in
    subst (λ (a : Arrival). TellsCounts a.counts (parts_of a)) (same_value _ arrival t_criteria.2) (record {
      o_rows = shown_whole _ (came_few o_detection_points _ lists.o o.0 o.1);
      o_criteria = shown_whole _ (came_few o_detection_points _ lists.o_criteria o_criteria.0 o_criteria.1);
      vt_rows = shown_whole _ (came_few vt_detection_points _ lists.vt vt.0 vt.1);
      t_criteria = shown_whole _ (came_few vt_detection_points _ lists.t_criteria t_criteria.0 t_criteria.1);
    })
