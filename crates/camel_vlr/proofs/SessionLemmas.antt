-- What a session sees, front by front, and what it answers.
use base.Growing.{prefix_trans}
use Rattle.std.proofs.Common.{◌≡◌, ◌∙◌, ◌≤◌, All, List, [], ◌∷◌, ◌++◌, length, refl, sym, ap, arith, append-nil}
use Rattle.std.proofs.Common.{length-append, Bool, Option, Some, IsSomeAnd, is_some, subst, ℕ, true, false, None}
use Rattle.std.proofs.lemmas.List.Elements.{All-head, All-push, All-tail, All-weaker}
use Rattle.std.proofs.lemmas.List.{nil_from_length}
use Rattle.std.proofs.lemmas.List.Sums.{count_by-le-length, length-filter}
use Rattle.std.specs.Option.{option_map}
use Rattle.camel_rows.specs.Update.{Extends, IsFront, value_of, csis_of, csis_refusal, RecordsData, no_records}
use Rattle.camel_rows.specs.Update.{AcceptedFrom, is_of, records_after, record_after, refusal, records_of, records_from}
use Rattle.camel_rows.specs.Update.{update_imsi}
use Rattle.camel_rows.specs.declared.subscriber.update.Update.{Update}
use Rattle.camel_vlr.specs.Store.{ExtendsAll, Sees, Answers, Run, last_seen, LeavesLook, SessionData, DecidedByOwn}
use Rattle.camel_vlr.specs.Store.{own_updates}
use Rattle.camel_vlr.specs.History.{PrefixData, StoreId}
use Rattle.camel_vlr.specs.Seat.{Enters}
use Rattle.camel_vlr.specs.declared.base.seat.Seat.{Ghosts}
use Rattle.camel_vlr.specs.declared.published_copy.PublishedCopy.{PublishedCopy}
use Rattle.camel_rows.specs.Decision.{answer_over, EventData, by_record, decision, event_imsi}
use Rattle.camel_rows.specs.declared.trigger.outcome.Answer.{Answer}
use Rattle.camel_rows.proofs.UpdateLemmas.{value_of-same, other_record, own_record}
use Rattle.std.specs.FinMap as map

-- Fronts that extend others.

pub extends_length : (f g : List Update) → Extends f g → length g ≤ length f
extends_length f g (r, p) = omega (arith, ap length p, length-append g r)

-- a front as long as one that it extends is that one
pub same_front : (f g : List Update) → Extends f g → length f ≡ length g → f ≡ g
same_front f g (r, p) same =
    let none : r ≡ [] = nil_from_length r (omega (arith, same, ap length p, length-append g r)) in
    sym p ∙ ap (λ x. g ++ x) none ∙ append-nil g

pub all_further : (f g : List Update) (earlier : List (List Update)) → Extends f g → ExtendsAll g earlier → ExtendsAll f earlier
all_further f g earlier more all = record { each = All-weaker (Extends g) (Extends f) (λ h is. prefix_trans h g f is more) earlier all.each }

pub all_push : (f : List Update) (earlier : List (List Update)) (h : List Update) → ExtendsAll f earlier → Extends f h → ExtendsAll f (earlier ++ h ∷ [])
all_push f earlier h all more = record { each = All-push (Extends f) earlier h all.each more }

pub all_last : (f : List Update) (earlier : List (List Update)) (h : List Update) → ExtendsAll f (earlier ++ h ∷ []) → Extends f h
all_last f earlier h all = last earlier all.each
  where
    last : (xs : List (List Update)) → All (Extends f) (xs ++ h ∷ []) → Extends f h
    last [] a = All-head (Extends f) h [] a
    last (x ∷ xs) a = last xs (All-tail (Extends f) x (xs ++ h ∷ []) a)

first_of : Update → List Update → Update
first_of none [] = none
first_of none (x ∷ updates) = x

rest_of : List Update → List Update
rest_of [] = []
rest_of (x ∷ updates) = updates

-- of two fronts of one list the longer one extends the other
pub longer_extends : (all short long : List Update) → Extends all short → Extends all long → length short ≤ length long → Extends long short
unfolding first_of rest_of
longer_extends all [] long one other few = (long, refl)
longer_extends all (x ∷ short) [] one other few = absurd (omega (arith, few))
longer_extends all (x ∷ short) (y ∷ long) one other few =
    let same : x ≡ y = ap (first_of x) (one.1 ∙ sym other.1) in
    let more = longer_extends (rest_of all) short long (one.0, ap rest_of one.1) (other.0, ap rest_of other.1) (omega (arith, few)) in
    (more.0, λ i. same i ∷ more.1 i)

-- What a session makes of the copy that its place took.

pub sees : {S : Type 0} (g : Ghosts S) (before after : S) (seen front : PrefixData) (told : List (List Update)) (looked : Bool) (copy : PublishedCopy)
    → IsSomeAnd (g.copy_of after) (Enters g.knows before after) → g.copy_of after ≡ Some copy → g.knows before seen → front ≡ copy.front
    → ExtendsAll front.updates told → Sees (record { store = seen.store; seen = seen.updates; told = told; looks = looked })
    (record { store = front.store; seen = front.updates; told = told; looks = is_some (g.copy_of after) })
sees g before after seen front told looked copy entered there knows same extends =
    let took = subst (λ (o : Option PublishedCopy). IsSomeAnd o (Enters g.knows before after)) there entered in
    let more = took.later seen knows in record {
      looks = ap is_some there;
      store = ap (λ x. x.store) same ∙ sym more.0;
      front = subst (λ (x : PrefixData). IsFront x.store.limit x.updates) (sym same) took.is_of_front.front;
      later = subst (λ (x : PrefixData). Extends x.updates seen.updates) (sym same) more.1;
      told = extends;
      keeps = refl;
    }

-- What a session answers, put together.

-- an event is answered over the front of a look, which is left then
pub Answers-one : (before looking after : SessionData) (event : EventData) (answer : Answer)
    → Sees before looking → answer ≡ answer_over before.store.profile looking.seen event → LeavesLook looking after
    → Answers before (event ∷ []) (answer ∷ []) after
Answers-one before looking after event answer sees decided left =
    let front = subst (λ (s : StoreId). IsFront s.limit looking.seen) sees.store sees.front in
    record {
      fronts = looking.seen ∷ [];
      run = (record { is_front = front; later = sees.later; reaches = sees.told; decided = decided }, tt);
      seen = ap (λ (s : SessionData). s.seen) left;
      told = ap (λ (s : SessionData). s.told) left ∙ sees.keeps;
      store = ap (λ (s : SessionData). s.store) left ∙ sees.store;
    }

pub last_seen-append : (seen : List Update) (fronts later : List (List Update)) → last_seen seen (fronts ++ later) ≡ last_seen (last_seen seen fronts) later
last_seen-append seen [] later = refl
last_seen-append seen (front ∷ fronts) later = last_seen-append front fronts later

-- the second run goes on at the front that the first one saw last
Run-append : (store : StoreId) (seen : List Update) (told : List (List Update)) (events next : List EventData) (answers more : List Answer)
    (fronts later : List (List Update)) → Run store seen told events answers fronts → Run store (last_seen seen fronts) told next more later
    → Run store seen told (events ++ next) (answers ++ more) (fronts ++ later)
Run-append store seen told [] next [] more [] later first second = second
Run-append store seen told (event ∷ events) next (answer ∷ answers) more (front ∷ fronts) later first second =
    (first.0, Run-append store front told events next answers more fronts later first.1 second)
Run-append store seen told [] next [] more (front ∷ fronts) later first second = absurd first
Run-append store seen told [] next (answer ∷ answers) more fronts later first second = absurd first
Run-append store seen told (event ∷ events) next [] more fronts later first second = absurd first
Run-append store seen told (event ∷ events) next (answer ∷ answers) more [] later first second = absurd first

pub Answers-append : (before mid after : SessionData) (events next : List EventData) (answers more : List Answer)
    → Answers before events answers mid → Answers mid next more after → Answers before (events ++ next) (answers ++ more) after
Answers-append before mid after events next answers more first second =
    record {
      fronts = first.fronts ++ second.fronts;
      run = Run-append before.store before.seen before.told events next answers more first.fronts second.fronts first.run
          (rw (← first.seen, ← first.told, ← first.store) second.run);
      seen = second.seen ∙ ap (λ seen. last_seen seen second.fronts) first.seen ∙ sym (last_seen-append before.seen first.fronts second.fronts);
      told = second.told ∙ first.told;
      store = second.store ∙ first.store;
    }

-- What the updates of one subscriber leave by themselves.

-- what refuses an update is its own subscriber's record
same_refusal : (m n : RecordsData) (update : Update) → value_of m (update_imsi update) ≡ value_of n (update_imsi update) → refusal m update ≡ refusal n update
same_refusal m n update same = ap (λ old. csis_refusal (option_map csis_of old) update) same

-- from the same record on, a subscriber's own updates are accepted if they are among others, and leave the same record
record OwnLeave (imsi : List ℕ) (m n : RecordsData) (updates : List Update) : Type 0 where
  accepted : AcceptedFrom n (own_updates imsi updates)
  leaves : map.get (records_from m updates) imsi ≡ map.get (records_from n (own_updates imsi updates)) imsi

own_leave : (imsi : List ℕ) (m n : RecordsData) (updates : List Update) → AcceptedFrom m updates → map.get m imsi ≡ map.get n imsi → OwnLeave imsi m n updates
own_leave imsi m n [] accepted same = record { accepted = tt; leaves = same }
own_leave imsi m n (update ∷ updates) accepted same =
    by_test (λ k next. own_leave imsi (records_after m update) k updates accepted.1 next) (is_of imsi update) refl
  where
    by_test : ((k : RecordsData) → map.get (records_after m update) imsi ≡ map.get k imsi → OwnLeave imsi (records_after m update) k updates)
        → (b : Bool) → is_of imsi update ≡ b → OwnLeave imsi m n (update ∷ updates)
    by_test further true e =
        let there = value_of-same m n (update_imsi update) imsi e same in
        let free : refusal n update ≡ None = sym (same_refusal m n update there) ∙ accepted.0 in
        let next : map.get (records_after m update) imsi ≡ map.get (records_after n update) imsi =
        own_record m update imsi e accepted.0 ∙ ap (λ old. record_after old update) there ∙ sym (own_record n update imsi e free) in
        let rest = further (records_after n update) next in
        record { accepted = rw e (free, rest.accepted); leaves = rw e rest.leaves }
    by_test further false e =
        let rest = further n (other_record m update imsi e ∙ same) in
        record { accepted = rw e rest.accepted; leaves = rw e rest.leaves }

pub decided_by_own : (store : StoreId) (front : List Update) (event : EventData) → IsFront store.limit front
    → DecidedByOwn store front event (decision store.profile (records_of front) event)
decided_by_own store front event is =
    let is_own : Update → Bool = is_of (event_imsi event) in
    let own = own_leave (event_imsi event) no_records no_records front is.accepted refl in record {
      own_front = record { accepted = own.accepted; few = omega (arith, is.few, length-filter is_own front, count_by-le-length is_own front) };
      decision = ap (by_record store.profile event) own.leaves;
    }
