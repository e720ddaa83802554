-- What the workers of a round give back, and one round more.
use Rattle.std.proofs.Common.{arith, ◌≡◌, ◌∙◌, refl, sym, ap, ℕ, ◌+◌, ◌≤◌, Option, None, Some, IfSome, IsSomeAnd, All}
use Rattle.std.proofs.Common.{List, [], ◌∷◌, ◌++◌, get_or, length, length-append, map, subst, append_assoc}
use Rattle.std.proofs.lemmas.List.{get_or-map, length-map}
use Rattle.std.proofs.lemmas.List.Elements.{All-cons, All-head, All-nil, All-tail, All-weaker, filter-append}
use Rattle.std.specs.List.{AllZip, filter}
use Rattle.camel_audit.specs.declared.transcript.Entry.{Entry}
use Rattle.camel_audit.specs.declared.transcript.Job.{Job}
use Rattle.camel_rows.specs.Update.{Extends}
use Rattle.camel_rows.specs.declared.subscriber.update.Update.{Update}
use Rattle.camel_rows.specs.declared.trigger.outcome.Answer.{Answer}
use Rattle.camel_vlr.proofs.SessionLemmas.{all_last}
use Rattle.camel_vlr.specs.History.{PrefixData, StoreId}
use Rattle.camel_vlr.specs.Store.{Run, SessionData, StoreData, fresh_session}
use Rattle.camel_audit.specs.Serves.{answer_in, event_in, job_of}
use Rattle.camel_replay_lib.proofs.SegmentLemmas.{call_between, calls_from-segment, calls_of-append, jobs_from-append}
use Rattle.camel_replay_lib.proofs.SegmentLemmas.{output_from-append, updates_from-no_calls}
use Rattle.camel_replay_lib.specs.Rounds.{FrontIsAtLeast, FrontIsAtMost, IsJoined, IsOfStore, IsWorkerOf, ServesJobs}
use Rattle.camel_replay_lib.specs.Rounds.{ServesSeat, AreNumbered, HasAnswered, HasNoEntries, entries_in, session_in}
use Rattle.camel_replay_lib.specs.Rounds.{jobs_for, ServesRound, WritesLines, IsNewWriter, WritesScript, IsSegment}
use Rattle.camel_replay_lib.specs.Rounds.{jobs_from, WriterData}
use Rattle.camel_replay_lib.specs.ThreadsOutput.{AnswersCall, Call, SessionsAnswer, calls_from, is_no_call}
use Rattle.camel_replay_lib.specs.ThreadsOutput.{script_calls}
use Rattle.camel_replay_lib.specs.declared.threaded_replay.round.ServedOf.{ServedOf}
use Rattle.camel_replay_lib.specs.declared.threaded_replay.round.Worker.{Worker}
use Rattle.camel_replay_lib.specs.declared.threaded_replay.seat.Seat.{Seat}
use Rattle.camel_tbcd.specs.declared.profile.Profile.{Profile}
use Rattle.camel_rows.specs.Store.{Updates, no_updates}
use Rattle.camel_script.specs.declared.record.Record.{Record}
use Rattle.camel_script_replay.proofs.StoreLemmas.{updates_from-append}
use Rattle.camel_script_replay.specs.Output.{updates_from, output, output_from}

-- What the workers of a round give back, put together.

pub AllZip-append : {A B : Type 0} (R : A → B → Type 0) (xs : List A) (ys : List B) (more : List A) (more' : List B) → AllZip R xs ys → AllZip R more more'
    → AllZip R (xs ++ more) (ys ++ more')
AllZip-append R [] [] more more' first second = second
AllZip-append R [] (y ∷ ys) more more' first second = absurd first
AllZip-append R (x ∷ xs) [] more more' first second = absurd first
AllZip-append R (x ∷ xs) (y ∷ ys) more more' first second = (first.0, AllZip-append R xs ys more more' first.1 second)

-- what holds of the pairs of two lists, and of those of the second and a third, holds of those of the first and the
-- third
pub AllZip-trans : {A B C : Type 0} (R : A → B → Type 0) (S : B → C → Type 0) (T : A → C → Type 0) → ((x : A) (y : B) (z : C) → R x y → S y z → T x z)
    → (xs : List A) (ys : List B) (zs : List C) → AllZip R xs ys → AllZip S ys zs → AllZip T xs zs
AllZip-trans R S T both [] [] [] first second = tt
AllZip-trans R S T both [] [] (z ∷ zs) first second = absurd second
AllZip-trans R S T both [] (y ∷ ys) zs first second = absurd first
AllZip-trans R S T both (x ∷ xs) [] zs first second = absurd first
AllZip-trans R S T both (x ∷ xs) (y ∷ ys) [] first second = absurd second
AllZip-trans R S T both (x ∷ xs) (y ∷ ys) (z ∷ zs) first second = (both x y z first.0 second.0, AllZip-trans R S T both xs ys zs first.1 second.1)

-- what holds of each item of the first list gives what holds of each of the second
pub AllZip-All : {A B : Type 0} (R : A → B → Type 0) (P : A → Type 0) (Q : B → Type 0) → ((x : A) (y : B) → R x y → P x → Q y)
    → (xs : List A) (ys : List B) → AllZip R xs ys → All P xs → All Q ys
AllZip-All R P Q gives [] [] pairs all = All-nil Q
AllZip-All R P Q gives [] (y ∷ ys) pairs all = absurd pairs
AllZip-All R P Q gives (x ∷ xs) [] pairs all = absurd pairs
AllZip-All R P Q gives (x ∷ xs) (y ∷ ys) pairs all =
    All-cons Q y ys (gives x y pairs.0 (All-head P x xs all)) (AllZip-All R P Q gives xs ys pairs.1 (All-tail P x xs all))

pub AllZip-numbered : (R : Seat → Seat → Type 0) → ((x y : Seat) → R x y → y.number ≡ x.number)
    → (number : ℕ) (xs ys : List Seat) → AllZip R xs ys → AreNumbered number xs → AreNumbered number ys
AllZip-numbered R same number [] [] pairs numbered = tt
AllZip-numbered R same number [] (y ∷ ys) pairs numbered = absurd pairs
AllZip-numbered R same number (x ∷ xs) [] pairs numbered = absurd pairs
AllZip-numbered R same number (x ∷ xs) (y ∷ ys) pairs numbered = (same x y pairs.0 ∙ numbered.0, AllZip-numbered R same (number + 1) xs ys pairs.1 numbered.1)

-- a front that extends another is not shorter
longer : (front earlier : List Update) → Extends front earlier → length earlier ≤ length front
longer front earlier (rest, split) = omega (arith, ap length split, length-append earlier rest)

-- jobs that are answered over fronts between two publications are calls that are answered so
pub Answers-between : (least most : ℕ) (entries : List Entry) → All (FrontIsAtLeast least) entries → All (FrontIsAtMost most) entries
    → AllZip AnswersCall (map (call_between least most) (map job_of entries)) entries
Answers-between least most [] above below = tt
Answers-between least most (entry ∷ entries) above below = (
  record {
    number = refl;
    event = refl;
    least = All-head (FrontIsAtLeast least) entry entries above;
    most = All-head (FrontIsAtMost most) entry entries below;
  },
  Answers-between least most entries (All-tail (FrontIsAtLeast least) entry entries above) (All-tail (FrontIsAtMost most) entry entries below),
)

-- the sessions that have answered their calls are all of them
pub SessionsAnswer-numbered : (threads number : ℕ) (calls : List Call) (seats : List Seat) → AreNumbered number seats → All (HasAnswered threads calls) seats
    → SessionsAnswer threads number calls (map entries_in seats)
SessionsAnswer-numbered threads number calls [] numbered answered = tt
SessionsAnswer-numbered threads number calls (seat ∷ seats) numbered answered = (
  rw (← numbered.0) (All-head (HasAnswered threads calls) seat seats answered),
  SessionsAnswer-numbered threads (number + 1) calls seats numbered.1 (All-tail (HasAnswered threads calls) seat seats answered),
)

-- each front extends the one of the receipt that the session learnt last
pub reaches-told : (store : StoreId) (seen : List Update) (told : List (List Update)) (receipt : List Update) (entries : List Entry)
    (fronts : List (List Update)) → Run store seen (told ++ receipt ∷ []) (map event_in entries) (map answer_in entries) fronts
    → All (FrontIsAtLeast (length receipt)) entries
reaches-told store seen told receipt [] fronts run = All-nil (FrontIsAtLeast (length receipt))
reaches-told store seen told receipt (entry ∷ entries) [] run = absurd run
reaches-told store seen told receipt (entry ∷ entries) (front ∷ fronts) run =
    let reaches = longer front receipt (all_last front told receipt run.0.reaches) in
    let count : entry.answer.front ≡ length front = ap (λ (answer : Answer). answer.front) run.0.decided in
    All-cons (FrontIsAtLeast (length receipt)) entry entries (rw count reaches) (reaches-told store front told receipt entries fronts run.1)

pub AreNumbered-push : (number : ℕ) (seats : List Seat) (seat : Seat) → AreNumbered number seats → seat.number ≡ number + length seats
    → AreNumbered number (seats ++ seat ∷ [])
AreNumbered-push number [] seat numbered is = (omega (arith, is), tt)
AreNumbered-push number (first ∷ seats) seat numbered is = (numbered.0, AreNumbered-push (number + 1) seats seat numbered.1 (omega (arith, is)))

-- the calls that no round has answered yet are none
pub HasAnswered-none : (threads : ℕ) (seats : List Seat) → All HasNoEntries seats → All (HasAnswered threads []) seats
HasAnswered-none threads seats empty = All-weaker HasNoEntries (HasAnswered threads []) (λ seat none. rw none tt) seats empty

-- sessions that are each the same are each of this store
pub IsOf-fresh : (store : StoreId) (seats : List Seat) → All (λ (session : SessionData). session ≡ fresh_session store) (map session_in seats)
    → All (IsOfStore store) seats
IsOf-fresh store seats fresh at other small =
    let same : session_in (get_or seats at other) ≡ fresh_session store =
    sym (get_or-map session_in seats at other (session_in other) small) ∙ fresh at (session_in other) (rw (length-map seats session_in) small) in
    ap (λ (session : SessionData). session.store) same

ServesJobs-same : (least least' most : ℕ) (jobs jobs' : List Job) (earlier earlier' later : List Entry) → least ≡ least' → jobs ≡ jobs' → earlier ≡ earlier'
    → ServesJobs least most jobs earlier later → ServesJobs least' most jobs' earlier' later
ServesJobs-same least least' most jobs jobs' earlier earlier' later same same-jobs same-earlier served = rw (← same, ← same-jobs, ← same-earlier) served

-- an option whose value has one property, and which has a value with another
both-of : {X : Type 0} (A B : X → Type 0) (o : Option X) → IfSome o A → IsSomeAnd o B → (x : X) × A x × B x
both-of A B None one other = absurd other
both-of A B (Some x) one other = (x, one, other)

-- a session whose worker was handed its jobs and was joined has served them
pub ServesSeat-joined : (store : StoreData) (threads most : ℕ) (calls : List Job) (seat after : Seat) (worker : Worker)
    → IsWorkerOf (record { store = store.store; updates = store.updates.published }) (jobs_for threads seat.number calls) seat worker
    → IsJoined most worker after → ServesSeat (length store.updates.published) most threads calls seat after
ServesSeat-joined store threads most calls seat after worker is joined =
    let told : PrefixData = record { store = store.store; updates = store.updates.published } in
    let own = jobs_for threads seat.number calls in
    let both = both-of _ _ worker.started is.promise joined.served in
    let promise : ServedOf = both.0.promise in
    let session : promise.session.value ≡ seat.session = both.1.0 in
    let receipt : promise.told.value ≡ told = both.1.1 in
    let jobs : promise.jobs.value.items ≡ own = both.1.2 in
    let least : length promise.told.value.updates ≡ length store.updates.published = ap (λ (r : PrefixData). length r.updates) receipt in
    record {
      number = joined.number ∙ is.number;
      store = both.2.0 ∙ ap (λ (s : SessionData). s.store) session;
      served = ServesJobs-same _ _ most _ _ _ _ after.entries.items least jobs is.entries both.2.1;
    }

-- One round more of a replay with threads.

-- the numbers of calls go on
pub number-more : (done segment : List Record) (first : ℕ) → first ≡ length (jobs_from 0 done)
    → first + length (jobs_from first segment) ≡ length (jobs_from 0 (done ++ segment))
number-more done segment first is =
    let starts : 0 + length (jobs_from 0 done) ≡ first = omega (arith, is) in
    let split : jobs_from 0 (done ++ segment) ≡ jobs_from 0 done ++ jobs_from first segment =
    jobs_from-append 0 done segment ∙ ap (λ n. jobs_from 0 done ++ jobs_from n segment) starts in
    let count = length-append (jobs_from 0 done) (jobs_from first segment) in
    omega (arith, is, count, ap length split)

module _ (profile : Profile) (limit : ℕ) (done segment : List Record) (before after : WriterData)
    (store_profile : before.store.store.profile ≡ profile) (store_limit : before.store.store.limit ≡ limit)
    (so_far : WritesScript profile limit done before) (lines : WritesLines (filter is_no_call segment) before after) where
  updates-more : after.store.updates ≡ updates_from limit before.store.updates segment
  updates-more = lines.updates ∙ rw store_limit (updates_from-no_calls limit before.store.updates segment)

  -- the writer has answered the records of a segment more
  pub WritesScript-more : WritesScript profile limit (done ++ segment) after
  WritesScript-more =
      let earlier = filter is_no_call done in
      let later = filter is_no_call segment in
      let text : after.output ≡ before.output ++ output_from profile limit before.store.updates later = lines.output ∙ rw (store_profile, store_limit) refl in
      let now : before.store.updates ≡ updates_from limit no_updates earlier = so_far.updates ∙ sym (updates_from-no_calls limit no_updates done) in
      record {
        updates = updates-more ∙ ap (λ (u : Updates). updates_from limit u segment) so_far.updates ∙ sym (updates_from-append limit no_updates done segment);
        output_written = text ∙ ap (λ (written : List ℕ). written ++ output_from profile limit before.store.updates later) so_far.output_written
            ∙ ap (λ (u : Updates). output profile limit earlier ++ output_from profile limit u later) now
            ∙ sym (output_from-append profile limit no_updates earlier later)
            ∙ ap (λ (rs : List Record). output profile limit rs) (sym (filter-append is_no_call done segment));
      }

  -- the calls of a segment have the publications before and after the round around them
  pub calls-more : (first : ℕ) (calls : List Call) (whole left : List Record) → IsSegment segment left
      → script_calls limit whole ≡ calls ++ calls_from limit (updates_from limit no_updates done) first (segment ++ left)
      → script_calls limit whole
      ≡ (calls ++ map (call_between (length before.store.updates.published) (length after.store.updates.published)) (jobs_from first segment))
      ++ calls_from limit (updates_from limit no_updates (done ++ segment)) (first + length (jobs_from first segment)) left
  calls-more first calls whole left is split =
      let least = length before.store.updates.published in
      let most = length after.store.updates.published in
      let start = updates_from limit no_updates done in
      let more = map (call_between least most) (jobs_from first segment) in
      let number = first + length (jobs_from first segment) in
      let starts : length start.published ≡ least = ap (λ (u : Updates). length u.published) (sym so_far.updates) in
      let ends : length (updates_from limit start segment).published ≡ most =
      ap (λ (u : Updates). length (updates_from limit u segment).published) (sym so_far.updates)
      ∙ ap (λ (u : Updates). length u.published) (sym updates-more) in
      split ∙ ap (λ (cs : List Call). calls ++ cs) (calls_from-segment limit start first least most segment left is starts ends
      ∙ ap (λ (u : Updates). more ++ calls_from limit u number left) (sym (updates_from-append limit no_updates done segment)))
      ∙ sym (append_assoc calls more (calls_from limit (updates_from limit no_updates (done ++ segment)) number left))

-- a session has answered its calls of a segment too
HasAnswered-seat : (threads least most : ℕ) (calls : List Call) (jobs : List Job) (before after : Seat) → ServesSeat least most threads jobs before after
    → HasAnswered threads calls before → HasAnswered threads (calls ++ map (call_between least most) jobs) after
HasAnswered-seat threads least most calls jobs before after is had =
    let own = jobs_for threads before.number jobs in
    let answered : AllZip AnswersCall (map (call_between least most) own) is.served.entries =
    subst (λ (js : List Job). AllZip AnswersCall (map (call_between least most) js) is.served.entries) is.served.jobs_served
    (Answers-between least most is.served.entries is.served.at_least is.served.at_most) in
    rw (is.number, calls_of-append threads before.number least most calls jobs, is.served.kept)
    (AllZip-append AnswersCall _ before.entries.items _ is.served.entries had answered)

pub HasAnswered-more : (before after : Updates) (threads : ℕ) (calls : List Call) (jobs : List Job) (seats served : List Seat) → length seats ≡ threads
    → ServesRound before after jobs seats served → All (HasAnswered threads calls) seats
    → All (HasAnswered threads (calls ++ map (call_between (length before.published) (length after.published)) jobs)) served
HasAnswered-more before after threads calls jobs seats served count round had =
    let least = length before.published in
    let most = length after.published in
    AllZip-All (ServesSeat least most threads jobs) (HasAnswered threads calls) (HasAnswered threads (calls ++ map (call_between least most) jobs))
    (HasAnswered-seat threads least most calls jobs) seats served (subst (λ (n : ℕ). AllZip (ServesSeat least most n jobs) seats served) count round) had

pub IsOf-more : (store : StoreId) (least most threads : ℕ) (jobs : List Job) (seats served : List Seat)
    → AllZip (ServesSeat least most threads jobs) seats served → All (IsOfStore store) seats → All (IsOfStore store) served
IsOf-more store least most threads jobs seats served round all =
    AllZip-All (ServesSeat least most threads jobs) (IsOfStore store) (IsOfStore store) (λ x y is of. is.store ∙ of) seats served round all

-- before the first round nothing is answered
pub WritesScript-none : (profile : Profile) (limit : ℕ) (writer : WriterData) → IsNewWriter writer → WritesScript profile limit [] writer
unfolding output_from
WritesScript-none profile limit writer new = record { updates = new.updates; output_written = new.output }
