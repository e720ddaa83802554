-- Segments of a script, and the calls among its records.
use Rattle.std.proofs.Common.{arith, ◌≡◌, ◌≢◌, ◌∙◌, refl, sym, ap, subst, Bool, true, false, ℕ, suc, ◌+◌, ◌≤◌, ◌%◌}
use Rattle.std.proofs.Common.{◌==◌, List, [], ◌∷◌, ◌++◌, append_assoc, append-nil, length, map}
use Rattle.std.proofs.Math.Bool.{cond}
use Rattle.std.proofs.lemmas.List.Elements.{filter-append}
use Rattle.std.specs.List.{filter}
use Rattle.camel_audit.specs.declared.transcript.Job.{Job}
use Rattle.camel_tbcd.specs.declared.profile.Profile.{Profile}
use Rattle.camel_rows.specs.Decision.{EventData}
use Rattle.camel_rows.specs.Store.{Updates}
use Rattle.camel_script.specs.Line.{line_text}
use Rattle.camel_script.specs.declared.record.Record.{Record}
use Rattle.camel_script.specs.declared.record.Record.TheVariants as script_record
use Rattle.camel_script_replay.proofs.StoreLemmas.{published-after_submission}
use Rattle.camel_script_replay.specs.Output.{updates_from, line_of, output_from, updates_after}
use Rattle.camel_replay_lib.specs.Rounds.{IsSegment, jobs_for, jobs_from}
use Rattle.camel_replay_lib.specs.ThreadsOutput.{Call, calls_from, calls_of, is_no_call, next_front}

pub jobs_from-append : (number : ℕ) (xs ys : List Record)
    → jobs_from number (xs ++ ys) ≡ jobs_from number xs ++ jobs_from (number + length (jobs_from number xs)) ys
jobs_from-append number [] ys = let same : number ≡ number + 0 = omega arith in ap (λ n. jobs_from n ys) same
jobs_from-append number (script_record.Call event ∷ xs) ys =
    let next : number + 1 + length (jobs_from (number + 1) xs) ≡ number + suc (length (jobs_from (number + 1) xs)) = omega arith in
    ap (λ (jobs : List Job). record { call = number; event = event } ∷ jobs)
    (jobs_from-append (number + 1) xs ys ∙ ap (λ n. jobs_from (number + 1) xs ++ jobs_from n ys) next)
jobs_from-append number (script_record.Update update ∷ xs) ys = jobs_from-append number xs ys
jobs_from-append number (script_record.Publish ∷ xs) ys = jobs_from-append number xs ys
jobs_from-append number (script_record.Refused why ∷ xs) ys = jobs_from-append number xs ys

-- the calls are no more than the records
pub jobs_from-length : (number : ℕ) (xs : List Record) → length (jobs_from number xs) ≤ length xs
jobs_from-length number [] = omega arith
jobs_from-length number (script_record.Call event ∷ xs) = let rest = jobs_from-length (number + 1) xs in omega (arith, rest)
jobs_from-length number (script_record.Update update ∷ xs) = let rest = jobs_from-length number xs in omega (arith, rest)
jobs_from-length number (script_record.Publish ∷ xs) = let rest = jobs_from-length number xs in omega (arith, rest)
jobs_from-length number (script_record.Refused why ∷ xs) = let rest = jobs_from-length number xs in omega (arith, rest)

-- the publication that ends a segment is the next one after each of its calls
next_front-segment : (limit : ℕ) (updates : Updates) (xs left : List Record) → IsSegment xs left
    → next_front limit updates (xs ++ left) ≡ length (updates_from limit updates xs).published
next_front-segment limit updates [] left is = ap (next_front limit updates) is
next_front-segment limit updates (script_record.Publish ∷ xs) left is = rw is refl
next_front-segment limit updates (script_record.Update update ∷ xs) left is =
    next_front-segment limit (updates_after limit updates (script_record.Update update)) xs left is
next_front-segment limit updates (script_record.Call event ∷ xs) left is = next_front-segment limit updates xs left is
next_front-segment limit updates (script_record.Refused why ∷ xs) left is = next_front-segment limit updates xs left is

-- the call of a job, whose answer may have a front between these
abbrev pub call_between : ℕ → ℕ → Job → Call
call_between least most job = record { number = job.call; event = job.event; least = least; most = most }

-- the calls of a segment have the publications before it and at its end around them
pub calls_from-segment : (limit : ℕ) (updates : Updates) (number least most : ℕ) (xs left : List Record) → IsSegment xs left
    → length updates.published ≡ least → length (updates_from limit updates xs).published ≡ most
    → calls_from limit updates number (xs ++ left)
    ≡ map (call_between least most) (jobs_from number xs) ++ calls_from limit (updates_from limit updates xs) (number + length (jobs_from number xs)) left
calls_from-segment limit updates number least most [] left is before after =
    let same : number ≡ number + 0 = omega arith in ap (λ n. calls_from limit updates n left) same
calls_from-segment limit updates number least most (script_record.Publish ∷ xs) left is before after =
    let same : number ≡ number + 0 = omega arith in rw is (ap (λ n. calls_from limit (updates_after limit updates script_record.Publish) n left) same)
calls_from-segment limit updates number least most (script_record.Update update ∷ xs) left is before after =
    let next = updates_after limit updates (script_record.Update update) in
    let same : length next.published ≡ least = ap length (published-after_submission updates update _) ∙ before in
    calls_from-segment limit next number least most xs left is same after
calls_from-segment limit updates number least most (script_record.Call event ∷ xs) left is before after =
    let next : number + 1 + length (jobs_from (number + 1) xs) ≡ number + suc (length (jobs_from (number + 1) xs)) = omega arith in
    let later = updates_from limit updates xs in
    let rest = calls_from-segment limit updates (number + 1) least most xs left is before after
    ∙ ap (λ n. map (call_between least most) (jobs_from (number + 1) xs) ++ calls_from limit later n left) next in
    rw (before, next_front-segment limit updates xs left is ∙ after)
    (ap (λ (calls : List Call). record { number = number; event = event; least = least; most = most } ∷ calls) rest)
calls_from-segment limit updates number least most (script_record.Refused why ∷ xs) left is before after =
    calls_from-segment limit updates number least most xs left is before after

map-cond : {A B : Type 0} (f : A → B) (is : Bool) (xs ys : List A) → map f (cond is xs ys) ≡ cond is (map f xs) (map f ys)
map-cond f true xs ys = refl
map-cond f false xs ys = refl

filter-map : {A B : Type 0} (f : A → B) (test : B → Bool) (xs : List A) → filter test (map f xs) ≡ map f (filter (λ x. test (f x)) xs)
filter-map f test [] = refl
filter-map f test (x ∷ xs) = ap (λ ys. cond (test (f x)) (f x ∷ ys) ys) (filter-map f test xs)
    ∙ sym (map-cond f (test (f x)) (x ∷ filter (λ y. test (f y)) xs) (filter (λ y. test (f y)) xs))

-- the calls of a session among those of a segment are those of its jobs
pub calls_of-append : (threads session least most : ℕ) (calls : List Call) (jobs : List Job)
    → calls_of threads session (calls ++ map (call_between least most) jobs)
    ≡ calls_of threads session calls ++ map (call_between least most) (jobs_for threads session jobs)
calls_of-append threads session least most calls jobs =
    filter-append (λ (call : Call). call.number % threads == session) calls (map (call_between least most) jobs)
    ∙ ap (λ (more : List Call). calls_of threads session calls ++ more) (filter-map (call_between least most) _ jobs)

-- the updates are those that the records leave without the calls
pub updates_from-no_calls : (limit : ℕ) (updates : Updates) (xs : List Record)
    → updates_from limit updates (filter is_no_call xs) ≡ updates_from limit updates xs
updates_from-no_calls limit updates [] = refl
updates_from-no_calls limit updates (script_record.Update update ∷ xs) =
    updates_from-no_calls limit (updates_after limit updates (script_record.Update update)) xs
updates_from-no_calls limit updates (script_record.Publish ∷ xs) = updates_from-no_calls limit (updates_after limit updates script_record.Publish) xs
updates_from-no_calls limit updates (script_record.Call event ∷ xs) = updates_from-no_calls limit updates xs
updates_from-no_calls limit updates (script_record.Refused why ∷ xs) = updates_from-no_calls limit updates xs

pub output_from-append : (profile : Profile) (limit : ℕ) (updates : Updates) (xs ys : List Record)
    → output_from profile limit updates (xs ++ ys) ≡ output_from profile limit updates xs ++ output_from profile limit (updates_from limit updates xs) ys
unfolding output_from
output_from-append profile limit updates [] ys = refl
output_from-append profile limit updates (next ∷ xs) ys =
    let after = updates_after limit updates next in
    let line = line_text (line_of profile limit updates next) in
    ap (λ text. line ++ text) (output_from-append profile limit after xs ys)
    ∙ sym (append_assoc line (output_from profile limit after xs) (output_from profile limit (updates_from limit after xs) ys))

pub was_split : {X : Type 0} (done left was all : List X) (next : X) → was ≡ next ∷ left → done ++ was ≡ all → (done ++ next ∷ []) ++ left ≡ all
was_split done left was all next popped whole = append_assoc done (next ∷ []) left ∙ sym (ap (λ xs. done ++ xs) popped) ∙ whole

-- no publication is among these records: a segment behind them makes one with them
abbrev pub IsQuiet : List Record → Type 0
IsQuiet done = (more left : List Record) → IsSegment more left → IsSegment (done ++ more) left

pub IsQuiet-push : (done : List Record) (next : Record) → IsQuiet (next ∷ []) → IsQuiet done → IsQuiet (done ++ next ∷ [])
IsQuiet-push done next one quiet more left is =
    subst (λ (rs : List Record). IsSegment rs left) (sym (append_assoc done (next ∷ []) more)) (quiet (next ∷ more) left (one more left is))

pub calls-push : (number : ℕ) (done : List Record) (event : EventData) → jobs_from number (done ++ script_record.Call event ∷ [])
    ≡ jobs_from number done ++ record { call = number + length (jobs_from number done); event = event } ∷ []
calls-push number done event = jobs_from-append number done (script_record.Call event ∷ [])

pub others-push : (done : List Record) (event : EventData) → filter is_no_call (done ++ script_record.Call event ∷ []) ≡ filter is_no_call done
others-push done event = filter-append is_no_call done (script_record.Call event ∷ []) ∙ append-nil (filter is_no_call done)

-- a record that is neither a call nor a publication
pub record IsOther (next : Record) : Type 0 where
  pub no_call : is_no_call next ≡ true
  pub no_jobs : (number : ℕ) → jobs_from number (next ∷ []) ≡ []
  pub quiet : IsQuiet (next ∷ [])

pub is_other : (next : Record) → ((event : EventData) → next ≢ script_record.Call event) → next ≢ script_record.Publish → IsOther next
is_other (script_record.Update update) no_call no_publish = record { no_call = refl; no_jobs = λ number. refl; quiet = λ more left is. is }
is_other (script_record.Refused why) no_call no_publish = record { no_call = refl; no_jobs = λ number. refl; quiet = λ more left is. is }
is_other (script_record.Call event) no_call no_publish = absurd (no_call event refl)
is_other script_record.Publish no_call no_publish = absurd (no_publish refl)

pub no_calls-push : (number : ℕ) (done : List Record) (next : Record) → ((n : ℕ) → jobs_from n (next ∷ []) ≡ [])
    → jobs_from number (done ++ next ∷ []) ≡ jobs_from number done
no_calls-push number done next none =
    let jobs = jobs_from number done in
    jobs_from-append number done (next ∷ []) ∙ ap (λ (more : List Job). jobs ++ more) (none (number + length jobs)) ∙ append-nil jobs

pub filter-push : (done : List Record) (next : Record) → is_no_call next ≡ true → filter is_no_call (done ++ next ∷ []) ≡ filter is_no_call done ++ next ∷ []
filter-push done next is = filter-append is_no_call done (next ∷ []) ∙ ap (λ (test : Bool). filter is_no_call done ++ cond test (next ∷ []) []) is
