use Rattle.std.proofs.Common.{rules, ◌≡◌, ◌∙◌, ◌++◌, All, List, [], ◌∷◌, length, ap, subst}
use Rattle.std.proofs.lemmas.List.Elements.{All-tail}
use Rattle.camel_audit.specs.declared.transcript.Job.{Job}
use Rattle.camel_vlr.specs.History.{PrefixData}
use Rattle.camel_replay_lib.proofs.RoundLemmas.{AllZip-append}
use Rattle.camel_replay_lib.proofs.SegmentLemmas.{was_split}
use Rattle.camel_replay_lib.specs.Rounds.{IsOfStore, IsWorkerOf, jobs_for}
use Rattle.camel_replay_lib.specs.declared.threaded_replay.seat.Seat.{Seat}
use Rattle.camel_replay_lib.proofs.threaded_replay.round.start_all.Goals as goal

pub seats-preserved : goal.seats-preserved
seats-preserved g c =
    let so_far = c.seats.invariant in
    let seat = c.in-Some.seat in
    let left = c.pop_front.new.self.items in
    let worker = c.start-worker.result in
    let count = length c.args.seats.items in
    let calls = c.args.calls.now in
    let store = c.args.writer.now.store in
    let told : PrefixData = record { store = store.store; updates = store.updates.published } in
    let popped : c.seats.seats.items ≡ seat ∷ left = search rules in
    let pushed : c.push_back.new.self.items ≡ c.seats.workers.items ++ worker ∷ [] = search rules in
    let threads : c.len-threads.result ≡ count = search rules in
    let jobs : c.in_ok-jobs.jobs.items ≡ jobs_for count seat.number calls = c.in_ok-jobs.ensures ∙ ap (λ n. jobs_for n seat.number calls) threads in
    let is : IsWorkerOf told (jobs_for count seat.number calls) seat worker =
    subst (λ (r : PrefixData). IsWorkerOf r (jobs_for count seat.number calls) seat worker) c.receipt.ensures
    (subst (λ (js : List Job). IsWorkerOf c.receipt.result js seat worker) jobs c.start-worker.ensures) in
    record {
      done = so_far.done ++ seat ∷ [];
      whole = was_split so_far.done left c.seats.seats.items c.args.seats.items seat popped so_far.whole;
      same_store = All-tail (IsOfStore store.store) seat left (subst (All (IsOfStore store.store)) popped so_far.same_store);
      workers = rw pushed (AllZip-append (λ (s : Seat). IsWorkerOf told (jobs_for count s.number calls) s) so_far.done c.seats.workers.items
          (seat ∷ []) (worker ∷ []) so_far.workers (is, tt));
    }
