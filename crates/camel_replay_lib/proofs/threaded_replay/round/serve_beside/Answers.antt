use Rattle.std.proofs.Common.{length, subst}
use Rattle.std.proofs.lemmas.Result.{IfOk-weaker}
use Rattle.std.specs.List.{AllZip}
use Rattle.camel_replay_lib.proofs.RoundLemmas.{AllZip-trans, ServesSeat-joined}
use Rattle.camel_replay_lib.specs.Rounds.{AreWorkersOf, IsJoined, IsWorkerOf, ServesSeat, jobs_for}
use Rattle.camel_replay_lib.specs.declared.threaded_replay.seat.Seat.{Seat}
use Rattle.camel_replay_lib.proofs.threaded_replay.round.serve_beside.Goals as goal

pub returns-clause-seats : goal.returns-clause-seats
returns-clause-seats g c =
    let store = c.args.writer.now.store in
    let seats = c.args.seats.items in
    let calls = c.args.segment.calls.items in
    let threads = length seats in
    let most = length c.answer_all.new.self.store.updates.published in
    let workers = c.in_ok-workers.workers.items in
    let are = subst (λ js. AreWorkersOf store threads js seats workers) c.deref.ensures.value c.in_ok-workers.ensures in
    IfOk-weaker c.join_all.result _ _
    (λ after joined. AllZip-trans
    (λ (s : Seat). IsWorkerOf (record { store = store.store; updates = store.updates.published }) (jobs_for threads s.number calls) s)
    (IsJoined most) (ServesSeat (length store.updates.published) most threads calls)
    (λ seat worker done is was. ServesSeat-joined store threads most calls seat done worker is was)
    seats workers after.items are (subst (λ n. AllZip (IsJoined n) workers after.items) c.front.ensures joined))
    c.join_all.ensures
