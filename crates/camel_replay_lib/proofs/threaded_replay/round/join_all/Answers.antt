use Rattle.std.proofs.Common.{rules, ◌≡◌, ◌++◌, [], ◌∷◌}
use Rattle.camel_replay_lib.proofs.RoundLemmas.{AllZip-append}
use Rattle.camel_replay_lib.proofs.SegmentLemmas.{was_split}
use Rattle.camel_replay_lib.specs.Rounds.{IsJoined}
use Rattle.camel_replay_lib.proofs.threaded_replay.round.join_all.Goals as goal

pub workers-preserved : goal.workers-preserved
workers-preserved g c =
    let so_far = c.workers.invariant in
    let worker = c.in-Some.worker in
    let left = c.pop_front.new.self.items in
    let popped : c.workers.workers.items ≡ worker ∷ left = search rules in
    let seat = c.in_ok-seat.seat in
    let pushed : c.push_back.new.self.items ≡ c.workers.seats.items ++ seat ∷ [] = search rules in
    record {
      done = so_far.done ++ worker ∷ [];
      whole = was_split so_far.done left c.workers.workers.items c.args.workers.items worker popped so_far.whole;
      joined = rw pushed
          (AllZip-append (IsJoined c.args.front) so_far.done c.workers.seats.items (worker ∷ []) (seat ∷ []) so_far.joined (c.in_ok-seat.ensures.joined, tt));
    }
