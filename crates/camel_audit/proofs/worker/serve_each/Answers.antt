use Rattle.std.proofs.Common.{arith, ◌≡◌, ◌+◌, ◌++◌, [], ◌∷◌, ap, length-append, map, take}
use Rattle.std.proofs.lemmas.Grind.{take_at_read}
use Rattle.std.proofs.lemmas.List.{map_push}
use Rattle.camel_audit.specs.declared.transcript.Entry.{Entry}
use Rattle.camel_vlr.proofs.SessionLemmas.{Answers-append}
use Rattle.camel_audit.specs.Serves.{answer_in, event_in, job_of}
use Rattle.camel_audit.proofs.worker.serve_each.Goals as goal

pub loop-job-preserved : goal.loop-job-preserved
loop-job-preserved g c =
    let so_far = c.loop-job.invariant in
    let entries = c.loop-job.entries.items in
    let job = c.job-item.result in
    let entry : Entry = record { call = job.call; event = job.event; answer = c.in-Ok.answer } in
    let first = take c.loop-job.job-index c.args.jobs.now in
    let more : take (c.loop-job.job-index + 1) c.args.jobs.now ≡ first ++ job ∷ [] = grind (arith, take_at_read) in
    rw (c.push_reserved.ensures.items, more, map_push job_of entries entry, map_push event_in entries entry, map_push answer_in entries entry) record {
      count = omega (arith, so_far.count, length-append entries (entry ∷ []));
      jobs = ap (λ jobs. jobs ++ job ∷ []) so_far.jobs;
      answers = Answers-append c.args.session.now c.loop-job.session c.answer.new.self (map event_in entries) (job.event ∷ []) (map answer_in entries)
          (c.in-Ok.answer ∷ []) so_far.answers c.in-Ok.ensures.answers;
      looks = λ _. c.in-Ok.ensures.looks;
      room = omega (arith, so_far.room, c.push_reserved.ensures.capacity);
    }
