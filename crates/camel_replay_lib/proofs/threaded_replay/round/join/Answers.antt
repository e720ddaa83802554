use Rattle.std.proofs.Common.{rules, arith, ◌≡◌, ◌≢◌, ◌∙◌, ◌++◌, All, length, refl, ap, take_all}
use Rattle.camel_replay_lib.proofs.RoundLemmas.{reaches-told}
use Rattle.camel_replay_lib.specs.Rounds.{FrontIsAtMost}
use Rattle.camel_replay_lib.specs.declared.threaded_replay.round.ServedOf.{ServedOf}
use Rattle.camel_audit.specs.declared.worker.Ended.TheVariants.{All as Answered, OutOfMemory}
use Rattle.camel_replay_lib.proofs.threaded_replay.round.join.Goals as goal

pub returns-clause-joined : goal.returns-clause-joined
returns-clause-joined g c =
    let promise : ServedOf = c.in-Some.handle.promise in
    let served = c.join-session.result in
    let is = c.join-session.ensures in
    let ended : served.ended ≡ Answered = c.in_ok-check_ended.ensures.answered in
    let not_lacking : served.ended ≢ OutOfMemory = λ lacks. absurd (cc) in
    let answers = is.answers not_lacking in
    let session = promise.session.value in
    let entries = served.transcript in
    let shown : c.transcript.inside.entries.items ≡ entries = c.transcript.view_is in
    let within : All (FrontIsAtMost c.args.front) c.transcript.inside.entries.items = search rules in
    let count : length entries ≡ length promise.jobs.value.items = is.all.0 ended in
    rw c.in-Some.is record {
      number = refl;
      served = (
        answers.store,
        record {
          entries = entries;
          kept = c.in_ok-append.ensures.items ∙ ap (λ more. c.args.worker.entries.items ++ more) shown;
          jobs_served = is.jobs_served ∙ take_all (length entries) promise.jobs.value.items (omega (arith, count));
          at_least = reaches-told session.store session.seen session.told promise.told.value.updates entries answers.fronts answers.run;
          at_most = rw (← shown) within;
        },
      );
    }
