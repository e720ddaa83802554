use Rattle.std.proofs.Common.{◌≡◌, ◌++◌, drop}
use Rattle.camel_replay_lib.specs.Rounds.{jobs_for}
use Rattle.camel_replay_lib.proofs.threaded_replay.segment.jobs_for.Given as goal

abbrev pub invariant-loop-job : goal.invariant-loop-job
invariant-loop-job l = l.jobs.items ++ jobs_for l.fn.threads l.fn.session (drop l.job-index l.calls) ≡ jobs_for l.fn.threads l.fn.session l.calls
