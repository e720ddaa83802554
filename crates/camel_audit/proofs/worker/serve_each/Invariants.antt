use Rattle.std.proofs.Common.{◌≡◌, ◌≤◌, false, length, map, take, vec_capacity}
use Rattle.camel_vlr.specs.Store.{Answers}
use Rattle.camel_audit.specs.Serves.{answer_in, event_in, job_of}
use Rattle.camel_audit.proofs.worker.serve_each.Given as goal

-- the jobs so far are answered, and there is room for the others
abbrev pub invariant-loop-job : goal.invariant-loop-job
invariant-loop-job g l = record {
  count : length l.entries.items ≡ l.job-index;
  jobs : map job_of l.entries.items ≡ take l.job-index l.jobs;
  answers : Answers l.fn.session (map event_in l.entries.items) (map answer_in l.entries.items) l.session;
  looks : l.fn.session.looks ≡ false → l.session.looks ≡ false;
  room : length l.jobs ≤ vec_capacity l.entries;
}
