use Rattle.std.proofs.Common.{rules, arith, ◌≡◌, ℕ, ◌+◌, ◌++◌, [], ◌∷◌, Some, ap, below_more, length, subst}
use Rattle.std.proofs.lemmas.List.Elements.{All-pop}
use Rattle.camel_audit.specs.Audit.{PassesInPart, is_in_part}
use Rattle.camel_replay_lib.proofs.SessionTaskLemmas.{text_more}
use Rattle.camel_replay_lib.specs.Rounds.{PassesOf, text_of, PartPasses, task_text}
use Rattle.camel_replay_lib.specs.ThreadsOutput.{sessions_text}
use Rattle.camel_replay_lib.specs.declared.threaded_replay.session_lines.Task.{Task}
use Rattle.camel_replay_lib.proofs.threaded_replay.session_lines.start_all.Goals as goal

pub loop-session-preserved : goal.loop-session-preserved
loop-session-preserved g c =
    let so_far = c.loop-session.invariant in
    let thread = c.in_ok-start.field-0 in
    let entries = c.index-transcripts-session.result in
    let profile = c.args.profile in
    let updates = c.args.updates.now in
    let transcripts = c.args.transcripts.now in
    let parts = length transcripts + 1 in
    let pushed : c.push_back.new.self.items ≡ c.loop-session.started.items ++ thread ∷ [] = search rules in
    record {
      lines = rw pushed (text_more text_of c.loop-session.started.items thread c.loop-session.session transcripts entries (sessions_text 0 transcripts)
          (search rules) c.index-transcripts-session.is (ap task_text c.in_ok-start.ensures) so_far.lines);
      parts = λ all.
          let each = All-pop PassesOf c.push_back.new.self.items c.loop-session.started.items (Some thread) pushed all in
          let own = subst (λ (task : Task). PartPasses task) c.in_ok-start.ensures each.1 in
          let here : PassesInPart (is_in_part parts (c.loop-session.session + 1)) profile updates transcripts =
          subst (λ (count : ℕ). PassesInPart (is_in_part count (c.loop-session.session + 1)) profile updates transcripts) c.part_of.ensures.count
          (subst (λ (number : ℕ). PassesInPart (is_in_part c.part_of.result.count number) profile updates transcripts) c.part_of.ensures.number own) in
          below_more (λ session. PassesInPart (is_in_part parts (session + 1)) profile updates transcripts) c.loop-session.session (so_far.parts each.0) here;
    }

pub returns-clause-parts : goal.returns-clause-parts
returns-clause-parts g c = λ all session small. c.loop-session.invariant.parts all session (omega arith)
