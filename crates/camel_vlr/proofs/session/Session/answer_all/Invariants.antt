use Rattle.std.proofs.Common.{◌≡◌, ◌≤◌, ◌+◌, ◌++◌, false, List, length, take, vec_len, vec_capacity}
use Rattle.camel_rows.specs.declared.trigger.outcome.Answer.{Answer}
use Rattle.camel_vlr.specs.Store.{Answers}
use Rattle.camel_vlr.proofs.session.Session.answer_all.Given as goal

-- the answers to the events so far stand behind those that were there, and there is room for the others
abbrev pub invariant-loop-event : goal.invariant-loop-event
invariant-loop-event g l = record {
  new : List Answer;
  count : length new ≡ l.event-index;
  appended : l.answers.items ≡ l.fn.answers.items ++ new;
  run : Answers l.fn.self (take l.event-index l.events) new l.self;
  looks : l.fn.self.looks ≡ false → l.self.looks ≡ false;
  room : vec_len l.fn.answers + length l.events ≤ vec_capacity l.answers;
}
