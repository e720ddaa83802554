use Rattle.std.proofs.Common.{arith, ◌≡◌, ◌∙◌, ◌+◌, ◌++◌, [], ◌∷◌, ap, append_assoc, length-append, take}
use Rattle.std.proofs.lemmas.Grind.{take_at_read}
use Rattle.camel_vlr.proofs.SessionLemmas.{Answers-append}
use Rattle.camel_vlr.proofs.session.Session.answer_all.Goals as goal

pub loop-event-preserved : goal.loop-event-preserved
loop-event-preserved g c =
    let so_far = c.loop-event.invariant in
    let answer = c.in-Ok.answer in
    let event = c.event-item.result in
    let first = take c.loop-event.event-index c.args.events.now in
    let more : take (c.loop-event.event-index + 1) c.args.events.now ≡ first ++ event ∷ [] = grind (arith, take_at_read) in
    rw more record {
      new = so_far.new ++ answer ∷ [];
      count = omega (arith, so_far.count, length-append so_far.new (answer ∷ []));
      appended = c.push_reserved.ensures.items ∙ ap (λ items. items ++ answer ∷ []) so_far.appended
          ∙ append_assoc c.args.answers.now.items so_far.new (answer ∷ []);
      run = Answers-append c.args.self.now c.loop-event.self c.answer.new.self first (event ∷ []) so_far.new (answer ∷ []) so_far.run c.in-Ok.ensures.answers;
      looks = λ _. c.in-Ok.ensures.looks;
      room = omega (arith, so_far.room, c.push_reserved.ensures.capacity);
    }
