use Rattle.std.proofs.Common.{rules, arith, ◌≡◌, ◌∙◌, ◌≤◌, ◌+◌, ◌-◌, ◌++◌, [], ◌∷◌, drop, length, slice_get, Some, take, refl, sym, ap}
use Rattle.std.proofs.lemmas.Grind.{take_at_read}
use Rattle.std.proofs.lemmas.Option.{slice_get_read}
use Rattle.camel_audit.proofs.AuditLemmas.{AreExplained-push, last_front-push, records_of-longer}
use Rattle.camel_audit.specs.Audit.{outcome_at_front}
use Rattle.camel_rows.specs.Decision.{decision, outcome_of}
use Rattle.camel_rows.specs.Update.{records_from, records_of}
use Rattle.camel_audit.proofs.checks.check_transcript.Goals as goal

pub loop-at-preserved : goal.loop-at-preserved
loop-at-preserved c =
    let so_far = c.loop-at.invariant in
    let updates = c.args.updates.now in
    let profile = c.args.profile in
    let next = c.next-item.result in
    let first = take c.loop-at.at c.args.transcript.now in
    let more : take (c.loop-at.at + 1) c.args.transcript.now ≡ first ++ next ∷ [] = grind (arith, take_at_read) in
    let within : next.answer.front ≤ length updates = search rules in
    let later : c.loop-at.front ≤ next.answer.front = search rules in
    let records : c.apply_all.new.records ≡ records_of (take next.answer.front updates) =
    c.in_ok-apply_all.ensures.applied ∙ ap (λ m. records_from m (take (next.answer.front - c.loop-at.front) (drop c.loop-at.front updates))) so_far.records
    ∙ records_of-longer updates c.loop-at.front next.answer.front later in
    let outcome : next.answer.outcome ≡ outcome_at_front profile updates next =
    c.if-not-are_same.ensures.yes refl ∙ c.decide.ensures ∙ ap (λ m. outcome_of (decision profile m next.event)) records in
    rw more record {
      explained = AreExplained-push profile updates 0 first next so_far.explained
          (record { within = within; later = rw (← so_far.last) later; outcome = outcome });
      last = sym (last_front-push 0 first next);
      within = within;
      records = records;
    }

pub returns-then-not-are_same-clause-fault : goal.returns-then-not-are_same-clause-fault
returns-then-not-are_same-clause-fault c =
    let so_far = c.loop-at.invariant in
    let updates = c.args.updates.now in
    let profile = c.args.profile in
    let next = c.next-item.result in
    let entries = c.args.transcript.now in
    let there : slice_get entries c.loop-at.at ≡ Some next =
    slice_get_read entries (length entries) c.loop-at.at next refl (search rules) (search rules) in
    let within : next.answer.front ≤ length updates = search rules in
    let later : c.loop-at.front ≤ next.answer.front = search rules in
    let records : c.apply_all.new.records ≡ records_of (take next.answer.front updates) =
    c.in_ok-apply_all.ensures.applied ∙ ap (λ m. records_from m (take (next.answer.front - c.loop-at.front) (drop c.loop-at.front updates))) so_far.records
    ∙ records_of-longer updates c.loop-at.front next.answer.front later in (
      refl,
      record {
        entry = next;
        there = there;
        explained = so_far.explained;
        holds = record {
          within = within;
          later = rw (← so_far.last) later;
          outcome = λ same. c.if-not-are_same.ensures.no refl (same ∙ sym (c.decide.ensures ∙ ap (λ m. outcome_of (decision profile m next.event)) records));
        };
      },
    )
