use Rattle.std.proofs.Common.{arith, ◌≡◌, ◌∙◌, ◌+◌, ◌++◌, [], ◌∷◌, None, take, ap, sym}
use Rattle.std.proofs.lemmas.Grind.{take_at_read}
use Rattle.camel_audit.proofs.AuditLemmas.{not_refused}
use Rattle.camel_rows.proofs.UpdateLemmas.{AcceptedFrom-push, records_from-append}
use Rattle.camel_rows.specs.Update.{no_records, records_after, refusal}
use Rattle.camel_audit.proofs.checks.check_updates.Goals as goal

pub loop-at-preserved : goal.loop-at-preserved
loop-at-preserved c =
    let so_far = c.loop-at.invariant in
    let updates = c.args.updates.now in
    let update = c.index-updates-at.result in
    let first = take c.loop-at.at updates in
    let free : refusal c.loop-at.records update ≡ None = not_refused c.in-Ok.ensures.refused (λ why says. absurd (cc)) in
    let more : take (c.loop-at.at + 1) updates ≡ first ++ update ∷ [] = grind (arith, take_at_read) in
    rw more record {
      accepted = AcceptedFrom-push no_records first update so_far.accepted (rw (← so_far.records) free);
      records = c.in-Ok.ensures.applied ∙ ap (λ m. records_after m update) so_far.records ∙ sym (records_from-append no_records first (update ∷ []));
    }
