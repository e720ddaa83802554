use Rattle.std.proofs.Common.{rules, ◌≡◌, ◌∙◌, ◌+◌, [], ◌∷◌, None, refl, length, length-append, ap, sym, append_assoc}
use Rattle.camel_rows.specs.Store.{accepted_updates, store_refusal}
use Rattle.camel_vlr.specs.Store.{StoreData}
use Rattle.camel_audit.proofs.AuditLemmas.{not_refused}
use Rattle.camel_replay_lib.proofs.threaded_replay.writer.submit.Goals as goal

pub returns-in-Ok-clause-line : goal.returns-in-Ok-clause-line
returns-in-Ok-clause-line c =
    let store = c.args.store.now in
    let update = c.args.update in
    let same : c.in_ok-copy.copy ≡ update = search rules in
    let accepted : store_refusal store.store.limit store.updates c.in_ok-copy.copy ≡ None = not_refused c.in-Ok.ensures.refused (λ why says. absurd (cc)) in
    let free : store_refusal store.store.limit store.updates update ≡ None = rw (← same) accepted in
    let copy = c.in_ok-copy.copy in
    let more = append_assoc store.updates.published store.updates.pending (copy ∷ []) in
    let number : c.in-Ok.number ≡ length (accepted_updates store.updates) + 1 =
    c.in-Ok.ensures.number ∙ ap (λ (s : StoreData). length (accepted_updates s.updates)) c.in-Ok.ensures.accepted
    ∙ ap length (sym more) ∙ length-append (accepted_updates store.updates) (copy ∷ []) in
    rw (free, number) refl
