use Rattle.std.proofs.Common.{rules, refl}
use Rattle.camel_audit.proofs.AuditLemmas.{IsExplainedTo-push}
use Rattle.camel_audit.specs.Audit.{IsDecidedOver, is_member, updates_of_part}
use Rattle.camel_rows.specs.Update.{records_of}
use Rattle.camel_audit.proofs.one_pass.place_after.Goals as goal

pub entries-preserved : goal.entries-preserved
entries-preserved c =
    let is_in = is_member c.args.part in
    let front = c.args.front.now in
    let entry = c.index-entries-place.result in
    let decided : IsDecidedOver is_in c.args.profile (records_of (updates_of_part is_in front)) entry =
    rw (← c.requires.records) (c.if-not-is_decided_over.ensures refl) in
    IsExplainedTo-push is_in c.args.profile front c.args.entries.now c.entries.place entry c.entries.invariant (search rules)
    c.index-entries-place.is c.if-entry-front.false decided
