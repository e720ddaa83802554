use Rattle.std.proofs.Common.{◌∙◌, [], ◌∷◌, ap, subst, sym}
use Rattle.camel_rows.specs.Store.{AdmissionData}
use Rattle.camel_rows.specs.Update.{update_imsi}
use Rattle.camel_vlr.proofs.OperationLemmas.{restored-one}
use Rattle.camel_vlr.specs.Operation.{IsRestored, updates_among}
use Rattle.camel_vlr.specs.declared.writer.operation.Operation.{Operation}
use Rattle.camel_vlr.proofs.writer.dropping.restore_one.Goals as goal

pub returns-in-Some : goal.returns-in-Some
returns-in-Some c =
    let records = c.args.records.now in let before = c.args.admission.now in
    let whom = ap update_imsi (sym c.deref.ensures) ∙ (sym c.imsi.ensures ∙ c.in-Some.is) in
    let one = restored-one records before c.in-Update.update.value c.in-Some.imsi c.csis.result whom c.csis.ensures in
    subst (λ (o : Operation). IsRestored records (updates_among (o ∷ [])) before c.restore.new.self) (sym c.in-Update.is)
    (subst (λ (after : AdmissionData). IsRestored records (c.in-Update.update.value ∷ []) before after) (sym c.restore.ensures) one)
