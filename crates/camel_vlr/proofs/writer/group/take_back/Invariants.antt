use Rattle.std.proofs.Common.{length}
use Rattle.camel_rows.specs.Store.{AdmissionData}
use Rattle.camel_vlr.specs.StoreFields.{AllTakenBackTo}
use Rattle.camel_vlr.proofs.writer.group.take_back.Given as goal

abbrev pub invariant-loop-one : goal.invariant-loop-one
invariant-loop-one l = record {
  there : (first : AdmissionData) × AllTakenBackTo first l.accepted.items l.admission;
  same : (first : AdmissionData) → AllTakenBackTo first l.fn.accepted.items l.fn.admission → AllTakenBackTo first l.accepted.items l.admission;
}

abbrev pub decreases-loop-one : goal.decreases-loop-one
decreases-loop-one l = length l.accepted.items
