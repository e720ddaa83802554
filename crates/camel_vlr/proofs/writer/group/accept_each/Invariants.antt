use Rattle.std.proofs.Common.{◌≡◌, ◌++◌, fold, length}
use Rattle.camel_rows.specs.Store.{admission_refusal}
use Rattle.camel_vlr.specs.Store.{AcceptsAll}
use Rattle.camel_vlr.specs.StoreFields.{AllTakenBackTo, admitted}
use Rattle.camel_vlr.specs.Operation.{HasMore}
use Rattle.camel_vlr.proofs.writer.group.accept_each.Given as goal

abbrev pub invariant-loop-update : goal.invariant-loop-update
invariant-loop-update l = record {
  all : AcceptsAll admission_refusal admitted l.fn.admission l.yielded;
  admission : l.admission ≡ fold admitted l.fn.admission l.yielded;
  pending : HasMore l.yielded l.fn.pending.items l.pending.items;
  list : AllTakenBackTo l.fn.admission l.accepted.items l.admission;
  rest : l.fn.updates.items ≡ l.yielded ++ l.update-iterator.rest.items;
  count : length l.accepted.items ≡ length l.yielded;
}
