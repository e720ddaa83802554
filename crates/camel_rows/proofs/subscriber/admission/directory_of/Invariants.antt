use Rattle.std.proofs.Common.{◌++◌}
use Rattle.camel_table.specs.ByImsi.{ListsEachOnce}
use Rattle.camel_rows.proofs.StoreLemmas.{IsDirectoryOfListed}
use Rattle.camel_rows.proofs.subscriber.admission.directory_of.Given as goal

-- the directory is that of the IMSIs so far
abbrev pub invariant-loop-imsi : goal.invariant-loop-imsi
invariant-loop-imsi l = record {
  each_once : ListsEachOnce (l.yielded ++ l.imsi-iterator.rest.items) l.records;
  done : IsDirectoryOfListed l.yielded l.directory l.records;
}
