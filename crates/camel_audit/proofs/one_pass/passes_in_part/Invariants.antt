use Rattle.std.proofs.Common.{◌≡◌, take}
use Rattle.camel_audit.specs.Audit.{AreExplainedTo, is_member, updates_of_part}
use Rattle.camel_rows.specs.Update.{Accepted, records_of}
use Rattle.camel_audit.proofs.one_pass.passes_in_part.Given as goal

-- the part's updates so far are accepted, have left these records, and explain the entries before the places
abbrev pub invariant-loop-at : goal.invariant-loop-at
invariant-loop-at l = record {
  accepted : Accepted (updates_of_part (is_member l.part) (take l.at l.updates));
  records : l.records ≡ records_of (updates_of_part (is_member l.part) (take l.at l.updates));
  places : AreExplainedTo (is_member l.part) l.profile (take l.at l.updates) l.transcripts l.places.items;
}
