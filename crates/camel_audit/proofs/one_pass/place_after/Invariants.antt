use Rattle.std.proofs.Common.{◌-◌, length}
use Rattle.camel_audit.specs.Audit.{IsExplainedTo, is_member}
use Rattle.camel_audit.proofs.one_pass.place_after.Given as goal

-- the front explains the entries before the place
abbrev pub invariant-entries : goal.invariant-entries
invariant-entries l = IsExplainedTo (is_member l.part) l.profile l.front l.entries l.place

abbrev pub decreases-entries : goal.decreases-entries
decreases-entries l = length l.entries - l.place
