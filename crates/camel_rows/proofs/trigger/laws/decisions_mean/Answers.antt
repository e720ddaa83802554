use Rattle.camel_rows.proofs.StandardLemmas.{criteria_mean, emergency_means, no_csi_means, not_armed_means, triggers_means, unknown_means}
use Rattle.camel_rows.proofs.trigger.laws.decisions_mean.Goals as goal

pub returns-clause-triggers : goal.returns-clause-triggers
returns-clause-triggers c = triggers_means

pub returns-clause-unknown : goal.returns-clause-unknown
returns-clause-unknown c = unknown_means

pub returns-clause-no_csi : goal.returns-clause-no_csi
returns-clause-no_csi c = no_csi_means

pub returns-clause-not_armed : goal.returns-clause-not_armed
returns-clause-not_armed c = not_armed_means

pub returns-clause-emergency : goal.returns-clause-emergency
returns-clause-emergency c = emergency_means

pub returns-clause-criteria : goal.returns-clause-criteria
returns-clause-criteria c = criteria_mean
