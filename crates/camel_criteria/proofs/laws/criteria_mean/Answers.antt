use Rattle.camel_criteria.proofs.MeansLemmas.{number_means, o_means, t_means}
use Rattle.camel_criteria.proofs.laws.criteria_mean.Goals as goal

pub returns-clause-number : goal.returns-clause-number
returns-clause-number c = number_means

pub returns-clause-o_entry : goal.returns-clause-o_entry
returns-clause-o_entry c = o_means

pub returns-clause-t_entry : goal.returns-clause-t_entry
returns-clause-t_entry c = t_means
