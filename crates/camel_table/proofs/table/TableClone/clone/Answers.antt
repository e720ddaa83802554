use Rattle.std.proofs.Common.{◌∙◌, ap}
use Rattle.std.proofs.lemmas.List.Elements.{same_from_all_zip}
use Rattle.camel_table.specs.Buckets.{table_map}
use Rattle.camel_table.proofs.OnceLemmas.{whole_clone}
use Rattle.camel_table.proofs.table.TableClone.clone.Goals as goal

pub invariant_of-result : goal.invariant_of-result
invariant_of-result g c = rw c.copy.ensures (whole_clone (λ m n both. both.0) _ c.in_ok-clone.ensures.cases c.self.invariant)

pub returns : goal.returns
returns g c = record {
  cases = λ exact. ap table_map (same_from_all_zip _ _ _ c.in_ok-clone.ensures.cases (λ m n both. both.1 exact)) ∙ c.self.view_is;
}
