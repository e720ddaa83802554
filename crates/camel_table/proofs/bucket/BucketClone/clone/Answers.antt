use Rattle.std.proofs.Common.{◌∙◌, sym, ap, ap₂, subst}
use Rattle.std.specs.FinMap as map
use Rattle.std.proofs.lemmas.List.Elements.{same_from_all_zip}
use Rattle.camel_table.specs.Buckets.{AreTagged}
use Rattle.camel_table.specs.ByImsi.{map_of}
use Rattle.camel_table.proofs.OnceLemmas.{all_same, same_keys, same_once}
use Rattle.camel_table.proofs.bucket.BucketClone.clone.Goals as goal

pub invariant_of-result : goal.invariant_of-result
invariant_of-result g c =
    let es = c.self.inside.entries.items in
    let same = all_same _ (λ e. e.0) (λ x y both. both.0) es c.in_ok-clone.field-0.items c.in_ok-clone.ensures.cases.0 in (
      same_once es _ same c.self.invariant.0,
      rw c.copy.ensures (subst (AreTagged c.self.inside.tags) (sym same) c.self.invariant.1),
    )

pub returns : goal.returns
returns g c =
    let es = c.self.inside.entries.items in
    let all = c.in_ok-clone.ensures.cases.0 in
    record {
      cases = (
        same_keys es _ (all_same _ (λ e. e.0) (λ x y both. both.0) es c.in_ok-clone.field-0.items all) ∙ ap map.keys c.self.view_is,
        λ exact. ap map_of (same_from_all_zip _ _ _ all (λ x y both. ap₂ (λ k v. (k, v)) both.0 (exact x.1 y.1 both.1))) ∙ c.self.view_is,
      );
    }
