use Rattle.std.proofs.Common.{◌∙◌, sym}
use Rattle.std.proofs.lemmas.Slice.Zip.{AllZip-long}
use Rattle.camel_table.proofs.OnceLemmas.{full_clone, joined_clone}
use Rattle.camel_table.proofs.segments.SegmentsClone.clone.Goals as goal

pub invariant_of-result : goal.invariant_of-result
invariant_of-result g c =
    let all = c.in_ok-clone.ensures.cases.0 in (
      full_clone g.T.Clone.is_clone _ (λ v w both. both.0) _ _ all c.self.invariant.0,
      c.self.invariant.1 ∙ sym (AllZip-long g.T.Clone.is_clone _ _ (joined_clone g.T.Clone.is_clone _ (λ v w both. both.0) _ _ all)),
    )

pub returns : goal.returns
returns g c =
    let all = c.in_ok-clone.ensures.cases.0 in
    record { cases = rw (← c.self.view_is) (joined_clone g.T.Clone.is_clone _ (λ v w both. both.0) _ _ all) }
