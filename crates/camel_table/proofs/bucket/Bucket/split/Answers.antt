use Rattle.std.proofs.Common.{◌∙◌, not, subst}
use Rattle.camel_table.specs.Buckets.{AreTagged, is_at}
use Rattle.camel_table.specs.ByImsi.{keys_of}
use Rattle.camel_table.proofs.BucketLemmas.{kept_in}
use Rattle.camel_table.proofs.OnceLemmas.{kept_once}
use Rattle.camel_table.proofs.bucket.Bucket.split.Goals as goal

pub invariant_of-result : goal.invariant_of-result
invariant_of-result g c =
    let leave = c.shrink_to_fit-2.ensures.items ∙ (rw c.replace-entries.ensures.value at c.split.ensures.leave) in (
      kept_once (λ key. not (is_at g.S.Hasher.Hasher.finish g.S.Hasher.Hasher.write g.S.BuildHasher.build_hasher c.args.addressing.now c.args.at key))
          c.self.inside.entries.items leave c.self.invariant.0,
      subst (λ es. AreTagged c.tags_of.result (keys_of es)) c.deref-2.ensures.value c.tags_of.ensures,
    )

pub invariant_of-self : goal.invariant_of-self
invariant_of-self g c =
    let stay = c.shrink_to_fit.ensures.items ∙ (rw c.replace-entries.ensures.value at c.split.ensures.stay) in (
      kept_once (is_at g.S.Hasher.Hasher.finish g.S.Hasher.Hasher.write g.S.BuildHasher.build_hasher c.args.addressing.now c.args.at)
          c.self.inside.entries.items stay c.self.invariant.0,
      subst (λ es. AreTagged c.tags_of-self-inside.result (keys_of es)) c.deref.ensures.value c.tags_of-self-inside.ensures,
    )

pub returns-clause-stay : goal.returns-clause-stay
returns-clause-stay g c =
    kept_in _ c.self.inside.entries.items c.self.view_is (c.shrink_to_fit.ensures.items ∙ (rw c.replace-entries.ensures.value at c.split.ensures.stay))

pub returns-clause-leave : goal.returns-clause-leave
returns-clause-leave g c =
    kept_in _ c.self.inside.entries.items c.self.view_is (c.shrink_to_fit-2.ensures.items ∙ (rw c.replace-entries.ensures.value at c.split.ensures.leave))
