use Rattle.std.proofs.Common.{◌∙◌, refl, ap}
use Rattle.camel_table.specs.Buckets.{hash_of, table_map}
use Rattle.camel_table.proofs.TableLemmas.{grown, unchanged, with_spare}
use Rattle.camel_table.proofs.table.Table.grow.Goals as goal

pub invariant_of-self : goal.invariant_of-self
invariant_of-self g c =
    let spare = c.in_err-add_spare.ensures in
    (with_spare c.self.invariant c.self.view_is c.if-new-eq0.false spare.few spare.buckets).0

pub returns-in_err-add_spare : goal.returns-in_err-add_spare
returns-in_err-add_spare g c =
    let spare = c.in_err-add_spare.ensures in
    (with_spare c.self.invariant c.self.view_is c.if-new-eq0.false spare.few spare.buckets).1

pub invariant_of-self-in_err-others : goal.invariant_of-self-in_err-others
invariant_of-self-in_err-others g c =
    let spare = c.in_ok-add_spare.ensures in
    let spared = with_spare c.self.invariant c.self.view_is c.if-new-eq0.false spare.few spare.buckets in
    rw (unchanged _ _ c.get_mut-bucket.ensures.item c.in_err-others.ensures.unchanged) spared.0

pub returns-in_err-others : goal.returns-in_err-others
returns-in_err-others g c =
    let spare = c.in_ok-add_spare.ensures in
    let spared = with_spare c.self.invariant c.self.view_is c.if-new-eq0.false spare.few spare.buckets in
    ap table_map (unchanged _ _ c.get_mut-bucket.ensures.item c.in_err-others.ensures.unchanged) ∙ spared.1

pub invariant_of-self-2 : goal.invariant_of-self-2
invariant_of-self-2 g c =
    let spare = c.in_ok-add_spare.ensures in
    let spared = with_spare c.self.invariant c.self.view_is c.if-new-eq0.false spare.few spare.buckets in
    let next = c.with_bucket-addressing.ensures in
    let same = ap (λ hashes. hash_of g.S.Hasher.Hasher.finish g.S.Hasher.Hasher.write (g.S.BuildHasher.build_hasher hashes)) next.hashes in
    let split = c.in_ok-others.ensures in
    (grown spared.0 spared.1 c.if-new-eq0.false spare.spare same next.count next.low next.began next.within next.level refl c.get_mut-bucket.ensures.item
    split.stay split.leave).0

pub returns : goal.returns
returns g c =
    let spare = c.in_ok-add_spare.ensures in
    let spared = with_spare c.self.invariant c.self.view_is c.if-new-eq0.false spare.few spare.buckets in
    let next = c.with_bucket-addressing.ensures in
    let same = ap (λ hashes. hash_of g.S.Hasher.Hasher.finish g.S.Hasher.Hasher.write (g.S.BuildHasher.build_hasher hashes)) next.hashes in
    let split = c.in_ok-others.ensures in
    (grown spared.0 spared.1 c.if-new-eq0.false spare.spare same next.count next.low next.began next.within next.level refl c.get_mut-bucket.ensures.item
    split.stay split.leave).1
