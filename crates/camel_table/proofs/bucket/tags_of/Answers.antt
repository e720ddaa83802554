use Rattle.std.proofs.Common.{◌≡◌, ◌∙◌, ◌+◌, ◌<◌, ◌++◌, ◌∷◌, [], length, slice_set, take, sym, ap, ap₂, subst, arith}
use Rattle.std.proofs.lemmas.List.{length-map, length-take-le, map-append, take_all, take_more}
use Rattle.camel_table.specs.Buckets.{AreTagged, tag_of}
use Rattle.camel_table.specs.ByImsi.{keys_of}
use Rattle.camel_table.proofs.TagsLemmas.{pushed_tag}
use Rattle.camel_table.proofs.bucket.tags_of.Goals as goal

pub loop-at-init : goal.loop-at-init
loop-at-init g c = λ at in_tags in_keys. absurd (omega (arith, in_keys))

pub loop-at-preserved : goal.loop-at-preserved
loop-at-preserved g c =
    let es = c.args.entries.now in
    let at = c.loop-at.at in
    let entry = c.index-entries-at.result in
    let inside : at < length es = omega (arith, c.loop-at-test.true) in
    let next = ap keys_of (take_more es at entry inside ∙ ap (λ e. take at es ++ e ∷ []) (sym c.index-entries-at.is)) ∙ map-append (λ e. e.0) (take at es) (entry ∷ []) in
    let long : length (keys_of (take at es)) ≡ at = length-map (take at es) (λ e. e.0) ∙ length-take-le at es (omega (arith, inside)) in
    let set = ap₂ (slice_set c.loop-at.tags) long (ap tag_of (sym c.imsi.ensures) ∙ sym c.tag_of.ensures) ∙ sym c.set.ensures in
    subst (λ tags. AreTagged tags (keys_of (take (at + 1) es))) set
    (subst (AreTagged (slice_set c.loop-at.tags (length (keys_of (take at es))) (tag_of entry.0))) (sym next) (pushed_tag c.loop-at.tags (keys_of (take at es)) entry.0 c.loop-at.invariant))

pub returns : goal.returns
returns g c =
    let es = c.args.entries.now in
    let all = take_all c.loop-at.at es (omega (arith, c.loop-at-test.false)) in
    subst (λ fs. AreTagged c.loop-at.tags (keys_of fs)) all c.loop-at.invariant
