use Rattle.std.proofs.Common.{◌∙◌, ◌++◌, [], ◌∷◌, length, slice_set, sym, ap, ap₂, subst}
use Rattle.std.proofs.lemmas.List.{append-nil, length-map, map-append}
use Rattle.camel_table.specs.Buckets.{AreTagged}
use Rattle.camel_table.specs.ByImsi.{keys_of}
use Rattle.camel_table.proofs.BucketLemmas.{added}
use Rattle.camel_table.proofs.OnceLemmas.{added_once}
use Rattle.camel_table.proofs.TagsLemmas.{pushed_tag}
use Rattle.camel_table.proofs.bucket.Bucket.add.Goals as goal

pub invariant_of-self : goal.invariant_of-self
invariant_of-self g c = rw c.make_room.ensures c.self.invariant

pub invariant_of-self-in_err-push : goal.invariant_of-self-in_err-push
invariant_of-self-in_err-push g c = rw (c.in_err-push.ensures.items ∙ c.make_room.ensures) c.self.invariant

pub invariant_of-self-2 : goal.invariant_of-self-2
invariant_of-self-2 g c =
    let es = c.self.inside.entries.items in
    let tags = c.self.inside.tags in
    let key = c.args.imsi.now in
    let value = c.args.value in
    let is = c.in_ok-push.ensures.items ∙ ap (λ fs. fs ++ (key, value) ∷ []) c.make_room.ensures in
    let long = c.len-at.ensures ∙ c.make_room.new.entries.ok.0 ∙ ap length c.make_room.ensures ∙ sym (length-map es (λ e. e.0)) in
    let set = c.set.ensures ∙ ap₂ (slice_set tags) long c.tag_of.ensures in
    let keys = ap keys_of is ∙ map-append (λ e. e.0) es ((key, value) ∷ []) in (
      added_once key value es [] (sym (append-nil es)) c.self.view_is c.requires is c.self.invariant.0,
      subst (λ listed. AreTagged c.set.new.self listed) (sym keys)
          (subst (λ octets. AreTagged octets (keys_of es ++ key ∷ [])) (sym set) (pushed_tag tags (keys_of es) key c.self.invariant.1)),
    )

pub returns-clause-added : goal.returns-clause-added
returns-clause-added g c =
    let es = c.self.inside.entries.items in
    let is = c.in_ok-push.ensures.items ∙ ap (λ fs. fs ++ (c.args.imsi.now, c.args.value) ∷ []) c.make_room.ensures in
    added c.args.imsi.now c.args.value es [] (sym (append-nil es)) c.self.view_is c.requires is
