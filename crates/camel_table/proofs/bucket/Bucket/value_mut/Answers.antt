use Rattle.std.proofs.Common.{◌∙◌, Some, position, refl, sym, ap, subst}
use Rattle.std.specs.FinMap as map
use Rattle.std.specs.Option.{is_some}
use Rattle.camel_table.specs.Buckets.{AreTagged}
use Rattle.camel_table.specs.ByImsi.{is_same, keys_of}
use Rattle.camel_table.proofs.BucketLemmas.{get-first, some_position, with_set, written}
use Rattle.camel_table.proofs.OnceLemmas.{valued_keys, valued_once}
use Rattle.camel_table.proofs.bucket.Bucket.value_mut.Goals as goal

pub unwrap-at-requires : goal.unwrap-at-requires
unwrap-at-requires g c =
    let imsi = c.args.imsi.now in
    ap is_some (c.place.ensures ∙ ap (position (λ e. is_same imsi e.0)) c.deref.ensures.value)
    ∙ some_position imsi c.self.inside.entries.items (ap (λ m. is_some (map.get m imsi)) c.self.view_is ∙ c.requires)

pub invariant_of-self-lent : goal.invariant_of-self-lent
invariant_of-self-lent g c = λ new.
    let imsi = c.args.imsi.now in
    let es = c.self.inside.entries.items in
    let is = ap (position (λ e. is_same imsi e.0)) (sym c.deref.ensures.value) ∙ sym c.place.ensures ∙ c.unwrap-at.ensures in
    let set = with_set imsi new es is c.index_mut-entry.ensures.value in (
      valued_once imsi new es set c.self.invariant.0,
      subst (AreTagged c.self.inside.tags) (sym (ap keys_of set ∙ valued_keys imsi new es)) c.self.invariant.1,
    )

pub returns : goal.returns
returns g c =
    let imsi = c.args.imsi.now in
    let es = c.self.inside.entries.items in
    let is = ap (position (λ e. is_same imsi e.0)) (sym c.deref.ensures.value) ∙ sym c.place.ensures ∙ c.unwrap-at.ensures in
    let own = c.index_mut-entry.ensures.value in
    let value = ap Some c.lend.ensures.value ∙ sym (get-first imsi es _ _ is own) ∙ ap (λ m. map.get m imsi) c.self.view_is in (
      (refl, λ new. written imsi new es (with_set imsi new es is own) c.self.view_is c.requires),
      record { writes_back = tt; value = value },
    )
