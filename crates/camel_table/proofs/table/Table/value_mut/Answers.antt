use Rattle.std.proofs.Common.{◌∙◌, refl, ap}
use Rattle.std.specs.Option.{is_some}
use Rattle.camel_table.proofs.TableLemmas.{has_buckets, inside, replaced, value_before}
use Rattle.camel_table.proofs.table.Table.value_mut.Goals as goal

pub get_mut-bucket-requires : goal.get_mut-bucket-requires
get_mut-bucket-requires g c =
    let some = has_buckets c.self.invariant c.self.view_is c.args.imsi.now c.requires in
    inside c.self.invariant c.self.view_is some c.args.imsi.now c.number.ensures.number c.bucket.ensures

pub value_mut-requires : goal.value_mut-requires
value_mut-requires g c =
    let some = has_buckets c.self.invariant c.self.view_is c.args.imsi.now c.requires in
    ap is_some (value_before c.self.invariant c.self.view_is some c.args.imsi.now c.number.ensures.number c.bucket.ensures c.get_mut-bucket.ensures.item)
    ∙ c.requires

pub invariant_of-self-lent : goal.invariant_of-self-lent
invariant_of-self-lent g c = λ new.
    let some = has_buckets c.self.invariant c.self.view_is c.args.imsi.now c.requires in
    (replaced c.self.invariant c.self.view_is some c.args.imsi.now c.number.ensures.number c.bucket.ensures c.get_mut-bucket.ensures.item new c.requires refl).0

pub returns : goal.returns
returns g c =
    let some = has_buckets c.self.invariant c.self.view_is c.args.imsi.now c.requires in
    let own = c.get_mut-bucket.ensures.item in (
      (refl, λ new. (replaced c.self.invariant c.self.view_is some c.args.imsi.now c.number.ensures.number c.bucket.ensures own new c.requires refl).1),
      record {
        writes_back = tt;
        value = c.value_mut.ensures.value ∙ value_before c.self.invariant c.self.view_is some c.args.imsi.now c.number.ensures.number c.bucket.ensures own;
      },
    )
