use Rattle.std.proofs.Common.{◌∙◌, sym}
use Rattle.camel_table.proofs.TableLemmas.{inside, nothing, value_before}
use Rattle.camel_table.proofs.table.Table.get.Goals as goal

pub returns-then-self-eq0 : goal.returns-then-self-eq0
returns-then-self-eq0 g c = sym (nothing c.self.invariant c.self.view_is c.if-self-eq0.true c.args.imsi.now)

pub get-bucket-requires : goal.get-bucket-requires
get-bucket-requires g c = inside c.self.invariant c.self.view_is c.if-self-eq0.false c.args.imsi.now c.number.ensures.number c.bucket.ensures

pub returns : goal.returns
returns g c =
    c.get.ensures
    ∙ value_before c.self.invariant c.self.view_is c.if-self-eq0.false c.args.imsi.now c.number.ensures.number c.bucket.ensures c.get-bucket.ensures
