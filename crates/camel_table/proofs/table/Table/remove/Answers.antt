use Rattle.std.proofs.Common.{sym}
use Rattle.camel_table.proofs.TableLemmas.{nothing_removed, removed}
use Rattle.camel_table.proofs.table.Table.remove.Goals as goal

pub returns-then-self-eq0 : goal.returns-then-self-eq0
returns-then-self-eq0 g c = sym (nothing_removed c.self.invariant c.self.view_is c.if-self-eq0.true c.args.imsi.now)

pub overflow_sub-self : goal.overflow_sub-self
overflow_sub-self g c =
    let own = c.get_mut-bucket.ensures.item in
    let is = c.remove.ensures in
    (removed c.self.invariant c.self.view_is c.if-self-eq0.false c.args.imsi.now c.number.ensures.number c.bucket.ensures own is.removed is.was c.from.ensures).0

pub invariant_of-self : goal.invariant_of-self
invariant_of-self g c =
    let own = c.get_mut-bucket.ensures.item in
    let is = c.remove.ensures in
    (removed c.self.invariant c.self.view_is c.if-self-eq0.false c.args.imsi.now c.number.ensures.number c.bucket.ensures own is.removed is.was c.from.ensures).1.0

pub returns : goal.returns
returns g c =
    let own = c.get_mut-bucket.ensures.item in
    let is = c.remove.ensures in
    (removed c.self.invariant c.self.view_is c.if-self-eq0.false c.args.imsi.now c.number.ensures.number c.bucket.ensures own is.removed is.was c.from.ensures).1.1
