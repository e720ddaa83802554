use Rattle.std.proofs.Common.{◌∙◌}
use Rattle.camel_table.proofs.TableLemmas.{empty_table, put, unchanged}
use Rattle.camel_table.proofs.table.Table.insert.Goals as goal

pub insert_first-requires : goal.insert_first-requires
insert_first-requires g c = empty_table c.self.invariant c.self.view_is c.if-self-eq0.true

pub invariant_of-self : goal.invariant_of-self
invariant_of-self g c = rw (unchanged _ _ c.get_mut-bucket.ensures.item c.in_err-is_new.ensures.unchanged) c.self.invariant

pub invariant_of-self-then-is_long : goal.invariant_of-self-then-is_long
invariant_of-self-then-is_long g c =
    let own = c.get_mut-bucket.ensures.item in
    let is = c.in_ok-is_new.ensures in
    (put c.self.invariant c.self.view_is c.if-self-eq0.false c.args.imsi.now c.number.ensures.number c.bucket.ensures own c.args.value is.put is.is_new
    c.from.ensures).0

pub invariant_of-self-else-is_long : goal.invariant_of-self-else-is_long
invariant_of-self-else-is_long g c =
    let own = c.get_mut-bucket.ensures.item in
    let is = c.in_ok-is_new.ensures in
    (put c.self.invariant c.self.view_is c.if-self-eq0.false c.args.imsi.now c.number.ensures.number c.bucket.ensures own c.args.value is.put is.is_new
    c.from.ensures).0

pub returns-then-is_long : goal.returns-then-is_long
returns-then-is_long g c =
    let own = c.get_mut-bucket.ensures.item in
    let is = c.in_ok-is_new.ensures in
    let done =
    put c.self.invariant c.self.view_is c.if-self-eq0.false c.args.imsi.now c.number.ensures.number c.bucket.ensures own c.args.value is.put is.is_new
    c.from.ensures in
    record { put = c.grow.ensures ∙ done.1; unchanged = tt }

pub returns-else-is_long : goal.returns-else-is_long
returns-else-is_long g c =
    let own = c.get_mut-bucket.ensures.item in
    let is = c.in_ok-is_new.ensures in
    let done =
    put c.self.invariant c.self.view_is c.if-self-eq0.false c.args.imsi.now c.number.ensures.number c.bucket.ensures own c.args.value is.put is.is_new
    c.from.ensures in
    record { put = done.1; unchanged = tt }
