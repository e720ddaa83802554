use Rattle.std.proofs.Common.{subst}
use Rattle.camel_rows.specs.Store.{AdmissionData}
use Rattle.camel_vlr.proofs.StoreLemmas.{is_there, leads_on}
use Rattle.camel_vlr.specs.StoreFields.{AllTakenBackTo}
use Rattle.camel_vlr.proofs.writer.group.take_back.Goals as goal

pub take_back-requires-clause-there : goal.take_back-requires-clause-there
take_back-requires-clause-there c =
    let (first, back) = c.loop-one.invariant.there in
    let (before, taken, rest) = subst (λ list. AllTakenBackTo first list c.loop-one.admission) c.in-Some.ensures.items back in
    is_there before c.loop-one.admission c.in-Some.one taken

pub loop-one-preserved : goal.loop-one-preserved
loop-one-preserved c =
    let on = λ (first : AdmissionData). leads_on first c.loop-one.admission c.take_back.new.self c.in-Some.one c.pop_front.new.self.items
    c.loop-one.accepted.items c.in-Some.ensures.items c.take_back.ensures in
    record {
      there = (c.loop-one.invariant.there.0, on c.loop-one.invariant.there.0 c.loop-one.invariant.there.1);
      same = λ first all. on first (c.loop-one.invariant.same first all);
    }
