use Rattle.camel_vlr.proofs.SessionLemmas.{all_further, sees}
use Rattle.camel_vlr.proofs.session.Session.enter.Goals as goal

pub returns-clause-yes : goal.returns-clause-yes
returns-clause-yes g c _ =
    let a = c.self.inside in let i = c.self.invariant in let front = c.receipt-front.result in
    let told = all_further front.updates a.longest.updates a.told.value (c.is_prefix_of.ensures.yes c.if-not-is_prefix_of.false) i.told in
    rw (← c.self.view_is) (sees g.S.Seat a.seat c.enter.new.self a.seen front a.told.value _ c.copy.result.now
    (c.enter.ensures.yes c.if-not-enter.false) c.copy.ensures i.knows c.receipt-front.ensures told)
