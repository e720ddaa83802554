use Rattle.std.proofs.Common.{ap, arith, subst}
use Rattle.camel_vlr.proofs.SessionLemmas.{all_last, extends_length}
use Rattle.camel_vlr.specs.Store.{ExtendsAll}
use Rattle.camel_vlr_tests.proofs.fronts.front_after.Goals as goal

pub returns-clause-extends : goal.returns-clause-extends
returns-clause-extends c =
    let seen = c.front_of_look.new.session.seen in
    let told = subst (ExtendsAll seen) (ap (λ s. s.told) c.learn.ensures) c.in_ok-front.ensures.told in
    all_last seen c.args.session.now.told c.args.receipt.updates told

pub returns-clause-not_shorter : goal.returns-clause-not_shorter
returns-clause-not_shorter c =
    let seen = c.front_of_look.new.session.seen in
    let told = subst (ExtendsAll seen) (ap (λ s. s.told) c.learn.ensures) c.in_ok-front.ensures.told in
    let longer = extends_length seen c.args.receipt.updates (all_last seen c.args.session.now.told c.args.receipt.updates told) in
    omega (arith, longer, c.in_ok-front.ensures.count)
