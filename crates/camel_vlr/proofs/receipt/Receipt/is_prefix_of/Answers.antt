use Rattle.std.proofs.Common.{◌≡◌, ◌∙◌, ◌≤◌, length, ap, arith}
use Rattle.std.proofs.lemmas.Bool.Decides.{nat_tests}
use Rattle.camel_vlr.proofs.SessionLemmas.{extends_length}
use Rattle.camel_vlr.proofs.receipt.Receipt.is_prefix_of.Goals as goal

pub returns-clause-exact : goal.returns-clause-exact
returns-clause-exact c more =
    let a = c.self.inside in let b = c.other.inside in
    let mine : a.count ≡ length c.args.self.now.updates = c.self.invariant.count ∙ ap (λ x. length x.updates) c.self.view_is in
    let its : b.count ≡ length c.args.other.now.updates = c.other.invariant.count ∙ ap (λ x. length x.updates) c.other.view_is in
    let shorter : length c.args.self.now.updates ≤ length c.args.other.now.updates = extends_length _ _ more in
    grind (arith, nat_tests)
