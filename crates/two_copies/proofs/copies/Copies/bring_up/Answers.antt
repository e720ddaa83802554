use mathlib.Core.Logic.{∥∥₁_map}
use Rattle.std.proofs.Common.{subst, sym}
use Rattle.two_copies.specs.Log.{IsAlike}
use Rattle.two_copies.proofs.copies.Copies.bring_up.Goals as goal

pub invariant_of-self-2-clause-alike : goal.invariant_of-self-2-clause-alike
invariant_of-self-2-clause-alike g c =
    let applied = g.T.Apply.applied in let restored = g.T.Apply.restored in let state = g.T.Apply.state in
    let copy = sym c.in-Some.ensures.value in let shown = c.deref.ensures in
    ∥∥₁_map c.args.self.now.alike (λ alike.
    subst (λ (fact : Type 0). fact) (λ k. IsAlike applied restored (state c.bring_up.new.copy) (state (shown k)) c.bring_up.new.self)
    (c.bring_up.ensures.alike
    (subst (λ (fact : Type 0). fact) (λ k. IsAlike applied restored (state (copy k)) (state (sym shown k)) c.args.self.now.log) alike)))
