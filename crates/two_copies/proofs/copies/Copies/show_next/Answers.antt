use mathlib.Core.Logic.{∥∥₁_elim}
use base.Stored.{Coded-set}
use Rattle.std.specs.Arc.{arc_value}
use Rattle.std.specs.Coded.{coded_option}
use Rattle.std.proofs.Common.{subst, sym}
use Rattle.two_copies.specs.Log.{IsAlike}
use Rattle.two_copies.proofs.LogLemmas.{alike-turned, spare_is_next}
use Rattle.two_copies.proofs.copies.Copies.show_next.Goals as goal

pub invariant_of-self-clause-alike : goal.invariant_of-self-clause-alike
invariant_of-self-clause-alike g c =
    let old = c.args.self.now in
    let applied = g.T.Apply.applied in
    let spare = g.T.Apply.state (arc_value old.spare) in
    let shown = g.T.Apply.state (arc_value old.shown) in
    let next = spare_is_next applied g.T.Apply.restored g.row.T-State.coded spare shown old.log c.requires.ready old.alike in
    let turn = c.turn.ensures in
    let turned = alike-turned applied g.T.Apply.restored spare shown old.log c.turn.new.self turn.dropped turn.last turn.done next in
    let x = sym c.swap.ensures.x_after in let y = sym c.swap.ensures.y_after in
    ∣ subst (λ (fact : Type 0). fact)
    (λ k. IsAlike applied g.T.Apply.restored (g.T.Apply.state (arc_value (y k))) (g.T.Apply.state (arc_value (x k))) c.turn.new.self) turned ∣₁

pub returns-clause-published : goal.returns-clause-published
returns-clause-published g c =
    let old = c.args.self.now in
    let applied = g.T.Apply.applied in
    let spare = g.T.Apply.state (arc_value old.spare) in
    let shown = g.T.Apply.state (arc_value old.shown) in
    rw (c.swap.ensures.x_after) (spare_is_next applied g.T.Apply.restored g.row.T-State.coded spare shown old.log c.requires.ready old.alike)

pub show_all-requires-clause-shown : goal.show_all-requires-clause-shown
show_all-requires-clause-shown g c k d inside = ∥∥₁_elim c.args.self.now.shows (Coded-set (coded_option g.row.T.coded) _ _) (λ all. all k d inside)

pub invariant_of-self-clause-shows : goal.invariant_of-self-clause-shows
invariant_of-self-clause-shows g c = ∣ rw (c.swap.ensures.x_after) c.show_all.ensures.shown ∣₁
