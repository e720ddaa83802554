use Rattle.std.proofs.Common.{arith, rules, ap, subst, sym, ◌∙◌}
use Rattle.two_copies.specs.Place.{AreEmpty, is_second, known_of}
use Rattle.two_copies.specs.declared.place.Part.TheVariants.{Idle}
use Rattle.two_copies.proofs.Steps.{leaves}
use Rattle.two_copies.proofs.Plays.{gives_full_slot, fills_slot, has_slot}
use Rattle.two_copies.proofs.place.steps.leave.Goals as goal

pub fetch_sub-found-requires : goal.fetch_sub-found-requires
fetch_sub-found-requires g c =
    let e = c.exchange-emptied.ensures in (
      e.0 ∙ c.requires.seated.same,
      omega (arith, c.requires.seated.sized),
      leaves g.F.CopyRule _ _ _ _ (is_second c.args.slot) _ _ (fills_slot _ _ _ _ _ _ _ _ c.requires.looks c.requires.slot e.3),
    )

pub exchange-requires : goal.exchange-requires
exchange-requires g c =
    let e = c.exchange-emptied.ensures in
    let left = c.fetch_sub-found.ensures in
    let filled = fills_slot _ _ _ _ _ _ _ _ c.requires.looks c.requires.slot e.3 in
    let kept = left.2.keeps_it (search rules) in
    (left.0 ∙ e.0 ∙ c.requires.seated.same, (_, has_slot _ _ _ _ _ _ (kept ∙ (λ i. (Idle (known_of (filled i).0), (filled i).1))) c.requires.slot))

pub returns-else-not-is_newest-clause-empty : goal.returns-else-not-is_newest-clause-empty
returns-else-not-is_newest-clause-empty g c =
    gives_full_slot _ _ _ _ _ c.requires.empty c.exchange-emptied.ensures.3 (c.fetch_sub-found.ensures.2.gives_back (search rules))

pub returns-then-not-is_newest-clause-empty : goal.returns-then-not-is_newest-clause-empty
returns-then-not-is_newest-clause-empty g c =
    let given = gives_full_slot _ _ _ _ _ c.requires.empty c.exchange-emptied.ensures.3 (c.fetch_sub-found.ensures.2.gives_back (search rules)) in
    subst AreEmpty (ap (λ m. m.1) (sym c.report.ensures.idle)) given
