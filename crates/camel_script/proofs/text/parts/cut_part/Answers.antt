use Rattle.std.proofs.Common.{◌≡◌, ◌==◌, ◌+◌, ◌-◌, drop, length, take, arith, refl, sym}
use Rattle.std.proofs.lemmas.Grind.{common_steps}
use Rattle.std.proofs.lemmas.List.Splits.{slice_split_none}
use Rattle.camel_script.proofs.PartsLemmas.{part-first, part-later, part-past, slice_split_place}
use Rattle.camel_script.proofs.text.parts.cut_part.Goals as goal

pub returns-in-Some-clause-first : goal.returns-in-Some-clause-first
returns-in-Some-clause-first c =
    let separator = c.args.separator in
    sym (part-first separator c.args.text.now _ _
    (slice_split_place (λ character. character == separator) c.args.text.now c.in-Some.at (sym c.in-Some.ensures.first)))

pub returns-in-Some-clause-others : goal.returns-in-Some-clause-others
returns-in-Some-clause-others c =
    λ at.
    let separator = c.args.separator in
    let text = c.args.text.now in
    let rest : take (length text - (c.in-Some.at + 1)) (drop (c.in-Some.at + 1) text) ≡ drop (c.in-Some.at + 1) text =
    grind (arith, common_steps) in
    rw rest
    (part-later separator text _ _ at
    (slice_split_place (λ character. character == separator) text c.in-Some.at (sym c.in-Some.ensures.first)))

pub returns-in-None-clause-first : goal.returns-in-None-clause-first
returns-in-None-clause-first c =
    let separator = c.args.separator in
    sym (part-first separator c.args.text.now _ _
    (slice_split_none (λ character. character == separator) c.args.text.now (c.in-None.ensures.none refl)))

pub returns-in-None-clause-others : goal.returns-in-None-clause-others
returns-in-None-clause-others c =
    λ at.
    let separator = c.args.separator in
    part-past separator c.args.text.now at
    (slice_split_none (λ character. character == separator) c.args.text.now (c.in-None.ensures.none refl))
