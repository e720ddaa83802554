use Rattle.std.proofs.Common.{◌==◌, ◌+◌, refl, sym}
use Rattle.std.proofs.lemmas.List.{take_rest}
use Rattle.std.proofs.lemmas.List.Splits.{slice_split_none}
use Rattle.camel_script.proofs.PartsLemmas.{slice_split_place}
use Rattle.camel_script.proofs.text.parts.split_part.Goals as goal

pub returns-in-Some-clause-parts : goal.returns-in-Some-clause-parts
returns-in-Some-clause-parts c =
    let separator = c.args.separator in
    let text = c.args.text.now in
    rw (take_rest text (c.in-Some.at + 1))
    (slice_split_place (λ character. character == separator) text c.in-Some.at (sym c.in-Some.ensures.first))

pub returns-in-None-clause-parts : goal.returns-in-None-clause-parts
returns-in-None-clause-parts c =
    let separator = c.args.separator in
    slice_split_none (λ character. character == separator) c.args.text.now (c.in-None.ensures.none refl)
