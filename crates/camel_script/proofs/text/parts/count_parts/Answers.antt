use Rattle.std.proofs.Common.{◌==◌, arith}
use Rattle.std.proofs.lemmas.Grind.{common_steps}
use Rattle.std.proofs.lemmas.List.Splits.{length-slice_split}
use Rattle.camel_script.proofs.text.parts.count_parts.Goals as goal

pub returns : goal.returns
returns c =
    let count = length-slice_split (λ character. character == c.args.separator) c.args.text.now in
    grind (arith, common_steps, count)
