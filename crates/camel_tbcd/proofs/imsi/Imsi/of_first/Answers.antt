use Rattle.std.proofs.Common.{◌∙◌, ap, sym, subst}
use Rattle.camel_tbcd.specs.Imsi.{IsImsi, imsi_number, digits_of_number}
use Rattle.camel_tbcd.proofs.ImsiLemmas.{digits_of_imsi}
use Rattle.camel_tbcd.proofs.imsi.Imsi.of_first.Goals as goal

pub invariant_of-result : goal.invariant_of-result
invariant_of-result c =
    let back = ap digits_of_number c.number.ensures ∙ digits_of_imsi c.args.first.now c.requires in
    (subst IsImsi (sym back) c.requires, c.number.ensures ∙ ap imsi_number (sym back))

pub returns : goal.returns
returns c = ap digits_of_number c.number.ensures ∙ digits_of_imsi c.args.first.now c.requires
