use Rattle.std.proofs.Common.{◌∙◌, arith, refl, sym}
use Rattle.std.proofs.lemmas.Result.{err_from_is_err_and}
use Rattle.camel_reading.proofs.EachLemmas.{drop-item}
use Rattle.camel_map.proofs.Received.Fields.{all_found, twice}
use Rattle.camel_map.proofs.field.find_field.Goals as goal

pub returns-then-is_some : goal.returns-then-is_some
returns-then-is_some c =
    let at = c.loop-field.field-index in
    rw c.at.ensures
    (twice c.args.octet c.args.fields.now at c.loop-field.found c.field-item.result
    (drop-item c.args.fields.now at c.field-item.result (omega arith) c.field-item.is) (sym c.if-is_tagged.ensures)
    (sym c.if-is_some.ensures) c.loop-field.invariant)

pub returns-in_err-identified-in-Some : goal.returns-in_err-identified-in-Some
returns-in_err-identified-in-Some c =
    let returned = err_from_is_err_and c.from_residual.result c.from_residual.ensures.1 in
    rw (returned.1, returned.2)
    (all_found c.args.octet c.args.fields.now c.loop-field.field-index c.loop-field.found (omega arith) c.loop-field.invariant
    ∙ rw (c.in-Some.is, c.in_err-identified-in-Some.ensures) refl)

pub returns-in_ok-identified-in-Some : goal.returns-in_ok-identified-in-Some
returns-in_ok-identified-in-Some c =
    all_found c.args.octet c.args.fields.now c.loop-field.field-index c.loop-field.found (omega arith) c.loop-field.invariant
    ∙ rw (c.in-Some.is, c.in_ok-identified-in-Some.ensures) refl

pub returns-in-None : goal.returns-in-None
returns-in-None c =
    all_found c.args.octet c.args.fields.now c.loop-field.field-index c.loop-field.found (omega arith) c.loop-field.invariant
    ∙ rw c.in-None.is refl
