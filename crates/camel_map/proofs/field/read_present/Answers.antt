use Rattle.std.proofs.Common.{Ok, Err, refl}
use Rattle.std.proofs.lemmas.Fn.{says_at}
use Rattle.std.proofs.lemmas.Result.{err_from_is_err_and}
use Rattle.camel_ber.specs.Elements.{view}
use Rattle.camel_map.proofs.Received.Fields.{present}
use Rattle.camel_map.proofs.field.read_present.Goals as goal

pub returns-in_err-read-in-Some : goal.returns-in_err-read-in-Some
returns-in_err-read-in-Some g c =
    λ value_of answers.
    let read = answers c.in-Some.field _ (says_at g.F.Fn c.read.ensures refl) in
    let returned = err_from_is_err_and c.from_residual.result c.from_residual.ensures.1 in
    rw (c.in-Some.is, returned.1, returned.2)
    (present {A = g.row.T.Denot} (Err c.in_err-read-in-Some.field-0.0) (value_of (view c.in-Some.field))
    (rw c.in_err-read-in-Some.was at read))

pub returns-in-Some : goal.returns-in-Some
returns-in-Some g c =
    λ value_of answers.
    let read = answers c.in-Some.field _ (says_at g.F.Fn c.read.ensures refl) in
    rw c.in-Some.is
    (present {A = g.row.T.Denot} (Ok c.in_ok-read-in-Some.field-0) (value_of (view c.in-Some.field))
    (rw c.in_ok-read-in-Some.was at read))
