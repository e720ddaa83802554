use Rattle.std.proofs.Common.{◌≡◌}
use Rattle.std.proofs.lemmas.List.Elements.{All-push}
use Rattle.std.specs.Prelude.{Some}
use Rattle.camel_c_data.specs.Event.{no_decisions}
use Rattle.camel_c.specs.declared.handle.CamelHandle.{CamelHandle}
use Rattle.camel_c.specs.declared.object.Object.TheVariants as object
use Rattle.camel_c.proofs.store.+fill_all.Goals as goal

pub returns-in-Ok-clause-filled : goal.returns-in-Ok-clause-filled
returns-in-Ok-clause-filled t c = λ fresh all.
    let holds = λ (h : CamelHandle). h.value
    ≡ Some (object.Session (record { session = fresh; store = c.args.number; decisions = no_decisions })) in
    All-push holds c.fill_all.new.handles c.fill_last.new.handle (c.in-Ok.ensures.filled fresh (c.fill_last.ensures.others fresh all))
    (c.in_ok-fill_last.ensures.filled fresh all)
