use Rattle.std.proofs.Common.{◌∙◌, ap, ap₂, sym}
use Rattle.core.specs.Option.{ghost_name_of}
use borrow.Follows.Closed.{read_of}
use Rattle.camel_c.specs.Object.{with_object}
use Rattle.camel_c.specs.declared.handle.CamelHandle.{CamelHandle}
use Rattle.camel_c.proofs.HandleLemmas.{lent, looked_at}
use Rattle.camel_c.proofs.handle.CamelHandle.lend.Goals as goal

pub returns : goal.returns
returns g c =
    let same = c.is_full.ensures.1 in
    let is = c.get_mut-held.ensures.value in
    let back = looked_at c.is_full.new.self c.get_mut-held.result.now is ∙ same in (
      ap₂ (λ (handle after : CamelHandle). read_of {D = CamelHandle} {E = g.row.K.Denot} (ghost_name_of c.within.result)
          (λ own. with_object handle (g.K.Kind.whole own)) after) same back,
      record { writes_back = tt; value = lent _ _ _ _ (sym (ap (λ (h : CamelHandle). h.value) same) ∙ is) c.within.ensures.value },
    )
