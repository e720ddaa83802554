use Rattle.std.proofs.Common.{sym, ◌∙◌, ap}
use Rattle.camel_vlr.proofs.ChainLemmas.{adds_link}
use Rattle.camel_vlr.proofs.history.History.grow.Goals as goal

pub compare_exchange-requires : goal.compare_exchange-requires
compare_exchange-requires g c =
    let a = c.self.inside in let head = c.self.invariant.head in
    let seen = c.again-seen.ensures in
    let book = ap (λ t. t.book) seen in
    let offer = c.plain-offer.ensures in (
      ap (λ w. w.tracked) head,
      book ∙ sym (ap (λ w. w.book) head),
      c.self.invariant.book ∙ sym (ap (λ w. w.book) head),
      offer.0,
      rw (ap (λ w. w.key) head, offer.3, ap (λ t. t.log) seen)
          (adds_link a.seen.log g.G.Growth.updates g.G.Growth.next c.plain-offer.result.ask a.pen.nib c.self.invariant.right),
    )
