use Rattle.std.proofs.Common.{sym, ◌∙◌, ap}
use Rattle.camel_vlr.proofs.ChainLemmas.{makes}
use Rattle.camel_vlr.proofs.history.link.make_cell.Goals as goal

pub compare_exchange-requires : goal.compare_exchange-requires
compare_exchange-requires c =
    let head = c.requires in
    let offer = c.plain-offer.ensures in
    let pen = c.no_pen-pen.ensures in (
      ap (λ w. w.tracked) head,
      sym (ap (λ w. w.book) head),
      pen.0 ∙ sym (ap (λ w. w.book) head),
      offer.0,
      rw (ap (λ w. w.key) head, pen.1, offer.3) (makes c.args.seen.now.log c.plain-offer.result.ask),
    )
