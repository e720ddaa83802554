use Rattle.std.proofs.Common.{◌≡◌, ◌∙◌, List, ap, sym, subst}
use base.Growing.{prefix_trans}
use mathlib.Core.List.{IsPrefix}
use Rattle.camel_vlr.proofs.ChainLemmas.{keeps_chain, list_of-prefix}
use Rattle.camel_vlr.specs.History.{list_of, root_of}
use Rattle.camel_vlr.specs.declared.history.link.Link.{Link}
use Rattle.camel_vlr.proofs.history.History.bounds.Goals as goal

pub compare_exchange-requires : goal.compare_exchange-requires
compare_exchange-requires c =
    let a = c.self.inside in let head = c.self.invariant.head in
    let book = c.learn.ensures.0 ∙ ap (λ t. t.book) c.again-seen.ensures in
    let offer = c.plain-offer.ensures in (
      ap (λ w. w.tracked) head,
      book ∙ sym (ap (λ w. w.book) head),
      c.self.invariant.book ∙ sym (ap (λ w. w.book) head),
      offer.0,
      rw (ap (λ w. w.key) head, offer.3) (keeps_chain c.learn.new.self.log c.plain-offer.result.ask a.pen.nib c.self.invariant.right),
    )

pub returns-clause-bounds : goal.returns-clause-bounds
returns-clause-bounds c =
    let a = c.self.inside in let b = c.prefix.inside in let root = root_of a.start.log in
    let found = c.compare_exchange.new.seen.log in
    let more : IsPrefix c.learn.new.self.log found = c.compare_exchange.ensures.6 in
    let mine : IsPrefix a.seen.log c.learn.new.self.log =
    subst (λ (links : List Link). IsPrefix links c.learn.new.self.log) (ap (λ x. x.log) c.again-seen.ensures) c.learn.ensures.2 in
    let its : IsPrefix b.seen.log found = prefix_trans b.seen.log c.learn.new.self.log found c.learn.ensures.3 more in
    let same : root_of b.start.log ≡ root =
    ap (λ x. x.store.root) c.prefix.view_is ∙ (ap (λ x. x.root) c.requires ∙ sym (ap (λ x. x.store.root) c.self.view_is)) in
    let stays : list_of root found ≡ list_of root a.seen.log = c.compare_exchange.ensures.7.chain a.seen.log root mine c.self.invariant.tail in
    rw (← c.self.view_is, ← c.prefix.view_is, same, ← stays) (list_of-prefix root b.seen.log found its)
