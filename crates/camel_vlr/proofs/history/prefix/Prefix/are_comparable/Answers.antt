use Rattle.std.proofs.Common.{◌≡◌, ◌∙◌, ℕ, List, ap, sym, subst}
use mathlib.Core.List.{IsPrefix}
use Rattle.camel_vlr.proofs.ChainLemmas.{list_of-prefix, one_extends}
use Rattle.camel_vlr.specs.History.{list_of, root_of}
use Rattle.camel_vlr.specs.declared.history.link.Link.{Link}
use Rattle.camel_vlr.proofs.history.prefix.Prefix.are_comparable.Goals as goal

pub returns : goal.returns
returns c =
    let both = c.learn.new.self.log in
    let a = c.self.inside in let b = c.other.inside in
    let root = root_of a.start.log in
    let same : root_of b.start.log ≡ root =
    ap (λ x. x.store.root) c.other.view_is ∙ (ap (λ x. x.root) c.requires ∙ sym (ap (λ x. x.store.root) c.self.view_is)) in
    let mine : IsPrefix a.seen.log both = subst (λ (links : List Link). IsPrefix links both) (ap (λ x. x.log) c.again-both.ensures) c.learn.ensures.2 in
    let its = subst (λ (start : ℕ). IsPrefix (list_of start b.seen.log) (list_of start both)) same
    (list_of-prefix (root_of b.start.log) b.seen.log both c.learn.ensures.3) in
    rw (← c.self.view_is, ← c.other.view_is, same)
    (one_extends (list_of root a.seen.log) (list_of root b.seen.log) (list_of root both) (list_of-prefix root a.seen.log both mine) its)
