use base.Growing.{prefix_refl}
use Rattle.std.proofs.Common.{◌≡◌, ◌∙◌, ℕ, ◌≤◌, [], ap, refl, subst, sym}
use Rattle.two_copies.specs.Copies.{shown_by}
use Rattle.camel_rows.proofs.StoreLemmas.{IsFront-empty}
use Rattle.camel_vlr.proofs.StoreLemmas.{begins}
use Rattle.camel_vlr.specs.History.{PrefixData}
use Rattle.camel_vlr.specs.Seat.{IsOfItsFront}
use Rattle.camel_vlr.specs.StoreFields.{IsNew}
use Rattle.camel_vlr.specs.declared.writer.TheConstants.{MAX_UPDATES}
use Rattle.camel_vlr.proofs.writer.wait_free.Vlr+TwoCopiesWriter.empty_wait_free.Goals as goal

pub invariant_of-result : goal.invariant_of-result
invariant_of-result c =
    let writer = c.in_ok-writer.writer in let copy = shown_by writer in
    let is : copy ≡ c.empty-first.result = c.in_ok-writer.ensures.shown in
    let same : copy.front ≡ c.new-history.result = ap (λ x. x.front) is ∙ (c.empty-first.ensures.front ∙ (c.copy.ensures ∙ c.prefix-front.ensures)) in
    let none : copy.front.updates ≡ [] = ap (λ x. x.updates) same ∙ c.new-history.ensures.updates in
    let limit : copy.front.store.limit ≡ c.args.terms.limit = ap (λ x. x.store.limit) same ∙ c.new-history.ensures.limit in
    let shown : IsOfItsFront copy = record {
      front = rw none (IsFront-empty copy.front.store.limit);
      records = rw none (ap (λ x. x.records) is ∙ c.empty-first.ensures.records);
      count = rw none (ap (λ x. x.count) is ∙ c.empty-first.ensures.count);
    } in
    begins _ _ shown (subst (λ (x : PrefixData). IsNew x c.new-2.result) (sym same) c.new-2.ensures) none c.in_ok-writer.ensures.pending
    (subst (λ (n : ℕ). n ≤ MAX_UPDATES) (sym limit) c.requires.limit.1) (refl, prefix_refl copy.front.updates)
