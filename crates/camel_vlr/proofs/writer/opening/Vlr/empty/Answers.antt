use Rattle.std.proofs.Common.{◌≡◌, ◌∙◌, ℕ, ◌≤◌, false, T, Ok, Err, List, [], ◌∷◌, ◌++◌, ap, subst, sym}
use Rattle.std.specs.Result.{is_err, MatchResult}
use Rattle.std.proofs.lemmas.Result.{IfOk-at_ok}
use Rattle.left_right.specs.Sides.{view}
use Rattle.camel_vlr.specs.History.{PrefixData}
use Rattle.camel_vlr.proofs.StoreLemmas.{begins}
use Rattle.camel_vlr.specs.Operation.{pending_operations}
use Rattle.camel_vlr.specs.Seat.{Knows}
use Rattle.camel_vlr.specs.StoreFields.{IsNew}
use Rattle.camel_vlr.specs.declared.writer.TheConstants.{MAX_UPDATES}
use Rattle.camel_vlr.specs.declared.writer.operation.Operation.{Operation}
use Rattle.camel_vlr.specs.declared.writer.operation.Operation.TheVariants.{Front}
use Rattle.camel_vlr.proofs.writer.opening.Vlr.empty.Goals as goal

pub invariant_of-result : goal.invariant_of-result
invariant_of-result g c =
    let writer = c.publish_all-writer.result.0 in let e = c.publish_all-writer.ensures in
    let shown = IfOk-at_ok _ c.in-Ok.is e.shown in
    let same : writer.desk.shown.value.front ≡ c.new-history.result = shown.1 ∙ c.prefix-front.ensures in
    let limit : writer.desk.shown.value.front.store.limit ≡ c.args.terms.limit = ap (λ x. x.store.limit) same ∙ c.new-history.ensures.limit in
    begins _ _ shown.0 (subst (λ (x : PrefixData). IsNew x c.new-in-Ok.result) (sym same) c.new-in-Ok.ensures)
    (ap (λ x. x.updates) same ∙ c.new-history.ensures.updates) (IfOk-at_ok _ c.in-Ok.is e.none)
    (subst (λ (n : ℕ). n ≤ MAX_UPDATES) (sym limit) c.requires.limit.1)
    (subst (λ (x : PrefixData). Knows (view writer.desk.place) x) (sym shown.1) (IfOk-at_ok _ c.in-Ok.is e.seat))

pub publish_all-writer-requires-clause-last : goal.publish_all-writer-requires-clause-last
publish_all-writer-requires-clause-last g c =
    let old = pending_operations c.in_ok-writer.writer in
    let new = pending_operations c.append.new.self in
    let front = c.prefix-front.result in
    let item = Front c.copy-3.result in
    elim c.append.result as (λ r. is_err r ≡ false → MatchResult r (λ _. new ≡ old ++ item ∷ []) (λ back. (back ≡ item) × (new ≡ old))
    → (x : List Operation) × (new ≡ x ++ Front front ∷ [])) [
      | Ok done ↦ λ ok pending. (old, pending ∙ ap (λ f. old ++ Front f ∷ []) c.copy-3.ensures)
      | Err why ↦ λ ok pending. absurd (subst T ok tt)
    ] (sym c.if-is_err.ensures.value) c.append.ensures.pending
