use Rattle.std.proofs.Common.{◌≡◌, ◌∙◌, ◌++◌, ◌≤◌, ℕ, List, drop, length, take, refl, sym, subst, arith}
use Rattle.std.proofs.lemmas.List.{length-take-le}
use Rattle.std.proofs.lemmas.Slice.{drop-append-drop}
use Rattle.camel_c.specs.Layouts.{layout_sizes}
use Rattle.camel_c.proofs.LayoutLemmas.{begins_with_sizes}
use Rattle.camel_c.proofs.layouts.camel_layouts.Goals as goal

pub returns-clause-written : goal.returns-clause-written
returns-clause-written c = let sizes = c.args.sizes.now in let count = c.min-count.result in
    subst (λ (part : List ℕ). take 20 (part ++ drop count sizes) ≡ take (length sizes) layout_sizes) (sym c.copy_from_slice.ensures.after)
    (begins_with_sizes (length sizes) 20 count layout_sizes sizes c.min-count.ensures refl refl)

pub returns-clause-rest : goal.returns-clause-rest
returns-clause-rest c = let sizes = c.args.sizes.now in let count = c.min-count.result in
    let few : count ≤ 20 = omega (arith, c.min-count.ensures) in
    let fits : count ≤ length sizes = omega (arith, c.min-count.ensures) in
    drop-append-drop count sizes c.copy_from_slice.new.self 20 few
    (c.copy_from_slice.ensures.len ∙ length-take-le count sizes fits)
