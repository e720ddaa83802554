-- As many of the sizes as there is room for.
use Rattle.std.proofs.Common.{◌≡◌, ◌∙◌, ◌<◌, ◌≤◌, ℕ, List, [], ◌++◌, length, take, drop, min, sym, ap, ⊎_elim, arith}
use Rattle.std.proofs.lemmas.Bool.{cases_lt}
use Rattle.std.proofs.lemmas.List.{append-nil, drop_all, length-take-le, take-append-le, take_all}

-- the sizes that are written, in a room for fewer than there are and in one for more
pub begins_with_sizes : (room most count : ℕ) (sizes before : List ℕ) → count ≡ min room most → length before ≡ room
    → length sizes ≡ most → take most (take count sizes ++ drop count before) ≡ take room sizes
begins_with_sizes room most count sizes before is long all = ⊎_elim
    (λ (more : most < room).
    let whole : count ≡ most = omega (arith, is, more) in
    let taken : take count sizes ≡ sizes = take_all count sizes (omega (arith, whole, all)) in
    rw taken (take-append-le most sizes (drop count before) (omega (arith, all)) ∙ take_all most sizes (omega (arith, all))
    ∙ sym (take_all room sizes (omega (arith, all, more)))))
    (λ (few : room ≤ most).
    let part : count ≡ room = omega (arith, is, few) in
    let none : drop count before ≡ [] = drop_all count before (omega (arith, part, long)) in
    let short : length (take count sizes) ≡ count = length-take-le count sizes (omega (arith, part, few, all)) in
    rw (none, append-nil (take count sizes)) (take_all most (take count sizes) (omega (arith, short, part, few)) ∙ ap (λ n. take n sizes) part))
    (cases_lt most room)
