use Rattle.std.proofs.Common.{◌≡◌, ℕ, ◌+◌, ◌≤◌, Bool, List, ◌++◌, not, filter, vec_capacity, vec_len}
use Rattle.std.specs.Vec.Iter.{into_iter_items, into_iter_len}
use Rattle.camel_table.specs.Buckets.{is_at}
use Rattle.camel_table.proofs.bucket.split.Given as goal

abbrev pub invariant-loop-entry : goal.invariant-loop-entry
invariant-loop-entry g l =
    let stays : List ℕ × _ → Bool = λ entry. is_at g.S.Hasher.Hasher.finish g.S.Hasher.Hasher.write g.S.BuildHasher.build_hasher l.addressing l.at entry.0 in
    let rest = into_iter_items l.entry-iterator in
    (l.stay.items ++ filter stays rest ≡ filter stays l.fn.entries.items)
    × (l.leave.items ++ filter (λ entry. not (stays entry)) rest ≡ filter (λ entry. not (stays entry)) l.fn.entries.items)
    × (vec_len l.stay + into_iter_len l.entry-iterator ≤ vec_capacity l.stay)
    × (vec_len l.leave + into_iter_len l.entry-iterator ≤ vec_capacity l.leave)
