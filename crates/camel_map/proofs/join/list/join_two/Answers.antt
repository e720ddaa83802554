use Rattle.std.proofs.Common.{◌≡◌, ◌∙◌, [], ◌++◌, ◌≤◌, ◌+◌, length, ap, sym, refl, inr, arith}
use Rattle.std.proofs.lemmas.List.{length-append}
use Rattle.std.proofs.lemmas.Result.{err_from_is_err_and}
use Rattle.camel_rows.specs.TdpRow.{kept_of}
use Rattle.camel_map.proofs.Joined.Counts.{no_items, some_length, sum_few}
use Rattle.camel_map.proofs.Joined.Lists.{none_kept, some_kept}
use Rattle.camel_map.proofs.join.list.join_two.Goals.{else-is_empty+in_ok-kept-2, then-is_empty+in_ok-kept}
use Rattle.camel_map.proofs.join.list.join_two.Goals as goal

pub returns-in_err-kept-2 : goal.returns-in_err-kept-2
returns-in_err-kept-2 g c =
    λ earlier later kept same kept_too same_too.
    let dp_of = g.E.AtDetectionPoint.dp_of in let points = g.E.CriteriaEntry.points in
    let one = c.args.one.now in let other = c.args.other.now in
    let received : c.in_ok-received.received.items ≡ one ++ other =
    rw (c.in_ok-received.ensures, c.as_slice.ensures, c.as_slice-2.ensures) refl in
    let sum = sum_few (c.args.count + c.args.more) _ c.saturating_add-count.ensures c.if-count-gt-MAX_TDP_DATA.false in
    let few : length earlier + length later ≤ 10 = omega (arith, same, same_too, sum.0) in
    let some_there = some_length _ c.if-is_empty.ensures in
    let some : 1 ≤ length (one ++ other) = rw (← received) (omega (arith, some_there, c.in_ok-received.received.ok.0)) in
    let returned = err_from_is_err_and c.from_residual-in_err-kept-2.result c.from_residual-in_err-kept-2.ensures.1 in
    rw (returned.1, returned.2)
    (inr (some_kept dp_of points earlier later one other kept kept_too few some
    ∙ (ap (kept_of points dp_of) (sym received) ∙ sym c.in_err-kept-2.ensures)))

pub returns : goal.returns
returns g c =
    λ earlier later kept same kept_too same_too.
    let dp_of = g.E.AtDetectionPoint.dp_of in let points = g.E.CriteriaEntry.points in
    let one = c.args.one.now in let other = c.args.other.now in
    let received : c.in_ok-received.received.items ≡ one ++ other =
    rw (c.in_ok-received.ensures, c.as_slice.ensures, c.as_slice-2.ensures) refl in
    let sum = sum_few (c.args.count + c.args.more) _ c.saturating_add-count.ensures c.if-count-gt-MAX_TDP_DATA.false in
    let few : length earlier + length later ≤ 10 = omega (arith, same, same_too, sum.0) in
    let count : c.saturating_add-count.result ≡ length (earlier ++ later) =
    omega (arith, same, same_too, sum.1, length-append earlier later) in
    elim c.if-is_empty.branch [
      | then-is_empty+in_ok-kept w ↦
          let none = no_items c.in_ok-received.received.items _ c.in_ok-received.received.ok.0 w.if-is_empty.ensures in
          let empty : one ++ other ≡ [] = sym received ∙ none in
          let copied : w.in_ok-kept.kept ≡ one = w.in_ok-kept.ensures.cases in
          rw (w.kept-is, copied) (none_kept dp_of points earlier later one other kept kept_too few empty, count)
      | else-is_empty+in_ok-kept-2 w ↦
          let some_there = some_length _ w.if-is_empty.ensures in
          let some : 1 ≤ length (one ++ other) = rw (← received) (omega (arith, some_there, c.in_ok-received.received.ok.0)) in
          rw w.kept-is (
            some_kept dp_of points earlier later one other kept kept_too few some
                ∙ (ap (kept_of points dp_of) (sym received) ∙ sym w.in_ok-kept-2.ensures),
            count,
          )
    ]
