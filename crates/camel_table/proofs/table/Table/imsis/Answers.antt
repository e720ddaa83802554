use Rattle.std.proofs.Common.{◌∙◌, ◌+◌, ◌<◌, take, sym, ap, subst, arith}
use Rattle.std.specs.List.{sum_by}
use Rattle.std.proofs.lemmas.List.{take_all}
use Rattle.std.proofs.lemmas.List.Sums.{sum_by_more}
use Rattle.camel_table.specs.ByImsi.{times_listed, times_stored}
use Rattle.camel_table.proofs.BucketsLemmas.{stored_in_all}
use Rattle.camel_table.proofs.table.Table.imsis.Goals as goal

pub loop-at-init : goal.loop-at-init
loop-at-init g c = λ q. ap (times_listed q) c.new-imsis.ensures.items

pub loop-at-preserved : goal.loop-at-preserved
loop-at-preserved g c = λ q.
    let at = c.loop-at.at in
    let inside = subst (λ n. at < n) c.len-at-end.ensures c.loop-at-test.true in
    c.in_ok-push_imsis.ensures q ∙ ap (λ n. n + times_stored q c.get.result.now) (c.loop-at.invariant q)
    ∙ ap (λ m. sum_by (times_stored q) (take at c.self.inside.buckets) + times_stored q m) c.get.ensures ∙ sym (sum_by_more (times_stored q) c.self.inside.buckets at c.get.result.now inside)

pub returns : goal.returns
returns g c = λ q.
    let buckets = c.self.inside.buckets in
    c.loop-at.invariant q ∙ ap (sum_by (times_stored q)) (take_all c.loop-at.at buckets (omega (arith, c.len-at-end.ensures, c.loop-at-test.false)))
    ∙ stored_in_all _ buckets c.self.invariant.placed q ∙ ap (times_stored q) c.self.view_is
