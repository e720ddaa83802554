use Rattle.std.proofs.Common.{◌∙◌, ◌++◌, [], ◌∷◌, sym, ap}
use Rattle.std.specs.FinMap as map
use Rattle.camel_table.proofs.TableLemmas.{one_bucket}
use Rattle.camel_table.proofs.table.Table.insert_first.Goals as goal

pub invariant_of-self : goal.invariant_of-self
invariant_of-self g c =
    let is = c.new-self-inside.ensures in
    let first = c.in_ok-insert.ensures.put ∙ ap (λ m. map.insert m c.args.imsi.now c.args.value) c.new-bucket.ensures in
    rw (is.hashes, is.level, is.count)
    (one_bucket (c.in_ok-push.ensures.pushed ∙ ap (λ ls. ls ++ c.insert.new.self ∷ []) c.new-buckets.ensures) c.args.imsi.now c.args.value first).0

pub returns-clause-put : goal.returns-clause-put
returns-clause-put g c =
    let first = c.in_ok-insert.ensures.put ∙ ap (λ m. map.insert m c.args.imsi.now c.args.value) c.new-bucket.ensures in
    (one_bucket {hash = λ n. n} (c.in_ok-push.ensures.pushed ∙ ap (λ ls. ls ++ c.insert.new.self ∷ []) c.new-buckets.ensures) c.args.imsi.now c.args.value
    first).1
    ∙ ap (λ m. map.insert m c.args.imsi.now c.args.value) (sym c.requires)
