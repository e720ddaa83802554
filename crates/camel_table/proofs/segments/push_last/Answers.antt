use Rattle.std.proofs.Common.{◌∙◌, [], ◌∷◌, Ok, Err, OnErr, Result, length, length-append, sym, ap, arith}
use Rattle.std.proofs.lemmas.List.{append-nil}
use Rattle.camel_table.proofs.SegmentsLemmas.{full_pushed, pushed_last}
use Rattle.camel_table.proofs.segments.push_last.Goals as goal

on_err : {A E B : Type 0} (r : Result A E) → B → OnErr r B
on_err (Ok x) b = tt
on_err (Err e) b = b

pub returns-in_err-push-clause-full : goal.returns-in_err-push-clause-full
returns-in_err-push-clause-full g c =
    let same = ap length c.in_err-push.ensures.items in
    full_pushed _ c.requires.room (c.len-last.ensures ∙ c.args.segments.now.ok.0) c.index_mut.ensures.value _ c.requires.full (omega (arith, same))

pub returns-in_err-push-clause-unchanged : goal.returns-in_err-push-clause-unchanged
returns-in_err-push-clause-unchanged g c =
    let same = c.in_err-push.ensures.items ∙ sym (append-nil c.index_mut.result.now.items) in
    on_err c.from_residual.result
    (pushed_last _ c.requires.room (c.len-last.ensures ∙ c.args.segments.now.ok.0) c.index_mut.ensures.value c.push.new.self [] same ∙ append-nil _)

pub returns-clause-full : goal.returns-clause-full
returns-clause-full g c =
    let longer = ap length c.in_ok-push.ensures.items ∙ length-append c.index_mut.result.now.items (c.args.item ∷ []) in
    full_pushed _ c.requires.room (c.len-last.ensures ∙ c.args.segments.now.ok.0) c.index_mut.ensures.value _ c.requires.full (omega (arith, longer))

pub returns-clause-pushed : goal.returns-clause-pushed
returns-clause-pushed g c =
    pushed_last _ c.requires.room (c.len-last.ensures ∙ c.args.segments.now.ok.0) c.index_mut.ensures.value _ (c.args.item ∷ []) c.in_ok-push.ensures.items
