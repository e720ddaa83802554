use Rattle.std.proofs.Common.{◌≡◌, ◌∙◌, ◌<◌, ◌++◌, ◌∷◌, [], append_assoc, length, take, sym, ap, subst, arith}
use Rattle.std.proofs.lemmas.List.{append-nil, map-append, take_all, take_more}
use Rattle.camel_table.specs.ByImsi.{ByImsi, ListsEachOnceMore, keys_of}
use Rattle.camel_table.proofs.OnceLemmas.{entries_listed}
use Rattle.camel_table.proofs.bucket.Bucket.push_imsis.Goals as goal

pub loop-at-init : goal.loop-at-init
loop-at-init g c = sym (append-nil c.args.imsis.now.items)

pub loop-at-preserved : goal.loop-at-preserved
loop-at-preserved g c =
    let es = c.self.inside.entries.items in
    let at = c.loop-at.at in
    let entry = c.index.result.now in
    let inside : at < length es = subst (λ n. at < n) (c.len-at-end.ensures ∙ c.self.inside.entries.ok.0) c.loop-at-test.true in
    let next = take_more es at entry inside ∙ ap (λ e. take at es ++ e ∷ []) (sym c.index.ensures) in
    c.in_ok-push.ensures.items ∙ ap (λ imsi. c.loop-at.imsis.items ++ imsi ∷ []) c.imsi.ensures ∙ ap (λ imsis. imsis ++ entry.0 ∷ []) c.loop-at.invariant
    ∙ append_assoc c.args.imsis.now.items (keys_of (take at es)) (entry.0 ∷ [])
    ∙ ap (λ keys. c.args.imsis.now.items ++ keys) (sym (ap keys_of next ∙ map-append (λ e. e.0) (take at es) (entry ∷ [])))

pub returns : goal.returns
returns g c =
    let es = c.self.inside.entries.items in
    let before = c.args.imsis.now.items in
    let ended : length es ≡ c.len-at-end.result = sym (c.len-at-end.ensures ∙ c.self.inside.entries.ok.0) in
    let all = take_all c.loop-at.at es (omega (arith, ended, c.loop-at-test.false)) in
    let listed = c.loop-at.invariant ∙ ap (λ fs. before ++ keys_of fs) all in
    subst (λ (m : ByImsi g.row.V.Denot). ListsEachOnceMore before c.loop-at.imsis.items m) c.self.view_is
    (entries_listed before es listed c.self.invariant.0)
