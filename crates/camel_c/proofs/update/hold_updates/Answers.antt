use Rattle.std.proofs.Common.{◌≡◌, ◌∙◌, ◌<◌, ◌≤◌, length, List, [], ◌∷◌, ◌++◌, get_or, sym, ap, subst, arith}
use Rattle.std.proofs.Math.ListN.{set}
use Rattle.std.proofs.lemmas.List.{set-get_or}
use Rattle.std.specs.Prelude.{Some}
use Rattle.camel_c.proofs.HandleLemmas.{held_at, hold_all, hold_more, none_of, whole_of}
use Rattle.camel_c.specs.Updates.{HoldUpdates, update_held}
use Rattle.camel_c.specs.declared.handle.CamelHandle.{CamelHandle}
use Rattle.camel_c.proofs.update.hold_updates.Goals as goal

pub returns-then-not-holds_update-clause-no : goal.returns-then-not-holds_update-clause-no
returns-then-not-holds_update-clause-no c = λ held holds.
    let l = c.loop-at in
    let other = c.index-handles-at.result in
    let as_before = subst (λ (handles : List CamelHandle). HoldUpdates handles held) (sym l.invariant.same) holds in
    let within : l.at < length l.handles = omega (arith, c.loop-at-test.true, l.auto.handles) in
    let told = c.if-not-holds_update.ensures.told in
    absurd (held_at l.handles held l.at other as_before within (none_of _ (sym told)))

pub loop-at-preserved : goal.loop-at-preserved
loop-at-preserved c =
    let handles = c.args.handles.now in
    let l = c.loop-at in
    let other = c.index-handles-at.result in
    let looked = c.if-not-holds_update.ensures in
    let so_far = l.invariant.so_far in
    let next = whole_of (update_held (get_or l.handles l.at other).value) (sym looked.told) in
    let is = subst (λ (hs : List CamelHandle). update_held (get_or hs l.at other).value ≡ Some next.0) l.invariant.same next.1 in record {
      same = ap (λ (h : CamelHandle). set l.handles l.at h) looked.same ∙ set-get_or l.handles l.at other ∙ l.invariant.same;
      so_far = (so_far.0 ++ next.0 ∷ [], hold_more handles l.at other so_far.0 next.0 c.loop-at-test.true so_far.1 is);
    }

pub returns-clause-yes : goal.returns-clause-yes
returns-clause-yes c = λ done.
    let l = c.loop-at in
    let whole : length c.args.handles.now ≤ l.at = omega (arith, c.loop-at-test.false, l.auto.at-end, l.auto.handles) in
    (l.invariant.so_far.0, hold_all c.args.handles.now l.at l.invariant.so_far.0 whole l.invariant.so_far.1)
