use Rattle.std.proofs.Common.{◌∙◌, ℕ, ◌<◌, ◌≤◌, List, position, slice_index_or, slice_set, swap_remove, length, sym, ap, subst, arith}
use Rattle.std.specs.FinMap as map
use Rattle.std.specs.Option.{is_some}
use Rattle.std.proofs.lemmas.List.Quantifiers.{position-Some}
use Rattle.camel_table.specs.Buckets.{AreTagged, tag_of}
use Rattle.camel_table.specs.ByImsi.{HasEachOnce, is_same, keys_of, map_of}
use Rattle.camel_table.proofs.BucketLemmas.{get-first, none_position, not_there}
use Rattle.camel_table.proofs.OrderLemmas.{taken, taken_once}
use Rattle.camel_table.proofs.TagsLemmas.{left_tags, moved_tag}
use Rattle.camel_table.proofs.bucket.Bucket.remove.Goals as goal

pub returns-in_default-clause-removed : goal.returns-in_default-clause-removed
returns-in_default-clause-removed g c =
    let imsi = c.args.imsi.now in
    let is = ap (position (λ e. is_same imsi e.0)) (sym c.deref.ensures.value) ∙ sym c.in_default.ensures in
    not_there imsi c.args.self.now (ap (λ m. map.get m imsi) (sym c.self.view_is) ∙ none_position imsi c.self.inside.entries.items is)

pub returns-in_default-clause-was : goal.returns-in_default-clause-was
returns-in_default-clause-was g c =
    let imsi = c.args.imsi.now in
    let is = ap (position (λ e. is_same imsi e.0)) (sym c.deref.ensures.value) ∙ sym c.in_default.ensures in
    sym (ap is_some (ap (λ m. map.get m imsi) (sym c.self.view_is) ∙ none_position imsi c.self.inside.entries.items is))

pub invariant_of-self : goal.invariant_of-self
invariant_of-self g c =
    let imsi = c.args.imsi.now in
    let es = c.self.inside.entries.items in
    let at = c.in-Some.at in
    let x = c.swap_remove.result in
    let e = c.index.result.now in
    let items = c.swap_remove.ensures.items in
    let is = ap (position (λ e. is_same imsi e.0)) (sym c.deref.ensures.value) ∙ sym c.in-Some.ensures in
    let first = position-Some (λ (e : List ℕ × g.row.V.Denot). is_same imsi e.0) es at x is in
    let inside : at < length (swap_remove es at x) = omega (arith, c.if-at-len.true, c.len.ensures ∙ c.swap_remove.new.self.ok.0 ∙ ap length items) in
    let set = c.set.ensures ∙ ap (slice_set c.self.inside.tags at) (c.tag_of.ensures ∙ ap tag_of c.imsi-key.ensures) in
    let moved = moved_tag es at x c.self.inside.tags c.self.invariant.1 inside (c.index.ensures ∙ ap (λ l. slice_index_or l at e) items) in (
      subst HasEachOnce (sym items) (taken_once es at x first.0 c.swap_remove.ensures.value c.self.invariant.0),
      subst (λ l. AreTagged c.set.new.self (keys_of l)) (sym items) (subst (λ tags. AreTagged tags (keys_of (swap_remove es at x))) (sym set) moved),
    )

pub invariant_of-self-else-at-len : goal.invariant_of-self-else-at-len
invariant_of-self-else-at-len g c =
    let imsi = c.args.imsi.now in
    let es = c.self.inside.entries.items in
    let at = c.in-Some.at in
    let x = c.swap_remove.result in
    let items = c.swap_remove.ensures.items in
    let is = ap (position (λ e. is_same imsi e.0)) (sym c.deref.ensures.value) ∙ sym c.in-Some.ensures in
    let first = position-Some (λ (e : List ℕ × g.row.V.Denot). is_same imsi e.0) es at x is in
    let past : length (swap_remove es at x) ≤ at = omega (arith, c.if-at-len.false, c.len.ensures ∙ c.swap_remove.new.self.ok.0 ∙ ap length items) in (
      subst HasEachOnce (sym items) (taken_once es at x first.0 c.swap_remove.ensures.value c.self.invariant.0),
      subst (λ l. AreTagged c.self.inside.tags (keys_of l)) (sym items) (left_tags es at x c.self.inside.tags c.self.invariant.1 past),
    )

pub returns-then-at-len-clause-removed : goal.returns-then-at-len-clause-removed
returns-then-at-len-clause-removed g c =
    let imsi = c.args.imsi.now in
    let es = c.self.inside.entries.items in
    let x = c.swap_remove.result in
    let is = ap (position (λ e. is_same imsi e.0)) (sym c.deref.ensures.value) ∙ sym c.in-Some.ensures in
    let first = position-Some (λ (e : List ℕ × g.row.V.Denot). is_same imsi e.0) es c.in-Some.at x is in
    let own = c.swap_remove.ensures.value in
    ap map_of c.swap_remove.ensures.items
    ∙ taken es c.in-Some.at x first.0 own c.self.invariant.0 imsi (ap (λ (e : List ℕ × g.row.V.Denot). is_same imsi e.0) own ∙ first.1) c.self.view_is

pub returns-then-at-len-clause-was : goal.returns-then-at-len-clause-was
returns-then-at-len-clause-was g c =
    let imsi = c.args.imsi.now in
    let is = ap (position (λ e. is_same imsi e.0)) (sym c.deref.ensures.value) ∙ sym c.in-Some.ensures in
    sym (ap is_some (ap (λ m. map.get m imsi) (sym c.self.view_is) ∙ get-first imsi c.self.inside.entries.items _ _ is c.swap_remove.ensures.value))

pub returns-else-at-len-clause-removed : goal.returns-else-at-len-clause-removed
returns-else-at-len-clause-removed g c =
    let imsi = c.args.imsi.now in
    let es = c.self.inside.entries.items in
    let x = c.swap_remove.result in
    let is = ap (position (λ e. is_same imsi e.0)) (sym c.deref.ensures.value) ∙ sym c.in-Some.ensures in
    let first = position-Some (λ (e : List ℕ × g.row.V.Denot). is_same imsi e.0) es c.in-Some.at x is in
    let own = c.swap_remove.ensures.value in
    ap map_of c.swap_remove.ensures.items
    ∙ taken es c.in-Some.at x first.0 own c.self.invariant.0 imsi (ap (λ (e : List ℕ × g.row.V.Denot). is_same imsi e.0) own ∙ first.1) c.self.view_is

pub returns-else-at-len-clause-was : goal.returns-else-at-len-clause-was
returns-else-at-len-clause-was g c =
    let imsi = c.args.imsi.now in
    let is = ap (position (λ e. is_same imsi e.0)) (sym c.deref.ensures.value) ∙ sym c.in-Some.ensures in
    sym (ap is_some (ap (λ m. map.get m imsi) (sym c.self.view_is) ∙ get-first imsi c.self.inside.entries.items _ _ is c.swap_remove.ensures.value))
