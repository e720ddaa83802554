use Rattle.std.proofs.Common.{rules, arith, ◌≡◌, ◌∙◌, ℕ, ◌+◌, ◌++◌, List, [], ◌∷◌, Ok, true, drop, length, map, take, take_all, sym, ap, subst}
use Rattle.std.proofs.lemmas.Grind.{take_at_read}
use Rattle.std.proofs.lemmas.List.{take_at}
use Rattle.std.proofs.lemmas.Slice.Zip.{AllZip-long}
use Rattle.camel_audit.proofs.AuditLemmas.{AreExplainedTo-longer, AreExplainedTo-none, all_explained}
use Rattle.camel_audit.proofs.PartLemmas.{Accepted-push, records-push}
use Rattle.camel_audit.specs.Audit.{AreExplainedTo, IsExplainedTo, is_member, updates_of_part}
use Rattle.camel_rows.specs.Update.{Accepted}
use Rattle.camel_rows.specs.declared.subscriber.update.Update.{Update}
use Rattle.camel_audit.proofs.one_pass.passes_in_part.Goals as goal

pub move_all-requires-clause-explained : goal.move_all-requires-clause-explained
move_all-requires-clause-explained c =
    let none = c.in-Ok.ensures.items_if_clones_equal (λ y same. same) in
    rw (c.deref_mut.ensures.value, none) (AreExplainedTo-none (is_member c.args.part) c.args.profile [] c.args.transcripts.now)

pub move_all-requires-in-loop-at-clause-records : goal.move_all-requires-in-loop-at-clause-records
move_all-requires-in-loop-at-clause-records c =
    let updates = c.args.updates.now in
    let update = c.index-updates-at.result in
    let first = take c.loop-at.at updates in
    let more : take (c.loop-at.at + 1) updates ≡ first ++ update ∷ [] = grind (arith, take_at_read) in
    let yes : c.is_accepted.result ≡ Ok true = c.in_ok-is_accepted.was ∙ ap Ok c.if-not-branch.false in
    let now = c.is_accepted in
    rw more (records-push (is_member c.args.part) first update c.loop-at.records now.new.records c.loop-at.invariant.records (now.ensures.applied yes))

pub move_all-requires-in-loop-at-clause-explained : goal.move_all-requires-in-loop-at-clause-explained
move_all-requires-in-loop-at-clause-explained c =
    let updates = c.args.updates.now in
    let update = c.index-updates-at.result in
    let first = take c.loop-at.at updates in
    let more : take (c.loop-at.at + 1) updates ≡ first ++ update ∷ [] = grind (arith, take_at_read) in
    rw (more, c.deref_mut-in-loop-at.ensures.value)
    (AreExplainedTo-longer (is_member c.args.part) c.args.profile first (update ∷ []) c.args.transcripts.now c.loop-at.places.items c.loop-at.invariant.places)

pub loop-at-preserved : goal.loop-at-preserved
loop-at-preserved c =
    let is_in = is_member c.args.part in
    let so_far = c.loop-at.invariant in
    let updates = c.args.updates.now in
    let update = c.index-updates-at.result in
    let first = take c.loop-at.at updates in
    let moved = c.move_all-in-loop-at.new.places in
    let left = drop (length moved) c.loop-at.places.items in
    let more : take (c.loop-at.at + 1) updates ≡ first ++ update ∷ [] = grind (arith, take_at_read) in
    let yes : c.is_accepted.result ≡ Ok true = c.in_ok-is_accepted.was ∙ ap Ok c.if-not-branch.false in
    let whole : take c.loop-at.places.len (moved ++ left) ≡ moved = take_at moved left c.loop-at.places.len (search rules) in
    record {
      accepted = rw more (Accepted-push is_in first update c.loop-at.records so_far.records so_far.accepted (c.is_accepted.ensures.accepted yes));
      records = rw more (records-push is_in first update c.loop-at.records c.is_accepted.new.records so_far.records (c.is_accepted.ensures.applied yes));
      places = rw whole c.move_all-in-loop-at.ensures;
    }

pub are_ends-requires : goal.are_ends-requires
are_ends-requires c =
    let Explained = IsExplainedTo (is_member c.args.part) c.args.profile (take c.loop-at.at c.args.updates.now) in
    rw c.deref.ensures.value (omega (arith, AllZip-long Explained c.args.transcripts.now c.loop-at.places.items c.loop-at.invariant.places))

pub returns-clause-passes : goal.returns-clause-passes
returns-clause-passes c = λ ok.
    let is_in = is_member c.args.part in
    let profile = c.args.profile in
    let updates = c.args.updates.now in
    let transcripts = c.args.transcripts.now in
    let so_far = c.loop-at.invariant in
    let yes : c.are_ends.result ≡ true = cc in
    let whole : take c.loop-at.at updates ≡ updates = take_all c.loop-at.at updates (search rules) in
    let ends : c.loop-at.places.items ≡ map length transcripts = sym c.deref.ensures.value ∙ c.are_ends.ensures yes in
    record {
      accepted = subst (λ (us : List Update). Accepted (updates_of_part is_in us)) whole so_far.accepted;
      explained = all_explained is_in profile updates transcripts
          (subst (λ (us : List Update). AreExplainedTo is_in profile us transcripts (map length transcripts)) whole
          (subst (λ (ps : List ℕ). AreExplainedTo is_in profile (take c.loop-at.at updates) transcripts ps) ends so_far.places));
    }
