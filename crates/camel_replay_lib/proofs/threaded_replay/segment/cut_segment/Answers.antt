use Rattle.std.proofs.Common.{rules, arith, ◌≡◌, ◌∙◌, ◌++◌, [], ◌∷◌, length, refl, sym, ap, length-append}
use Rattle.std.proofs.lemmas.List.Elements.{filter-append}
use Rattle.camel_script.specs.declared.record.Record.{Record}
use Rattle.camel_script.specs.declared.record.Record.TheVariants as script_record
use Rattle.camel_replay_lib.proofs.SegmentLemmas.{IsOther, IsQuiet-push, calls-push, filter-push, is_other}
use Rattle.camel_replay_lib.proofs.SegmentLemmas.{jobs_from-length, no_calls-push, others-push, was_split}
use Rattle.camel_replay_lib.specs.Rounds.{jobs_from}
use Rattle.camel_replay_lib.specs.ThreadsOutput.{is_no_call}
use Rattle.camel_replay_lib.proofs.threaded_replay.segment.cut_segment.Goals as goal

pub overflow_add-call : goal.overflow_add-call
overflow_add-call c =
    let so_far = c.records.invariant in
    let few = jobs_from-length c.args.first so_far.done in
    let kept : c.len.result ≡ length c.records.segment.calls.items = search rules in
    let count : c.len.result ≡ length (jobs_from c.args.first so_far.done) = kept ∙ ap length so_far.calls in
    let whole = length-append so_far.done c.records.records.items in
    let all = ap length so_far.whole in
    omega (arith, few, count, whole, all, c.requires.few)

pub records-preserved-in-Continue-1 : goal.records-preserved-in-Continue-1
records-preserved-in-Continue-1 c =
    let so_far = c.records.invariant in
    let left = c.pop_front.new.self.items in
    let event = c.in-Call.event in
    let asked : Record = script_record.Call event in
    let popped : c.records.records.items ≡ asked ∷ left = c.in-Some.ensures.items ∙ ap (λ (next : Record). next ∷ left) c.in-Call.is in
    let kept : c.len.result ≡ length c.records.segment.calls.items = search rules in
    let number : c.len.result ≡ length (jobs_from c.args.first so_far.done) = kept ∙ ap length so_far.calls in
    record {
      done = so_far.done ++ asked ∷ [];
      whole = was_split so_far.done left c.records.records.items c.args.records.now.items asked popped so_far.whole;
      quiet = IsQuiet-push so_far.done asked (λ more left is. is) so_far.quiet;
      calls = c.in_ok-push-in-Call.ensures.items ∙ rw (number, so_far.calls) (sym (calls-push c.args.first so_far.done event));
      others = so_far.others ∙ sym (others-push so_far.done event);
    }

pub returns-in-Publish : goal.returns-in-Publish
returns-in-Publish c =
    let so_far = c.records.invariant in
    let left = c.pop_front.new.self.items in
    let popped : c.records.records.items ≡ script_record.Publish ∷ left = c.in-Some.ensures.items ∙ ap (λ (next : Record). next ∷ left) c.in-Publish.is in
    record {
      records = so_far.done ++ script_record.Publish ∷ [];
      is_segment = so_far.quiet (script_record.Publish ∷ []) left refl;
      whole = sym (was_split so_far.done left c.records.records.items c.args.records.now.items script_record.Publish popped so_far.whole);
      calls = so_far.calls ∙ sym (no_calls-push c.args.first so_far.done script_record.Publish (λ n. refl));
      others = c.in_ok-push_back-in-Publish.ensures.items ∙ rw so_far.others (sym (filter-append is_no_call so_far.done (script_record.Publish ∷ [])));
    }

pub records-preserved : goal.records-preserved
records-preserved c =
    let so_far = c.records.invariant in
    let left = c.pop_front.new.self.items in
    let asked = c.in-Some.next in
    let other : IsOther asked = is_other asked (λ event is. c.in_default-next.not-Call event is) c.in_default-next.not-Publish in
    record {
      done = so_far.done ++ asked ∷ [];
      whole = was_split so_far.done left c.records.records.items c.args.records.now.items asked c.in-Some.ensures.items so_far.whole;
      quiet = IsQuiet-push so_far.done asked other.quiet so_far.quiet;
      calls = so_far.calls ∙ sym (no_calls-push c.args.first so_far.done asked other.no_jobs);
      others = c.in_ok-push_back-in_default-next.ensures.items ∙ rw so_far.others (sym (filter-push so_far.done asked other.no_call));
    }
