use Rattle.std.proofs.Common.{rules, arith, ◌≡◌, ◌∙◌, ◌<◌, ◌+◌, ◌^◌, ◌++◌, List, [], length, map, refl, sym, ap, subst, append_assoc, append-nil, length-append}
use Rattle.std.proofs.lemmas.List.{nil_from_length}
use Rattle.std.proofs.lemmas.List.Elements.{filter_passes}
use Rattle.std.proofs.lemmas.Slice.Zip.{AllZip-long}
use Rattle.std.specs.List.{filter}
use Rattle.camel_audit.specs.declared.transcript.Job.{Job}
use Rattle.camel_rows.specs.Store.{no_updates}
use Rattle.camel_script.specs.declared.record.Record.{Record}
use Rattle.camel_vlr.specs.History.{StoreId}
use Rattle.camel_replay_lib.proofs.RoundLemmas.{AllZip-numbered, HasAnswered-none, HasAnswered-more, IsOf-more}
use Rattle.camel_replay_lib.proofs.RoundLemmas.{WritesScript-more, WritesScript-none, calls-more, number-more}
use Rattle.camel_replay_lib.proofs.SegmentLemmas.{call_between, jobs_from-length}
use Rattle.camel_script_replay.specs.Output.{updates_from}
use Rattle.camel_replay_lib.specs.Rounds.{ServesRound, ServesSeat, WritesLines, jobs_from, WriterData}
use Rattle.camel_replay_lib.specs.ThreadsOutput.{calls_from, is_no_call, script_calls}
use Rattle.camel_replay_lib.proofs.threaded_replay.run_rounds.Goals as goal

pub segments-init : goal.segments-init
segments-init g c = record {
  done = [];
  whole = refl;
  number = refl;
  writer = WritesScript-none c.args.writer.store.store.profile c.args.writer.store.store.limit c.args.writer c.requires.new;
  store = refl;
  same_store = c.requires.same_store;
  numbered = c.requires.numbered;
  count = refl;
  calls = [];
  split = refl;
  answered = HasAnswered-none (length c.args.seats.items) c.args.seats.items c.requires.empty;
}

pub cut_segment-requires : goal.cut_segment-requires
cut_segment-requires g c =
    let so_far = c.segments.invariant in
    let small : length c.args.records.items < 2 ^ 64 = search rules in
    let few = jobs_from-length 0 so_far.done in
    let count = length-append so_far.done c.segments.records.items in
    let whole = ap length so_far.whole in
    record { few = omega (arith, so_far.number, small, few, count, whole) }

pub overflow_add-first : goal.overflow_add-first
overflow_add-first g c =
    let so_far = c.segments.invariant in
    let cut = c.in_ok-segment.ensures in
    let small : length c.args.records.items < 2 ^ 64 = search rules in
    let kept : c.len.result ≡ length c.in_ok-segment.segment.calls.items = search rules in
    let earlier = jobs_from-length 0 so_far.done in
    let more = jobs_from-length c.segments.first cut.records in
    let calls = ap length cut.calls in
    let count = length-append so_far.done c.segments.records.items in
    let whole = ap length so_far.whole in
    let cut_count = length-append cut.records c.cut_segment.new.records.items in
    let cut_whole = ap length cut.whole in
    omega (arith, so_far.number, small, kept, earlier, more, calls, count, whole, cut_count, cut_whole)

pub run_round-after-requires-clause-no_calls : goal.run_round-after-requires-clause-no_calls
run_round-after-requires-clause-no_calls g c = λ κs lives. rw c.in_ok-segment.ensures.others (filter_passes is_no_call c.in_ok-segment.ensures.records)

pub segments-preserved : goal.segments-preserved
segments-preserved g c =
    let so_far = c.segments.invariant in
    let cut = c.in_ok-segment.ensures in
    let store = c.args.writer.store.store in
    let first = c.segments.first in
    let left = c.cut_segment.new.records.items in
    let before = c.segments.writer in
    let after : WriterData = c.run_round-after.result.0 in
    let seats = c.segments.seats.items in
    let served = c.in_ok-seats.seats.items in
    let threads = length c.args.seats.items in
    let least = length before.store.updates.published in
    let most = length after.store.updates.published in
    let jobs = jobs_from first cut.records in
    let kept : c.len.result ≡ length c.in_ok-segment.segment.calls.items = search rules in
    let count : c.len.result ≡ length jobs = kept ∙ ap length cut.calls in
    let same : before.store.store.limit ≡ store.limit = ap (λ (s : StoreId). s.limit) so_far.store in
    let same_profile : before.store.store.profile ≡ store.profile = ap (λ (s : StoreId). s.profile) so_far.store in
    let lines : WritesLines (filter is_no_call cut.records) before after =
    subst (λ (rs : List Record). WritesLines rs before after) cut.others (rw c.in_ok-seats.was at c.run_round-after.ensures.output) in
    let round : ServesRound before.store.updates after.store.updates jobs seats served =
    subst (λ (js : List Job). ServesRound before.store.updates after.store.updates js seats served) cut.calls
    (rw c.in_ok-seats.was at c.run_round-after.ensures.seats) in
    let whole = c.args.records.items in
    let split = subst (λ (rs : List Record).
    script_calls store.limit whole ≡ so_far.calls ++ calls_from store.limit (updates_from store.limit no_updates so_far.done) first rs)
    cut.whole so_far.split in
    record {
      done = so_far.done ++ cut.records;
      whole = append_assoc so_far.done cut.records left ∙ ap (λ rs. so_far.done ++ rs) (sym cut.whole) ∙ so_far.whole;
      number = ap (λ n. first + n) count ∙ number-more so_far.done cut.records first so_far.number;
      writer = WritesScript-more store.profile store.limit so_far.done cut.records before after same_profile same so_far.writer lines;
      store = c.run_round-after.ensures.store ∙ so_far.store;
      same_store = IsOf-more store least most (length seats) jobs seats served round so_far.same_store;
      numbered = AllZip-numbered (ServesSeat least most (length seats) jobs) (λ x y is. is.number) 0 seats served round so_far.numbered;
      count = AllZip-long (ServesSeat least most (length seats) jobs) seats served round ∙ so_far.count;
      calls = so_far.calls ++ map (call_between least most) jobs;
      split = rw count (calls-more store.profile store.limit so_far.done cut.records before after same_profile same so_far.writer lines first so_far.calls
          whole left cut.is_segment split);
      answered = HasAnswered-more before.store.updates after.store.updates threads so_far.calls jobs seats served so_far.count round so_far.answered;
    }

pub returns-clause-answered : goal.returns-clause-answered
returns-clause-answered g c =
    let so_far = c.segments.invariant in
    let limit = c.args.writer.store.store.limit in
    let none : c.segments.records.items ≡ [] = nil_from_length c.segments.records.items (search rules) in
    let all : script_calls limit c.args.records.items ≡ so_far.calls =
    so_far.split ∙ ap (λ (rs : List Record). so_far.calls ++ calls_from limit (updates_from limit no_updates so_far.done) c.segments.first rs) none
    ∙ append-nil so_far.calls in
    rw all so_far.answered
