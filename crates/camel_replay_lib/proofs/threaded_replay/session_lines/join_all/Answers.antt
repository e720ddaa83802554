use Rattle.std.proofs.Common.{rules, ◌≡◌, ◌++◌, All, IfOk, List, ◌∷◌, sym, subst}
use Rattle.std.proofs.lemmas.List.Elements.{All-cons}
use Rattle.std.specs.List.{flat_map}
use Rattle.camel_replay_lib.proofs.SessionTaskLemmas.{lines_more}
use Rattle.camel_replay_lib.specs.Rounds.{PassesOf, text_of}
use Rattle.camel_replay_lib.specs.declared.threaded_replay.session_lines.SessionThread.{SessionThread}
use Rattle.camel_replay_lib.proofs.threaded_replay.session_lines.join_all.Goals as goal

pub threads-preserved : goal.threads-preserved
threads-preserved g c =
    let so_far = c.threads.invariant in
    let thread = c.in-Some.thread in
    let left = c.pop_front.new.self.items in
    let popped : c.threads.started.items ≡ thread ∷ left = search rules in
    let whole = flat_map text_of c.args.started.items in
    let first = c.threads.joined.texts in
    let joined = c.with-joined in
    record {
      passes = λ yes rest. so_far.passes (joined.ensures.before yes) (subst (λ (threads : List SessionThread). All PassesOf threads) (sym popped)
          (All-cons PassesOf thread left (c.join.ensures.passes (joined.ensures.found yes)) rest));
      lines = lines_more (λ texts. texts.items) (λ text. text.items) first c.join.result.lines joined.result.texts (text_of thread) (flat_map text_of left)
          whole joined.ensures.lines (subst (λ (threads : List SessionThread).
          IfOk first (λ texts. flat_map (λ text. text.items) texts.items ++ flat_map text_of threads ≡ whole)) popped so_far.lines)
          c.join.ensures.lines;
    }
