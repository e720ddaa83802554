use Rattle.std.proofs.Common.{rules, ◌≡◌, ◌∙◌, ◌++◌, true, All, List, [], ◌∷◌, sym, ap, subst, append_assoc, append-nil}
use Rattle.std.proofs.lemmas.List.{nil_from_length}
use Rattle.std.proofs.lemmas.List.Elements.{All-tail}
use Rattle.camel_rows.specs.Store.{Updates}
use Rattle.camel_script.specs.Line.{line_text}
use Rattle.camel_script.specs.declared.line.Line.{Line}
use Rattle.camel_script.specs.declared.record.Record.{Record}
use Rattle.camel_vlr.specs.History.{StoreId}
use Rattle.camel_vlr.specs.Store.{StoreData}
use Rattle.camel_script_replay.specs.Output.{updates_from, line_of, output_from, updates_after}
use Rattle.camel_replay_lib.specs.ThreadsOutput.{is_no_call}
use Rattle.camel_replay_lib.proofs.threaded_replay.writer.Writer.answer_all.Goals as goal

pub records-preserved : goal.records-preserved
unfolding output_from
records-preserved g c =
    let was = c.records.invariant in
    let limit = c.args.self.now.store.store.limit in
    let profile = c.args.self.now.store.store.profile in
    let asked = c.in-Some.next in
    let left = c.pop_front.new.self.items in
    let before = c.records.self in
    let updates = before.store.updates in
    let popped : c.records.records.items ≡ asked ∷ left = search rules in
    let same : before.store.store.limit ≡ limit = ap (λ (s : StoreId). s.limit) was.store in
    let own = line_text (line_of profile limit updates asked) in
    let line : c.in_ok-line.line ≡ line_of profile limit updates asked =
    c.in_ok-line.ensures.line ∙ ap (λ (s : StoreId). line_of s.profile s.limit updates asked) was.store in
    let after : c.push.new.self.store.updates ≡ updates_after limit updates asked =
    ap (λ (s : StoreData). s.updates) c.in_ok-push.ensures.store ∙ c.in_ok-line.ensures.updates ∙ ap (λ n. updates_after n updates asked) same in
    let text : c.push.new.self.output ≡ before.output ++ own =
    c.in_ok-push.ensures.output ∙ ap (λ (l : Line). c.answer.new.self.output ++ line_text l) line ∙ ap (λ out. out ++ own) c.in_ok-line.ensures.output in
    record {
      no_calls = All-tail (λ (r : Record). is_no_call r ≡ true) asked left (subst (All (λ (r : Record). is_no_call r ≡ true)) popped was.no_calls);
      output = ap (λ out. out ++ output_from profile limit c.push.new.self.store.updates left) text
          ∙ ap (λ (u : Updates). (before.output ++ own) ++ output_from profile limit u left) after
          ∙ append_assoc before.output own (output_from profile limit (updates_after limit updates asked) left)
          ∙ sym (ap (λ (rs : List Record). before.output ++ output_from profile limit updates rs) popped) ∙ was.output;
      updates = ap (λ (u : Updates). updates_from limit u left) after ∙ sym (ap (λ (rs : List Record). updates_from limit updates rs) popped) ∙ was.updates;
      store = ap (λ (s : StoreData). s.store) c.in_ok-push.ensures.store ∙ c.in_ok-line.ensures.store ∙ was.store;
    }

pub returns-clause-output : goal.returns-clause-output
unfolding output_from
returns-clause-output g c =
    let was = c.records.invariant in
    let store = c.args.self.now.store.store in
    let now = c.records.self in
    let none : c.records.records.items ≡ [] = nil_from_length c.records.records.items (search rules) in
    sym (append-nil now.output) ∙ sym (ap (λ (rs : List Record). now.output ++ output_from store.profile store.limit now.store.updates rs) none) ∙ was.output
