use Rattle.std.proofs.Common.{rules, ◌≡◌, ◌∙◌, ◌++◌, All, List, length, sym, ap, subst}
use Rattle.std.proofs.lemmas.List.{length-map}
use Rattle.std.proofs.lemmas.Result.{IfOk-weaker}
use Rattle.camel_audit.specs.Audit.{Passes}
use Rattle.camel_rows.specs.Store.{Updates}
use Rattle.camel_rows.specs.declared.subscriber.update.Update.{Update}
use Rattle.camel_script.specs.Line.{line_text}
use Rattle.camel_script.specs.declared.line.Line.TheVariants as line
use Rattle.camel_replay_lib.proofs.RoundLemmas.{IsOf-fresh, SessionsAnswer-numbered}
use Rattle.std.specs.List.{filter}
use Rattle.camel_script_replay.specs.Output.{published_after, output}
use Rattle.camel_replay_lib.specs.Rounds.{HasAnswered, WritesScript, entries_in, session_in}
use Rattle.camel_replay_lib.specs.ThreadsOutput.{SessionsAnswer, is_no_call, script_calls, sessions_text}
use Rattle.camel_replay_lib.proofs.threaded_replay.answer_script.Goals as goal

pub run_rounds-requires-clause-same_store : goal.run_rounds-requires-clause-same_store
run_rounds-requires-clause-same_store g c = λ κs lives.
    IsOf-fresh c.in_ok-vlr.vlr.store c.in_ok-seats.seats.items (rw c.in_ok-seats.ensures.sessions c.in_ok-vlr.ensures.sessions)

pub returns : goal.returns
returns g c =
    let records = c.args.records.items in
    let limit = c.args.limit in
    let profile = c.args.profile in
    let threads = c.args.threads in
    let done = c.in_ok-writer.ensures in
    let seats = c.in_ok-writer.seats.items in
    let writer = c.in_ok-writer.writer in
    let transcripts = c.in_ok-transcripts.transcripts.items in
    let store = c.in_ok-vlr.vlr.store in
    let same : store.limit ≡ limit = c.in_ok-vlr.ensures.empty.1 in
    let places : length c.in_ok-vlr.sessions.items ≡ threads = search rules in
    let count : length c.in_ok-seats.seats.items ≡ threads =
    sym (length-map c.in_ok-seats.seats.items session_in) ∙ ap length c.in_ok-seats.ensures.sessions ∙ places in
    let written : WritesScript profile limit records writer =
    subst (λ p. WritesScript p limit records writer) c.in_ok-vlr.ensures.profile (subst (λ n. WritesScript store.profile n records writer) same done.writer) in
    let answered : All (HasAnswered threads (script_calls limit records)) seats =
    subst (λ n. All (HasAnswered threads (script_calls n records)) seats) same
    (subst (λ n. All (HasAnswered n (script_calls store.limit records)) seats) count done.answered) in
    let each : SessionsAnswer threads 0 (script_calls limit records) transcripts =
    rw c.in_ok-transcripts.ensures (SessionsAnswer-numbered threads 0 (script_calls limit records) seats done.numbered answered) in
    let all : length transcripts ≡ threads = ap length c.in_ok-transcripts.ensures ∙ length-map seats entries_in ∙ done.count ∙ count in
    let text = output profile limit (filter is_no_call records) in
    let front = published_after limit records in
    let published : c.end-published.result.0.items ≡ front = c.end-published.ensures.published ∙ ap (λ (u : Updates). u.published) written.updates in
    let passes : Passes profile front transcripts =
    subst (λ (us : List Update). Passes profile us transcripts) published c.in_ok-output.ensures.passes in
    let lines : c.in_ok-output.output.items ≡ text ++ sessions_text 0 transcripts =
    c.in_ok-output.ensures.lines ∙ ap (λ out. out ++ sessions_text 0 transcripts) (c.end-published.ensures.output ∙ written.output_written) in
    let last = line_text line.AuditOk in
    IfOk-weaker c.finish_output.result _ _
    (λ whole is. record {
      transcripts = transcripts;
      answer = record { count = all; each = each; passes = passes };
      text = is ∙ ap (λ out. out ++ last) lines;
    })
    c.finish_output.ensures
