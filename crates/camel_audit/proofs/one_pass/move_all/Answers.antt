use Rattle.std.proofs.Common.{rules, arith, ◌≡◌, ◌∙◌, get_or}
use Rattle.std.proofs.lemmas.Slice.Zip.{AllZip-long}
use Rattle.camel_audit.proofs.AuditLemmas.{AllZip-at, AllZip-set}
use Rattle.camel_audit.specs.Audit.{IsExplainedTo, is_member}
use Rattle.camel_audit.proofs.one_pass.move_all.Goals as goal

pub bounds-places-session : goal.bounds-places-session
bounds-places-session c =
    omega (arith, AllZip-long (IsExplainedTo (is_member c.args.part) c.args.profile c.args.front.now) _ c.loop-session.places c.loop-session.invariant)

pub place_after-requires-clause-explained : goal.place_after-requires-clause-explained
place_after-requires-clause-explained c =
    let entries = c.index-transcripts-session in
    let all = c.args.transcripts.now in
    let at = c.loop-session.session in
    let shown : c.deref.result.now ≡ get_or all at entries.result = c.deref.ensures.value ∙ c.transcript.view_is ∙ entries.is in
    rw shown (AllZip-at (IsExplainedTo (is_member c.args.part) c.args.profile c.args.front.now) all c.loop-session.places at entries.result 0
    c.loop-session.invariant (search rules))

pub bounds-places-session-in-loop-session : goal.bounds-places-session-in-loop-session
bounds-places-session-in-loop-session c =
    omega (arith, AllZip-long (IsExplainedTo (is_member c.args.part) c.args.profile c.args.front.now) _ c.loop-session.places c.loop-session.invariant)

pub loop-session-preserved : goal.loop-session-preserved
loop-session-preserved c =
    let entries = c.index-transcripts-session in
    let all = c.args.transcripts.now in
    let at = c.loop-session.session in
    let shown : c.deref.result.now ≡ get_or all at entries.result = c.deref.ensures.value ∙ c.transcript.view_is ∙ entries.is in
    AllZip-set (IsExplainedTo (is_member c.args.part) c.args.profile c.args.front.now) all c.loop-session.places at entries.result c.place_after.result
    c.loop-session.invariant (search rules) (rw (← shown) c.place_after.ensures)
