use Rattle.std.proofs.Common.{◌≢◌, Err, ap, arith, refl}
use Rattle.camel_script.specs.Script.{still_gives}
use Rattle.camel_script.specs.declared.script_fault.ScriptFault.{ScriptFault}
use Rattle.camel_script.specs.declared.script_fault.ScriptFault.TheVariants as fault
use Rattle.camel_script_replay.proofs.Progress.{code_of_script, progress_at_first, progress_by_one, stopped_at_flush, stopped_by_script}
use Rattle.camel_script_replay.proofs.Progress.{stopped_in_record, wrote_all}
use Rattle.camel_script_replay.proofs.script_replay.answer_all.Goals as goal

pub records-init : goal.records-init
records-init g c = record {
  reads = c.requires.reads;
  place = omega arith;
  room = omega (arith, c.requires.room);
  so_far = rw c.requires.empty (progress_at_first (g.W.Write.contents c.args.writer.now)
      (still_gives c.args.script.now) c.args.store.now.profile c.args.store.now.limit);
}

pub returns-in-Err-clause-stopped : goal.returns-in-Err-clause-stopped
returns-in-Err-clause-stopped g c =
    let held = g.W.Write.contents in
    let store = c.args.store.now in
    stopped_by_script (still_gives c.args.script.now) (held c.args.writer.now) (held c.records.writer) (still_gives c.records.script) store.profile
    store.limit c.records.number c.records.store c.in-Err.fault c.in_record.result c.records.invariant.so_far
    (rw c.code.ensures at c.in_record.ensures) c.in-Err.ensures.faults

pub records-preserved : goal.records-preserved
records-preserved g c =
    let held = g.W.Write.contents in
    let store = c.args.store.now in
    let gives = rw c.in-Ok-true.field-0-test at c.in-Ok-true.ensures.gives in
    let counts = (rw c.in-Ok-true.field-0-test at c.in-Ok-true.ensures.counts) refl in
    record {
      reads = (rw c.in-Ok-true.field-0-test at c.in-Ok-true.ensures.reads_on) refl;
      place = omega arith;
      room = omega (arith, counts);
      so_far = rw c.in-Ok.ensures.after (progress_by_one (held c.args.writer.now) (held c.records.writer) (held c.answer.new.writer) store.profile
          store.limit c.records.number c.records.store (still_gives c.args.script.now) (still_gives c.records.script) (still_gives c.read_into.new.self)
          c.read_into.new.read c.records.invariant.so_far gives c.in-Ok.ensures.line);
    }

pub returns-in-Err-answer-clause-stopped : goal.returns-in-Err-answer-clause-stopped
returns-in-Err-answer-clause-stopped g c =
    let held = g.W.Write.contents in
    let store = c.args.store.now in
    let gives = rw c.in-Ok-true.field-0-test at c.in-Ok-true.ensures.gives in
    stopped_in_record (held c.args.writer.now) (held c.records.writer) (held c.answer.new.writer) store.profile store.limit c.records.number
    c.records.store (still_gives c.args.script.now) (still_gives c.records.script) (still_gives c.read_into.new.self) c.read_into.new.read
    c.in_record-in-Err-answer.result c.records.invariant.so_far gives
    (rw c.in_record-in-Err-answer.ensures c.in-Err-answer.ensures.stopped) (rw c.in_record-in-Err-answer.ensures refl)

pub returns-in-Ok-flush-clause-whole : goal.returns-in-Ok-flush-clause-whole
returns-in-Ok-flush-clause-whole g c =
    let held = g.W.Write.contents in
    let store = c.args.store.now in
    wrote_all (held c.args.writer.now) (held c.records.writer) (held c.flush.new.self) store.profile store.limit c.records.number c.records.store
    (still_gives c.args.script.now) (still_gives c.records.script) (still_gives c.read_into.new.self) c.records.invariant.so_far
    (rw c.in-Ok-false.field-0-test at c.in-Ok-false.ensures.gives) c.flush.ensures.bytes

pub returns-clause-stopped : goal.returns-clause-stopped
returns-clause-stopped g c =
    let held = g.W.Write.contents in
    let store = c.args.store.now in
    stopped_at_flush (held c.args.writer.now) (held c.records.writer) (held c.flush.new.self) store.profile store.limit c.records.number
    c.records.store (still_gives c.args.script.now) (still_gives c.records.script) (still_gives c.read_into.new.self) c.in_record-in-Err-flush.result
    c.records.invariant.so_far (rw c.in-Ok-false.field-0-test at c.in-Ok-false.ensures.gives) c.flush.ensures.bytes c.in_record-in-Err-flush.ensures

pub returns-in-Err-clause-codes : goal.returns-in-Err-clause-codes
returns-in-Err-clause-codes g c =
    let unfailed : c.in-Err.fault ≢ fault.Failed =
    λ failed. c.records.invariant.reads (c.in-Err.ensures.failed_only (ap (λ (e : ScriptFault). Err e) failed)) in
    rw (c.in_record.ensures, c.code.ensures) ((code_of_script c.in-Err.fault).0 unfailed)
