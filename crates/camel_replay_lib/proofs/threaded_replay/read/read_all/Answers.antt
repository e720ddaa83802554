use Rattle.std.proofs.Common.{arith, ◌≡◌, [], ◌∷◌, refl, length-append}
use Rattle.camel_script.specs.Script.{still_gives}
use Rattle.camel_replay_lib.proofs.ReadLemmas.{HasRead-push, stopped_by_memory, stopped_reading}
use Rattle.camel_replay_lib.proofs.threaded_replay.read.read_all.Goals as goal

pub records-preserved : goal.records-preserved
records-preserved g c =
    let so_far = c.records.invariant in
    let next = c.replace-read.result in
    let same : next ≡ c.read_into.new.read = c.replace-read.ensures.value in
    let gives = rw c.in-Ok-true.field-0-test at c.in-Ok-true.ensures.gives in
    let counts = (rw c.in-Ok-true.field-0-test at c.in-Ok-true.ensures.counts) refl in
    let more = length-append c.records.records.items (next ∷ []) in
    rw c.in-Ok.ensures.items record {
      reads = (rw c.in-Ok-true.field-0-test at c.in-Ok-true.ensures.reads_on) refl;
      place = omega (arith, so_far.place, more);
      room = omega (arith, so_far.room, counts);
      so_far = HasRead-push (still_gives c.args.script.now) (still_gives c.records.script) (still_gives c.read_into.new.self) c.records.records.items next
          so_far.so_far (rw same gives);
    }

pub returns-in_default-clause-stopped : goal.returns-in_default-clause-stopped
returns-in_default-clause-stopped g c =
    let so_far = c.records.invariant in
    stopped_by_memory (still_gives c.args.script.now) (still_gives c.records.script) c.records.records.items c.in_record-in_default.result
    so_far.so_far (rw so_far.place at c.in_record-in_default.ensures)

pub returns-in-Err-clause-stopped : goal.returns-in-Err-clause-stopped
returns-in-Err-clause-stopped g c =
    let so_far = c.records.invariant in
    stopped_reading (still_gives c.args.script.now) (still_gives c.records.script) c.records.records.items c.in-Err.fault c.in_record.result
    so_far.so_far c.in-Err.ensures.faults (rw (so_far.place, c.code.ensures) at c.in_record.ensures)
