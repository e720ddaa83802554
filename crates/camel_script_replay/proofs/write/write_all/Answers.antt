use Rattle.std.proofs.Common.{arith}
use Rattle.camel_script_replay.proofs.StoreLemmas.{Keeps-append_none, wrote_more, wrote_part}
use Rattle.camel_script_replay.proofs.write.write_all.Goals as goal

pub returns-in-Ok-eq0-clause-part : goal.returns-in-Ok-eq0-clause-part
returns-in-Ok-eq0-clause-part g c =
    let held = g.W.Write.contents in
    let none = rw c.in-Ok-eq0.field-0-test at c.in-Ok-eq0.ensures.bytes in
    wrote_part (held c.args.writer.now) (held c.writes.writer)
    (held c.write.new.self) c.args.octets.now c.writes.written c.writes-test.true c.writes.invariant.so_far
    (Keeps-append_none _ _ none)

pub writes-preserved : goal.writes-preserved
writes-preserved g c =
    let held = g.W.Write.contents in
    record {
      within = omega (arith, c.in-Ok.ensures.bound);
      so_far = wrote_more (held c.args.writer.now) (held c.writes.writer)
          (held c.write.new.self) c.args.octets.now c.writes.written c.in-Ok.taken c.writes.invariant.within
          c.writes.invariant.so_far c.in-Ok.ensures.bytes;
    }

pub returns-in-Err-clause-part : goal.returns-in-Err-clause-part
returns-in-Err-clause-part g c =
    let held = g.W.Write.contents in
    wrote_part (held c.args.writer.now) (held c.writes.writer)
    (held c.write.new.self) c.args.octets.now c.writes.written c.writes-test.true c.writes.invariant.so_far
    c.in-Err.ensures.bytes
