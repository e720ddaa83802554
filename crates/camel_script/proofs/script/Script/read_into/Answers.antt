use Rattle.std.proofs.Common.{◌-◌, arith}
use Rattle.csv.specs.Reading.{source_of}
use Rattle.csv.specs.Records.{fields_of}
use Rattle.camel_script.proofs.CsvRecords.{fault_in_record, gives_record, read_none, read_one, too_many}
use Rattle.camel_script.proofs.script.Script.read_into.Goals as goal

pub returns-then-not-found-clause-gives : goal.returns-then-not-found-clause-gives
returns-then-not-found-clause-gives g c =
    let old = c.self.inside.reader in
    let new = c.read_byte_record.new.self in
    let set_up = rw c.in-Reading.is at c.self.invariant in
    let reads = rw c.if-not-found.true at (c.in-Ok.ensures.reads set_up.trim set_up.ready) in
    rw (← c.self.view_is, c.in-Reading.is)
    (read_none g.R.Read.remaining old new (fields_of c.read_byte_record.new.row) c.self.inside.records_left set_up reads)

pub returns-then-self-eq0-clause-faults : goal.returns-then-self-eq0-clause-faults
returns-then-self-eq0-clause-faults g c =
    let remaining = g.R.Read.remaining in
    let old = c.self.inside.reader in
    let new = c.read_byte_record.new.self in
    let fields = fields_of c.read_byte_record.new.row in
    let set_up = rw c.in-Reading.is at c.self.invariant in
    let reads = rw c.if-not-found.false at (c.in-Ok.ensures.reads set_up.trim set_up.ready) in
    rw (← c.self.view_is, c.in-Reading.is)
    (too_many (source_of remaining old) (source_of remaining new) old.state new.state fields c.self.inside.records_left c.if-self-eq0.true
    (read_one remaining old new fields set_up reads))

pub returns-in-Ok-parse_record-clause-gives : goal.returns-in-Ok-parse_record-clause-gives
returns-in-Ok-parse_record-clause-gives g c =
    let remaining = g.R.Read.remaining in
    let old = c.self.inside.reader in
    let new = c.read_byte_record.new.self in
    let fields = fields_of c.read_byte_record.new.row in
    let most = c.self.inside.records_left in
    let set_up = rw c.in-Reading.is at c.self.invariant in
    let reads = rw c.if-not-found.false at (c.in-Ok.ensures.reads set_up.trim set_up.ready) in
    rw (← c.self.view_is, c.in-Reading.is)
    (gives_record (source_of remaining old) (source_of remaining new) old.state new.state fields most (most - 1) c.parse_record.new.read
    (omega arith) c.in-Ok-parse_record.ensures.record (read_one remaining old new fields set_up reads))

pub returns-in-Err-parse_record-clause-faults : goal.returns-in-Err-parse_record-clause-faults
returns-in-Err-parse_record-clause-faults g c =
    let remaining = g.R.Read.remaining in
    let old = c.self.inside.reader in
    let new = c.read_byte_record.new.self in
    let fields = fields_of c.read_byte_record.new.row in
    let set_up = rw c.in-Reading.is at c.self.invariant in
    let reads = rw c.if-not-found.false at (c.in-Ok.ensures.reads set_up.trim set_up.ready) in
    rw (← c.self.view_is, c.in-Reading.is)
    (fault_in_record (source_of remaining old) (source_of remaining new) old.state new.state fields c.self.inside.records_left
    c.in-Err-parse_record.fault (omega arith) c.in-Err-parse_record.ensures.fault (read_one remaining old new fields set_up reads))
