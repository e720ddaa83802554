use Rattle.std.proofs.Common.{refl, sym}
use Rattle.camel_c_data.proofs.ImsiLemmas.{reads, reads_none}
use Rattle.camel_c_data.proofs.imsi.CamelImsi.read.Goals as goal

pub returns-in-Some-clause-imsi : goal.returns-in-Some-clause-imsi
returns-in-Some-clause-imsi c =
    sym (reads c.args.self.now c.in-Some.imsi c.in-Some.ensures.imsi c.in-Some.ensures.number)

pub returns-in-None-clause-imsi : goal.returns-in-None-clause-imsi
returns-in-None-clause-imsi c = sym (reads_none c.args.self.now (c.in-None.ensures.none refl))
