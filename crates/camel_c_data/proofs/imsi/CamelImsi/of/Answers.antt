use Rattle.std.proofs.Common.{sym}
use Rattle.camel_c_data.proofs.ImsiLemmas.{reads}
use Rattle.camel_c_data.proofs.imsi.CamelImsi.of.Goals as goal

pub returns-clause-same : goal.returns-clause-same
returns-clause-same c = reads _ c.args.imsi.now c.number.ensures.imsi (sym c.number.ensures.number)
