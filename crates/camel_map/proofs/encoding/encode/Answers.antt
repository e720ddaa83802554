use Rattle.camel_map.proofs.Written.Updates.{update_decodes}
use Rattle.camel_map.proofs.encoding.encode.Goals as goal

pub returns-clause-decoded : goal.returns-clause-decoded
returns-clause-decoded c = λ dialogue kept same. update_decodes dialogue c.args.update.now kept same
