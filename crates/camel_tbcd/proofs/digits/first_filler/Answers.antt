use Rattle.camel_tbcd.proofs.FillerLemmas.{first_filler}
use Rattle.camel_tbcd.proofs.digits.first_filler.Goals as goal

pub returns : goal.returns
returns c = first_filler c.args.number
