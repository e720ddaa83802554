use Rattle.camel_audit.proofs.PartLemmas.{passes_whole}
use Rattle.camel_audit.proofs.laws.parts_make_the_whole.Goals as goal

pub returns : goal.returns
returns c = λ parts profile updates transcripts some each. passes_whole parts some profile updates transcripts each
