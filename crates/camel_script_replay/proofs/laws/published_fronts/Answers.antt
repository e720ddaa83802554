use Rattle.camel_script_replay.proofs.StoreLemmas.{published_grows, published_is_front}
use Rattle.camel_script_replay.proofs.laws.published_fronts.Goals as goal

pub returns-clause-front : goal.returns-clause-front
returns-clause-front c = published_is_front

pub returns-clause-grows : goal.returns-clause-grows
returns-clause-grows c = published_grows
