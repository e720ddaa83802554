use Rattle.camel_vlr.proofs.RuleLemmas.{admits, learns, tells}
use Rattle.camel_vlr.proofs.base.left_right_writer.LeftRightWriterPublisher.place.Goals as goal

pub reader-requires : goal.reader-requires
reader-requires c = admits

pub tell-requires : goal.tell-requires
tell-requires c = tells _ _

pub learn-requires-clause-rule : goal.learn-requires-clause-rule
learn-requires-clause-rule c = learns _ _ _ _
