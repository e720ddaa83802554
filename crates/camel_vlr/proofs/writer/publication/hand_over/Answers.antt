use Rattle.std.proofs.Common.{◌∙◌, ◌++◌, ◌∷◌, [], append_assoc, ap, sym}
use Rattle.camel_vlr.proofs.OperationLemmas.{updates_among-front}
use Rattle.camel_vlr.specs.Operation.{updates_among}
use Rattle.camel_vlr.specs.declared.writer.operation.Operation.TheVariants as operation
use Rattle.camel_vlr.proofs.writer.publication.hand_over.Goals as goal

pub returns-clause-updates : goal.returns-clause-updates
returns-clause-updates g c =
    let old = g.W.Publisher.pending c.args.writer.now in let list = c.args.pending.now.items in
    ap updates_among (c.append.ensures.pending ∙ (ap (λ all. old ++ all) c.in_ok-push_back.ensures.items
    ∙ sym (append_assoc old list (operation.Front c.args.front ∷ []))))
    ∙ updates_among-front (old ++ list) c.args.front
