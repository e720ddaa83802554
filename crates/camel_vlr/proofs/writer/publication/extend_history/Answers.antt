use Rattle.std.proofs.Common.{◌∙◌, ◌++◌, List, ap}
use Rattle.camel_rows.specs.declared.subscriber.update.Update.{Update}
use Rattle.camel_vlr.proofs.OperationLemmas.{behind}
use Rattle.camel_vlr.specs.Operation.{updates_among}
use Rattle.camel_vlr.proofs.writer.publication.extend_history.Goals as goal

pub returns-clause-updates : goal.returns-clause-updates
returns-clause-updates g c =
    let writer = c.args.writer.now in
    let all : List Update = (g.W.Publisher.shown writer).front.updates ++ updates_among (g.W.Publisher.pending writer ++ c.args.pending.now.items) in
    ap (λ h. h.updates) c.grow.ensures ∙ behind all c.args.history.now.updates c.requires
