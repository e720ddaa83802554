use Rattle.std.proofs.Common.{◌++◌, drop, length}
use Rattle.camel_vlr.specs.Operation.{updates_among}
use Rattle.camel_vlr.proofs.writer.publication.extend_history.Given as goal

-- the history grows by what stands behind it in all that is published and pending
abbrev pub ghosts-grow : goal.ghosts-grow
ghosts-grow g a = record {
  updates = drop (length a.history.now.updates)
      ((g.W.Publisher.shown a._writer.now).front.updates ++ updates_among (g.W.Publisher.pending a._writer.now ++ a._pending.now.items));
  next = a.next.nib.key;
}
