use Rattle.std.proofs.Common.{◌∙◌}
use Rattle.two_copies.proofs.PlacesLemmas.{same_end}
use Rattle.two_copies.proofs.place.writer_end.WriterEnd.replace.Goals as goal

pub returns-in-Err : goal.returns-in-Err
returns-in-Err g c = record {
  left = (
    c.replace.ensures.value ∙ c.replace-board.ensures.after,
    c.replace.ensures.after ∙ same_end g.row.T.coded c.replace-board.result _ c.in-Err.ensures.err _ _ ∙ c.replace-board.ensures.value,
  );
}
