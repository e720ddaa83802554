use Rattle.std.proofs.Common.{◌∙◌, ◌==◌, slice_get, sym, ap}
use Rattle.camel_rows.specs.Subscriber.{item_among}
use Rattle.camel_rows.proofs.RowLemmas.{found_at_place}
use Rattle.camel_rows.proofs.csi.Csi.row.Goals as goal

pub returns : goal.returns
returns g c =
    let room = c.self.inside.room in
    let len = c.self.inside.len in
    c.get.ensures
    ∙ ap (λ rows. slice_get rows c.place_of.result) (sym c.self.view_is)
    ∙ ap (slice_get _) c.place_of.ensures
    ∙ found_at_place (λ row. row.dp == c.args.dp) len room
    ∙ ap (item_among (λ row. row.dp) c.args.dp) c.self.view_is
