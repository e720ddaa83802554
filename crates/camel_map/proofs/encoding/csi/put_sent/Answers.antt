use Rattle.std.proofs.Common.{◌≡◌, [], length, refl}
use Rattle.camel_map.proofs.Joined.Counts.{no_items}
use Rattle.camel_map.proofs.encoding.csi.put_sent.Goals as goal

pub returns-then-is_empty : goal.returns-then-is_empty
returns-then-is_empty g c =
    let none : c.args.items.now ≡ [] = no_items c.args.items.now (length c.args.items.now) refl c.if-is_empty.ensures in
    rw none c.put_ignored.ensures
