use Rattle.std.proofs.Common.{ℕ, List, refl, ap}
use Rattle.camel_table.proofs.entry.Entry.lend.Goals as goal

pub returns : goal.returns
returns g c = (
  (refl, λ new. ap {B = List ℕ × g.row.V.Denot} (λ (e : List ℕ × g.row.V.Denot). (e.0, new)) c.self.view_is),
  record { writes_back = tt; value = ap (λ (e : List ℕ × g.row.V.Denot). e.1) c.self.view_is },
)
