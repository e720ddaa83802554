use Rattle.std.proofs.Common.{◌∙◌, ap}
use Rattle.std.specs.Cmp.Lexicographic.{texts_ties}
use Rattle.camel_table.specs.ByImsi.{is_same}
use Rattle.camel_table.proofs.entry.Entry.is.Goals as goal

pub returns : goal.returns
returns g c = c.eq.ensures ∙ texts_ties c.args.imsi.now c.self.inside.key ∙ ap (λ entry. is_same c.args.imsi.now entry.0) c.self.view_is
