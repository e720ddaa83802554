use Rattle.std.proofs.Common.{rules}
use Rattle.std.proofs.lemmas.Fn.{filter_same}
use Rattle.camel_criteria.specs.DetectionPoint.{is_among}
use Rattle.camel_rows.proofs.csi.criteria_set.kept_entries.Goals as goal

pub returns : goal.returns
returns g c =
    filter_same _ (λ entry. is_among c.args.points.now (g.E.AtDetectionPoint.dp_of entry)) _ (λ x b f r. search rules) _ _
    c.retain.ensures.filtered
