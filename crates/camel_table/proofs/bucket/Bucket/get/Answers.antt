use Rattle.std.proofs.Common.{◌∙◌, Some, position, sym, ap}
use Rattle.std.specs.FinMap as map
use Rattle.std.specs.Option.{option_copied}
use Rattle.camel_table.specs.ByImsi.{is_same}
use Rattle.camel_table.proofs.BucketLemmas.{get-first, none_position}
use Rattle.camel_table.proofs.bucket.Bucket.get.Goals as goal

pub returns-in_err-at : goal.returns-in_err-at
returns-in_err-at g c =
    let imsi = c.args.imsi.now in
    let is = ap (position (λ e. is_same imsi e.0)) (sym c.deref.ensures.value) ∙ sym c.in_err-at.ensures in
    ap option_copied c.from_residual.ensures ∙ sym (none_position imsi c.self.inside.entries.items is) ∙ ap (λ m. map.get m imsi) c.self.view_is

pub returns : goal.returns
returns g c =
    let imsi = c.args.imsi.now in
    let is = ap (position (λ e. is_same imsi e.0)) (sym c.deref.ensures.value) ∙ sym c.in_ok-at.ensures in
    ap Some c.value.ensures ∙ sym (get-first imsi c.self.inside.entries.items _ _ is c.index.ensures) ∙ ap (λ m. map.get m imsi) c.self.view_is
