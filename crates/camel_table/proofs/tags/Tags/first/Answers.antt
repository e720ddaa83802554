use Rattle.std.proofs.Common.{◌∙◌, ◌==◌, not, w8, ap, arith}
use Rattle.std.specs.Int.{trailing_zeros, w64}
use Rattle.std.specs.Bool.{if◌then◌else◌}
use Rattle.std.specs.List.{prefix_len}
use Rattle.std.proofs.lemmas.Simd.{bitmask_splat, first_set_mask_l}
use Rattle.camel_table.proofs.tags.Tags.first.Goals as goal

pub returns : goal.returns
returns c =
    let tags = c.self.inside.octets in
    c.lowest.ensures
    ∙ ap (λ places. if places == 0 then 16 else trailing_zeros w64 places) (bitmask_splat w8 (λ x y. x == y) tags 16 c.args.tag c.self.told (omega arith))
    ∙ first_set_mask_l (λ x. x == c.args.tag) tags 16 c.self.told (omega arith)
    ∙ ap (prefix_len (λ other. not (other == c.args.tag))) c.self.view_is
