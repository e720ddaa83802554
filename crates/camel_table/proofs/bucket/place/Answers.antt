use Rattle.std.proofs.Common.{◌∙◌, not, ◌==◌, sym, ap, arith}
use Rattle.std.specs.List.{prefix_len}
use Rattle.camel_table.proofs.TagsLemmas.{absent, present}
use Rattle.camel_table.proofs.bucket.place.Goals as goal

pub returns-then-at-entries : goal.returns-then-at-entries
returns-then-at-entries g c =
    let first = c.first-at.ensures ∙ ap (λ tag. prefix_len (λ other. not (other == tag)) c.args.tags.now) c.tag_of.ensures in
    sym (absent c.args.imsi.now c.args.tags.now c.args.entries.now c.requires (omega (arith, first, c.if-at-entries.true)))

pub returns-then-is : goal.returns-then-is
returns-then-is g c =
    let first = c.first-at.ensures ∙ ap (λ tag. prefix_len (λ other. not (other == tag)) c.args.tags.now) c.tag_of.ensures in
    sym (present c.args.imsi.now c.args.tags.now c.args.entries.now c.requires first c.if-at-entries.false c.index-entries-at.is (sym c.if-is.ensures))
