use Rattle.std.proofs.Common.{◌∙◌, ◌++◌, ◌-◌, List, ℕ, ap, arith}
use Rattle.camel_map.specs.Encoding.{encoding}
use Rattle.camel_map.proofs.Written.Elements.{item_written}
use Rattle.camel_map.proofs.encoding.list.put_each.Goals as goal

pub loop-at-preserved : goal.loop-at-preserved
loop-at-preserved g c =
    let item = c.index-items-at.result in
    let within = c.loop-at.invariant.within in
    let some = c.loop-at-test.true in
    record {
      within = omega (arith, within);
      so_far = c.in_ok-put.ensures
          ∙ ap (λ (more : List ℕ). encoding (g.P.Part.element_of item) ++ more) c.loop-at.invariant.so_far
          ∙ item_written g.P.Part.element_of c.args.items.now (c.loop-at.at - 1) c.loop-at.at item c.args.writer.now
          (omega (arith, within, some)) c.index-items-at.is (omega (arith, some));
    }
