use Rattle.std.proofs.Common.{rules, arith, ◌≡◌, ◌∙◌, take, true, false, length}
use Rattle.std.proofs.lemmas.Bool.Decides.{nat_tests}
use Rattle.std.proofs.lemmas.List.{length-set, length-take-le, take_more_set}
use Rattle.std.specs.Str.{bytes_eq}
use Rattle.csv.specs.Records.{fields_of}
use Rattle.camel_script.proofs.InsertMistake.{numbered-field, numbered-none}
use Rattle.camel_script.proofs.FirstRefused.{is_eleventh, is_second, is_taken, passes_by}
use Rattle.camel_script.specs.Fields.{field, item_part}
use Rattle.camel_script.specs.Item.{refused_item}
use Rattle.camel_script.proofs.record.refused_item.refused_item.Goals as goal
use Rattle.camel_script.proofs.record.refused_item.refused_item.Goals.{then-eq+else-count-eq-MAX_TDP_DATA+else-is_repeated, else-eq}

pub returns-then-count-eq-MAX_TDP_DATA : goal.returns-then-count-eq-MAX_TDP_DATA
returns-then-count-eq-MAX_TDP_DATA c =
    let fields = fields_of c.args.fields.now in
    let few = c.loop-at.invariant.0 in
    let long = c.loop-at.invariant.1 in
    let here = rw (numbered-field fields c.loop-at.at (omega arith)) at c.loop-at.invariant.2 in
    let named : bytes_eq (item_part (field fields c.loop-at.at) 0) c.args.name.now ≡ true = search rules in
    let count : length (take c.loop-at.count c.loop-at.dps) ≡ c.loop-at.count = length-take-le _ _ (omega arith) in
    rw (c.mistake_at.ensures, c.into.ensures) (is_eleventh _ _ _ _ _ _ _ _ here named (grind (arith, nat_tests)))

pub returns-then-is_repeated : goal.returns-then-is_repeated
returns-then-is_repeated c =
    let fields = fields_of c.args.fields.now in
    let few = c.loop-at.invariant.0 in
    let long = c.loop-at.invariant.1 in
    let here = rw (numbered-field fields c.loop-at.at (omega arith)) at c.loop-at.invariant.2 in
    let named : bytes_eq (item_part (field fields c.loop-at.at) 0) c.args.name.now ≡ true = search rules in
    let count : length (take c.loop-at.count c.loop-at.dps) ≡ c.loop-at.count = length-take-le _ _ (omega arith) in
    rw (c.mistake_at-then-is_repeated.ensures, c.into-then-is_repeated.ensures)
    (is_second _ _ _ _ _ _ _ _ here named (grind (arith, nat_tests)) (search rules))

pub loop-at-preserved : goal.loop-at-preserved
loop-at-preserved c =
    let fields = fields_of c.args.fields.now in
    let few = c.loop-at.invariant.0 in
    let long = c.loop-at.invariant.1 in
    let here = rw (numbered-field fields c.loop-at.at (omega arith)) at c.loop-at.invariant.2 in
    let count : length (take c.loop-at.count c.loop-at.dps) ≡ c.loop-at.count = length-take-le _ _ (omega arith) in
    elim c.if-eq.branch [
      | then-eq+else-count-eq-MAX_TDP_DATA+else-is_repeated w ↦
          let named : bytes_eq (item_part (field fields c.loop-at.at) 0) c.args.name.now ≡ true = search rules in
          let next = is_taken _ _ _ _ _ _ _ _ here named (grind (arith, nat_tests)) (search rules) in
          rw (w.count-is, w.dps-is) (
            omega arith,
            length-set c.loop-at.dps c.loop-at.count _ ∙ long,
            rw (take_more_set c.loop-at.dps c.loop-at.count w.item_dp-dp.result (omega arith), w.item_dp-dp.ensures, c.field-item.ensures) next,
          )
      | else-eq w ↦
          let other : bytes_eq (item_part (field fields c.loop-at.at) 0) c.args.name.now ≡ false = search rules in
          rw (w.count-is, w.dps-is) (few, long, passes_by _ _ _ _ _ _ _ _ here other)
    ]

pub returns : goal.returns
unfolding refused_item
returns c =
    let none = rw (numbered-none (fields_of c.args.fields.now) c.loop-at.at (omega arith)) at c.loop-at.invariant.2 in
    rw (c.mistake_at-2.ensures, c.into-2.ensures) none
