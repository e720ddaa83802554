use Rattle.std.proofs.Common.{◌∙◌, ◌∷◌, ◌++◌, [], length-set, refl, sym, ap, arith, take}
use Rattle.std.proofs.lemmas.List.{take_more, take_more_set}
use Rattle.std.specs.declared.result.Result.TheVariants.{Ok}
use Rattle.camel_c_data.specs.Fields.{isdn_address_in}
use Rattle.camel_reading.specs.Reading.{each_of}
use Rattle.camel_c_data.proofs.EachLemmas.{each_of-more}
use Rattle.camel_c_data.proofs.number_criterion.numbers_with.Goals as goal

pub loop-at-init : goal.loop-at-init
unfolding each_of
loop-at-init c = record { whole = refl; so_far = refl }

pub loop-at-preserved : goal.loop-at-preserved
loop-at-preserved c =
    let at = c.loop-at.at in
    let room = c.loop-at.room in
    let numbers = c.args.numbers.now in
    let number = c.index-numbers-at.result in
    record {
      whole = length-set room at _ ∙ c.loop-at.invariant.whole;
      so_far = rw (
        take_more_set room at c.of.result (omega (arith, c.loop-at.invariant.whole, c.loop-at-test.true, c.requires)),
        each_of-more isdn_address_in (take at room) c.of.result number c.of.ensures,
        c.loop-at.invariant.so_far,
      )
          (ap Ok (sym (take_more numbers at number c.loop-at-test.true ∙ ap (λ n. take at numbers ++ n ∷ []) (sym c.index-numbers-at.is))));
    }
