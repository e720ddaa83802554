use Rattle.std.proofs.Common.{◌∙◌, ◌≡◌, ◌<◌, ℕ, arith, below_more, get_or, length, refl, sym}
use Rattle.std.proofs.lemmas.List.Prefix.{front_from_reads, front_reads}
use Rattle.camel_tbcd.specs.Address.{digit_list}
use Rattle.camel_tbcd.proofs.DigitLemmas.{get-digits, same_in_fronts}
use Rattle.camel_tbcd.proofs.digits.Digits.has_front.Goals as goal

pub loop-at-init : goal.loop-at-init
loop-at-init c k below within = same_in_fronts _ _ c.min.result k (c.has_same_first.ensures.0 c.if-not-has_same_first.false) (omega arith)

pub loop-at-preserved : goal.loop-at-preserved
loop-at-preserved c =
    let all = c.args.self.now in
    let front = c.args.front.now in
    below_more (λ (k : ℕ). k < length (digit_list front) → get_or (digit_list all) k 0 ≡ get_or (digit_list front) k 0) _ c.loop-at.invariant (λ within.
    get-digits all.bytes.now c.loop-at.at (omega arith) ∙ sym c.nibble.ensures ∙ c.if-nibble.false ∙ c.nibble-in-loop-at.ensures
    ∙ sym (get-digits front.bytes.now c.loop-at.at within))

pub returns : goal.returns
returns c =
    let all = c.args.self.now in
    let front = c.args.front.now in (
      λ _. (
        _,
        sym (front_from_reads 0 (digit_list all) (digit_list front) (omega arith) (λ i h. c.loop-at.invariant i (omega arith) h)),
      ),
      λ _. refl,
    )

pub returns-then-nibble : goal.returns-then-nibble
returns-then-nibble c =
    let all = c.args.self.now in
    let front = c.args.front.now in (
      λ e. absurd (cc e),
      λ is. absurd (c.if-nibble.true (c.nibble.ensures ∙ sym (get-digits all.bytes.now c.loop-at.at (omega arith))
          ∙ front_reads 0 (digit_list all) (digit_list front) is.0 (sym is.1) c.loop-at.at (omega arith)
          ∙ get-digits front.bytes.now c.loop-at.at (omega arith) ∙ sym c.nibble-in-loop-at.ensures)),
    )
