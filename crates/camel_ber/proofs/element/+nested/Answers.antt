use Rattle.std.proofs.Common.{◌∙◌, ◌≡◌, ap, arith, eq-eqb, false, subst, sym, true}
use Rattle.std.proofs.lemmas.Bool.{ne_eqb}
use Rattle.std.proofs.lemmas.Result.{err_from_is_err_and}
use Rattle.camel_ber.specs.Elements.{Answers, element_at, is_constructed, view}
use Rattle.camel_ber.proofs.NestedLemmas.{at_contents, Begins-form, ends_at, ends_at-deeper, ends_at-zero, has_end}
use Rattle.camel_ber.proofs.NestedLemmas.{has_no_end, is_primitive, no_identifier, no_length}
use Rattle.camel_ber.proofs.EndLemmas.{end-at_zero, end-fails, end-goes_on, end-is_missing}
use Rattle.camel_ber.proofs.element.+nested.Goals as goal

pub after_end-returns-then-rest-eq0-clause-answer : goal.after_end-returns-then-rest-eq0-clause-answer
after_end-returns-then-rest-eq0-clause-answer t c =
    let one = element_at c.args.end c.args.depth in
    end-at_zero _ c.args.end one c.loop-rest.rest.now c.after_zero.result _ (omega arith)
    (c.after_zero.ensures.answer one)
    c.loop-rest.invariant.0

pub after_end-returns-in_err-after-clause-answer : goal.after_end-returns-in_err-after-clause-answer
after_end-returns-in_err-after-clause-answer t c =
    let p = err_from_is_err_and c.from_residual.result c.from_residual.ensures.1 in
    rw (p.1, p.2)
    (end-fails c.args.end (element_at c.args.end c.args.depth) c.loop-rest.rest.now _ _ (omega arith)
    c.if-rest-eq0.false
    c.in_err-after.ensures.answer c.loop-rest.invariant.0)

pub after_end-loop-rest-preserved : goal.after_end-loop-rest-preserved
after_end-loop-rest-preserved t c = (
  end-goes_on c.args.end (element_at c.args.end c.args.depth) c.loop-rest.rest.now _ c.in_ok-after.after.now _
      (omega arith)
      c.if-rest-eq0.false c.in_ok-after.ensures.answer c.in_ok-after.ensures.shorter c.loop-rest.invariant.0,
  omega (arith, c.in_ok-after.ensures.shorter, c.loop-rest.invariant.1),
)

pub after_end-returns-clause-answer : goal.after_end-returns-clause-answer
after_end-returns-clause-answer t c =
    rw c.of.ensures
    (end-is_missing c.args.end (element_at c.args.end c.args.depth) c.loop-rest.rest.now _ (omega arith)
    c.loop-rest.invariant.0)

pub next_element-returns-in_err-identifier-clause-answer : goal.next_element-returns-in_err-identifier-clause-answer
next_element-returns-in_err-identifier-clause-answer t c =
    let p = err_from_is_err_and c.from_residual.result c.from_residual.ensures.1 in
    rw (p.1, p.2) (no_identifier c.args.end c.args.depth c.args.bytes.now _ c.in_err-identifier.ensures.answer)

pub next_element-returns-in_err-len-clause-answer : goal.next_element-returns-in_err-len-clause-answer
next_element-returns-in_err-len-clause-answer t c =
    let p = err_from_is_err_and c.from_residual-in_err-len.result c.from_residual-in_err-len.ensures.1 in
    rw (p.1, p.2)
    (no_length c.args.end c.args.depth c.args.bytes.now _ _ _ c.in_ok-identifier.ensures.answer
    c.in_err-len.ensures.answer)

pub next_element-returns-then-identifier-ne1-clause-answer : goal.next_element-returns-then-identifier-ne1-clause-answer
next_element-returns-then-identifier-ne1-clause-answer t c =
    let identifier = c.in_ok-identifier.identifier.now in
    let rest = c.in_ok-len.rest.now in
    let is = Begins-form _ _ _ _ _ _ _ c.in_ok-identifier.ensures.answer c.in_ok-len.ensures.answer c.in-None.is in
    let test : is_constructed identifier ≡ false = ne_eqb _ _ c.if-identifier-ne1.true in
    rw c.of.ensures (is_primitive c.args.end c.args.depth c.args.bytes.now identifier rest is test)

pub next_element-returns-then-depth-eq0-clause-answer : goal.next_element-returns-then-depth-eq0-clause-answer
next_element-returns-then-depth-eq0-clause-answer t c =
    let identifier = c.in_ok-identifier.identifier.now in
    let rest = c.in_ok-len.rest.now in
    let is = Begins-form _ _ _ _ _ _ _ c.in_ok-identifier.ensures.answer c.in_ok-len.ensures.answer c.in-None.is in
    let test : is_constructed identifier ≡ true = eq-eqb _ _ c.if-identifier-ne1.false in
    let deep = ap (λ depth. ends_at c.args.end depth rest) c.if-depth-eq0.true ∙ ends_at-zero c.args.end rest in
    rw c.of-then-depth-eq0.ensures
    (has_no_end c.args.end c.args.depth c.args.bytes.now identifier rest _ is test deep)

pub next_element-returns-in_err-after-in-None-clause-answer : goal.next_element-returns-in_err-after-in-None-clause-answer
next_element-returns-in_err-after-in-None-clause-answer t c =
    let identifier = c.in_ok-identifier.identifier.now in
    let rest = c.in_ok-len.rest.now in
    let p = err_from_is_err_and c.from_residual-in_err-after-in-None.result
    c.from_residual-in_err-after-in-None.ensures.1 in
    let is = Begins-form _ _ _ _ _ _ _ c.in_ok-identifier.ensures.answer c.in_ok-len.ensures.answer c.in-None.is in
    let test : is_constructed identifier ≡ true = eq-eqb _ _ c.if-identifier-ne1.false in
    let fails = ends_at-deeper c.args.end c.args.depth rest (omega arith) ∙ c.in_err-after-in-None.ensures.answer in
    rw (p.1, p.2) (has_no_end c.args.end c.args.depth c.args.bytes.now identifier rest _ is test fails)

pub next_element-returns-in-Some-clause-answer : goal.next_element-returns-in-Some-clause-answer
next_element-returns-in-Some-clause-answer t c =
    let identifier = c.in_ok-identifier.identifier.now in
    let rest = c.in_ok-len.rest.now in
    let is = Begins-form _ _ _ _ _ _ _ c.in_ok-identifier.ensures.answer c.in_ok-len.ensures.answer c.in-Some.is in
    subst (λ reading. Answers (λ read. (view read.0, read.1.now)) c.definite.result reading)
    (sym (at_contents c.args.end c.args.depth c.args.bytes.now identifier _ rest is))
    (c.definite.ensures.answer (ends_at c.args.end c.args.depth))

pub next_element-returns-in_ok-after-in-None-clause-answer : goal.next_element-returns-in_ok-after-in-None-clause-answer
next_element-returns-in_ok-after-in-None-clause-answer t c =
    let identifier = c.in_ok-identifier.identifier.now in
    let rest = c.in_ok-len.rest.now in
    let is = Begins-form _ _ _ _ _ _ _ c.in_ok-identifier.ensures.answer c.in_ok-len.ensures.answer c.in-None.is in
    let test : is_constructed identifier ≡ true = eq-eqb _ _ c.if-identifier-ne1.false in
    let found = ends_at-deeper c.args.end c.args.depth rest (omega arith) ∙ c.in_ok-after-in-None.ensures.answer in
    rw c.split_at.ensures.front (has_end c.args.end c.args.depth c.args.bytes.now identifier rest _ is test found)
