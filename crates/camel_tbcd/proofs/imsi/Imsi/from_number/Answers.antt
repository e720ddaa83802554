use Rattle.std.proofs.Common.{◌≡◌, sym, arith}
use Rattle.camel_tbcd.specs.Imsi.{IsImsi, digits_of_number, imsi_number}
use Rattle.camel_tbcd.proofs.ImsiLemmas.{is_imsi, none_counted, none_valued, number_back}
use Rattle.camel_tbcd.proofs.imsi.Imsi.from_number.Goals as goal

pub returns-then-count-lt-MIN_IMSI_DIGITS-clause-none : goal.returns-then-count-lt-MIN_IMSI_DIGITS-clause-none
returns-then-count-lt-MIN_IMSI_DIGITS-clause-none c none =
    none_counted c.args.number (λ least most. omega (arith, least, c.digit_count-count.ensures, c.if-count-lt-MIN_IMSI_DIGITS.true))

pub returns-then-count-gt-MAX_IMSI_DIGITS-clause-none : goal.returns-then-count-gt-MAX_IMSI_DIGITS-clause-none
returns-then-count-gt-MAX_IMSI_DIGITS-clause-none c none =
    none_counted c.args.number (λ least most. omega (arith, most, c.digit_count-count.ensures, c.if-count-gt-MAX_IMSI_DIGITS.true))

pub returns-then-decimal_value-power_of_ten-clause-none : goal.returns-then-decimal_value-power_of_ten-clause-none
returns-then-decimal_value-power_of_ten-clause-none c none =
    none_valued c.args.number
    (rw (sym c.digit_count-count.ensures, sym c.decimal_value.ensures, sym c.power_of_ten.ensures) c.if-decimal_value-power_of_ten.true)

whole : (c : goal.Else-decimal_value-power_of_ten) → imsi_number (digits_of_number c.args.number) ≡ c.args.number
whole c =
    number_back c.args.number
    (rw (sym c.digit_count-count.ensures, sym c.decimal_value.ensures, sym c.power_of_ten.ensures) (omega (arith, c.if-decimal_value-power_of_ten.false)))

is : (c : goal.Else-decimal_value-power_of_ten) → IsImsi (digits_of_number c.args.number)
is c =
    is_imsi c.args.number (omega (arith, c.digit_count-count.ensures, c.if-count-lt-MIN_IMSI_DIGITS.false))
    (omega (arith, c.digit_count-count.ensures, c.if-count-gt-MAX_IMSI_DIGITS.false))

pub invariant_of-result : goal.invariant_of-result
invariant_of-result c = (is c, sym (whole c))

pub returns-clause-imsi : goal.returns-clause-imsi
returns-clause-imsi c = is c

pub returns-clause-number : goal.returns-clause-number
returns-clause-number c = whole c
