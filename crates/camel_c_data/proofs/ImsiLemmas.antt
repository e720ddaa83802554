-- The number of an IMSI is read as it, and that of none is malformed.
use Rattle.std.proofs.Common.{◌≡◌, ◌∙◌, ◌≤◌, ℕ, Bool, true, false, true≢false, List, length, nat_le, nat_lt, refl, sym, ap, arith}
use Rattle.std.proofs.lemmas.Bool.Decides.{nat_tests}
use Rattle.std.proofs.lemmas.List.Elements.{All-get_or}
use Rattle.std.proofs.lemmas.List.Sums.{fails_before_first, position_or_len_is}
use Rattle.std.specs.Prelude.{Result, is_ok}
use Rattle.std.specs.List.{position_or_len}
use Rattle.std.specs.declared.result.Result.TheVariants.{Err, Ok}
use Rattle.camel_tbcd.specs.Imsi.{IsImsi, imsi_of, IsNumberOfNone, digits_of_number, imsi_number}
use Rattle.camel_tbcd.specs.declared.imsi.ImsiFault.{ImsiFault}
use Rattle.camel_tbcd.proofs.ImsiLemmas.{digits_of_imsi}
use Rattle.camel_c_data.specs.Fields.{imsi_in, with_number, ok_or_malformed}
use Rattle.camel_reading.specs.Reading.{◌>>=◌}
use Rattle.camel_c_data.specs.declared.data_fault.DataFault.TheVariants.{Malformed}
use Rattle.camel_c_data.specs.declared.imsi.CamelImsi.{CamelImsi}

abbrev is_no_digit : ℕ → Bool
is_no_digit value = nat_lt 9 value

digit_passes : (digit : ℕ) → digit ≤ 9 → is_no_digit digit ≡ false
digit_passes digit le = grind (arith, nat_tests)

passed_digit : (digit : ℕ) → is_no_digit digit ≡ false → digit ≤ 9
passed_digit digit passes = grind (arith, nat_tests)

-- the digits of an IMSI make it
imsi_of-is : (digits : List ℕ) → IsImsi digits → imsi_of digits ≡ Ok digits
imsi_of-is digits is =
    let few : nat_le 5 (length digits) ≡ true = grind (arith, nat_tests, is.least) in
    let many : nat_le (length digits) 15 ≡ true = grind (arith, nat_tests, is.most) in
    let end : position_or_len is_no_digit digits ≡ length digits =
    position_or_len_is is_no_digit digits (length digits) 0 (omega arith)
    (λ k lt. digit_passes _ (All-get_or (λ digit. digit ≤ 9) digits k 0 lt is.decimal))
    (λ more. absurd (omega (arith, more))) in
    let none : nat_lt (length digits) (length digits) ≡ false = grind (arith, nat_tests) in
    rw (few, many, end, none) refl

-- what digits make is an IMSI
is-imsi_of : (few many some : Bool) (values digits : List ℕ) → nat_le 5 (length values) ≡ few → nat_le (length values) 15 ≡ many
    → nat_lt (position_or_len is_no_digit values) (length values) ≡ some → imsi_of values ≡ Ok digits → IsImsi digits
is-imsi_of true true false values digits least most none made =
    let both : ◌≡◌ {A = Result (List ℕ) ImsiFault} (Ok values) (Ok digits) = rw (least, most, none) at made in
    let same : values ≡ digits = grind (arith, both) in
    rw (← same) (record {
      least = grind (arith, nat_tests, least);
      most = grind (arith, nat_tests, most);
      decimal = λ k d lt. passed_digit _ (fails_before_first is_no_digit values k d (grind (arith, nat_tests, none, lt)));
    })
is-imsi_of true true true values digits least most some made = absurd (true≢false (sym (ap is_ok (rw (least, most, some) at made))))
is-imsi_of true false some values digits least most first made = absurd (true≢false (sym (ap is_ok (rw (least, most) at made))))
is-imsi_of false many some values digits least most first made = absurd (true≢false (sym (ap is_ok (rw least at made))))

-- an IMSI is read by its number
pub reads : (held : CamelImsi) (digits : List ℕ) → IsImsi digits → imsi_number digits ≡ held.number → imsi_in held ≡ Ok digits
unfolding imsi_in
reads held digits is its =
    let made : imsi_of (digits_of_number held.number) ≡ Ok digits =
    ap (λ n. imsi_of (digits_of_number n)) (sym its) ∙ ap imsi_of (digits_of_imsi digits is) ∙ imsi_of-is digits is in
    rw made (rw its (grind (arith, nat_tests)))

none_with : (number : ℕ) (made : Result (List ℕ) ImsiFault) → ((digits : List ℕ) → made ≡ Ok digits → IsImsi digits)
    → IsNumberOfNone number → (ok_or_malformed made >>= with_number number) ≡ Err Malformed
none_with number (Err fault) is none = refl
none_with number (Ok digits) is none =
    let other : imsi_number digits ≡ number → ⊥ = none digits (is digits refl) in
    grind (arith, nat_tests, other)

-- the number of none is malformed
pub reads_none : (held : CamelImsi) → IsNumberOfNone held.number → imsi_in held ≡ Err Malformed
unfolding imsi_in
reads_none held none =
    none_with held.number (imsi_of (digits_of_number held.number))
    (λ digits made. is-imsi_of _ _ _ (digits_of_number held.number) digits refl refl refl made) none
