-- The number of an IMSI and its digits, each by the other.
use Rattle.std.proofs.Common.{◌≡◌, ◌∙◌, ℕ, zero, suc, ◌+◌, ◌*◌, ◌/◌, ◌%◌, ◌<◌, ◌≤◌, ◌^◌, List, [], ◌∷◌, All, length}
use Rattle.std.proofs.Common.{refl, sym, ap, ap₂, arith, ◌-◌, true, false, not, get_or, nat_le, nat_lt, take}
use Rattle.std.proofs.Common.{true≢false, ◌++◌, drop, slice_set, nat_eq}
use Rattle.std.proofs.Math.Arith.{mod-mul}
use Rattle.std.proofs.Math.Nat.{add-mul, div-div-eq-div-mul, div-one, mul-le-mul_right, mul_assoc, one-le-pow, pow-suc}
use Rattle.std.proofs.Math.Nat.{pow-succ', pow-le-pow_right, mod-eq_of_lt}
use Rattle.std.proofs.lemmas.List.Elements.{All-cons, All-head, All-nil, All-tail, All-map, All-weaker}
use Rattle.std.proofs.lemmas.Nat.{div-mul-add, mod-mul-add}
use Rattle.std.proofs.lemmas.Bool.Decides.{nat_tests, Decides-eqb, same_from_decides}
use Rattle.std.proofs.lemmas.Bool.{true_from_ne_false}
use Rattle.std.proofs.lemmas.Grind.{common_steps}
use Rattle.std.proofs.lemmas.List.{get_or-take, length-map, length-take-le, append_assoc, drop-set}
use Rattle.std.proofs.lemmas.List.Folds.{list_all_at}
use Rattle.std.proofs.lemmas.List.Sums.{AllPass-from_list_all, position_or_len_is}
use Rattle.std.specs.Char.{is_ascii_digit}
use Rattle.std.specs.List.{list_all, position_or_len}
use Rattle.std.specs.declared.result.Result.TheVariants.{Err, Ok}
use Rattle.std.proofs.lemmas.Slice.Eq.{slice_eq-Decides}
use Rattle.std.specs.Cmp.Lexicographic.{pointwise, slice_cmp, texts_ties}
use Rattle.std.specs.Ordering.{eq_by_cmp, nat_cmp}
use Rattle.camel_tbcd.specs.Imsi.{last_digits, with_digits, IsImsi, digit_values, imsi_of_ascii, digits_of_number}
use Rattle.camel_tbcd.specs.Imsi.{imsi_number, IsNumberOfNone}
use Rattle.camel_tbcd.specs.declared.imsi.ImsiFault.TheVariants.{NotDigit}

-- Decimal digits back from their value, and their value from the digits.

abbrev pub IsDigit : ℕ → Type 0
IsDigit digit = digit ≤ 9

place_more : (value count : ℕ) → value / 10 ^ suc count ≡ value / 10 ^ count / 10
place_more value count = ap (λ n. value / n) (pow-suc 10 count) ∙ sym (div-div-eq-div-mul value (10 ^ count) 10)

-- the digits behind a number do not change it
upper : (digits : List ℕ) (number : ℕ) → All IsDigit digits → with_digits number digits / 10 ^ length digits ≡ number
upper [] number few = div-one number
upper (digit ∷ digits) number few =
    let small = All-head IsDigit digit digits few in
    place_more _ (length digits)
    ∙ ap (λ n. n / 10) (upper digits (number * 10 + digit) (All-tail IsDigit digit digits few))
    ∙ div-mul-add number 10 digit (omega (arith, small))

-- digits are the last ones of a number with them
pub digits_back : (digits : List ℕ) (number : ℕ) → All IsDigit digits → last_digits (length digits) (with_digits number digits) ≡ digits
digits_back [] number few = refl
digits_back (digit ∷ digits) number few =
    let small = All-head IsDigit digit digits few in
    let rest = All-tail IsDigit digit digits few in
    ap₂ (λ first more. first ∷ more)
    (ap (λ n. n % 10) (upper digits (number * 10 + digit) rest) ∙ mod-mul-add number 10 digit (omega (arith, small)))
    (digits_back digits (number * 10 + digit) rest)

-- so many digits have a value below that power
pub below : (digits : List ℕ) (number : ℕ) → All IsDigit digits → with_digits number digits < (number + 1) * 10 ^ length digits
below [] number few = omega arith
below (digit ∷ digits) number few =
    let small = All-head IsDigit digit digits few in
    let power : ℕ = 10 ^ length digits in
    let rest = below digits (number * 10 + digit) (All-tail IsDigit digit digits few) in
    let wide : (number * 10 + digit + 1) * power ≤ (number + 1) * 10 * power = mul-le-mul_right power (omega (arith, small)) in
    let turned : (number + 1) * 10 * power ≡ (number + 1) * (10 * power) = mul_assoc (number + 1) 10 power in
    rw pow-succ' (omega (arith, rest, wide, turned))

pub length-last : (count value : ℕ) → length (last_digits count value) ≡ count
length-last zero value = refl
length-last (suc count) value = ap suc (length-last count value)

pub digits-last : (count value : ℕ) → All IsDigit (last_digits count value)
digits-last zero value = All-nil IsDigit
digits-last (suc count) value = All-cons IsDigit _ _ (omega arith) (digits-last count value)

-- the last digits of a value, behind a number
pub value_back : (count value number : ℕ) → with_digits number (last_digits count value) ≡ number * 10 ^ count + value % 10 ^ count
value_back zero value number = omega arith
value_back (suc count) value number =
    let power : ℕ = 10 ^ count in
    let digit : ℕ = value / power % 10 in
    let next = value_back count value (number * 10 + digit) in
    let parts : value % (10 * power) ≡ digit * power + value % power = mod-mul value {m = 10} {c = power} (omega arith) (one-le-pow count 10 (omega arith)) in
    let spread : (number * 10 + digit) * power ≡ number * (10 * power) + digit * power =
    add-mul (number * 10) digit power ∙ ap (λ n. n + digit * power) (mul_assoc number 10 power) in
    rw pow-succ' (omega (arith, next, parts, spread))

-- The values of the characters 0 to 9 make an IMSI.

digit_value : (character : ℕ) → is_ascii_digit character ≡ true → character - 48 ≤ 9
digit_value character is = grind (arith, nat_tests)

pub IsImsi-digit_values : (text : List ℕ) → 5 ≤ length text → length text ≤ 15 → list_all is_ascii_digit text ≡ true → IsImsi (digit_values text)
IsImsi-digit_values text least most digits =
    let count : length (digit_values text) ≡ length text = length-map text (λ character. character - 48) in
    record {
      least = omega arith;
      most = omega arith;
      decimal = All-map (λ digit. digit ≤ 9) (λ character. character - 48) text
          (All-weaker _ (λ character. character - 48 ≤ 9) digit_value text (AllPass-from_list_all is_ascii_digit text digits));
    }

-- each of the first characters is a digit
digit_before : (text : List ℕ) (count k : ℕ) → k < count → count ≤ length text → list_all is_ascii_digit (take count text) ≡ true
    → is_ascii_digit (get_or text k 0) ≡ true
digit_before text count k before within digits =
    let size : length (take count text) ≡ count = length-take-le count text within in
    true_from_ne_false (is_ascii_digit (get_or text k 0)) (λ is. true≢false (
    sym digits ∙ list_all_at is_ascii_digit (take count text) k 0 (omega arith) (ap is_ascii_digit (get_or-take count text k 0 before) ∙ is)))

-- the first characters, if they are digits, end where the first one stands that is none
end : (text : List ℕ) (at : ℕ) → at ≤ length text → list_all is_ascii_digit (take at text) ≡ true
    → (at < length text → is_ascii_digit (get_or text at 0) ≡ false)
    → position_or_len (λ character. not (is_ascii_digit character)) text ≡ at
end text at within digits is =
    position_or_len_is (λ character. not (is_ascii_digit character)) text at 0 within (λ k before. ap not (digit_before text at k before within digits))
    (λ more. ap not (is more))

pub refused : (text : List ℕ) (at : ℕ) → 5 ≤ length text → length text ≤ 15 → at < length text → list_all is_ascii_digit (take at text) ≡ true
    → is_ascii_digit (get_or text at 0) ≡ false
    → imsi_of_ascii text ≡ Err (NotDigit at)
refused text at least most within digits is =
    let few : nat_le 5 (length text) ≡ true = grind (arith, nat_tests) in
    let many : nat_le (length text) 15 ≡ true = grind (arith, nat_tests) in
    let there : nat_lt at (length text) ≡ true = grind (arith, nat_tests) in
    rw (few, many, end text at (omega arith) digits (λ more. is), there) refl

pub accepted : (text : List ℕ) → 5 ≤ length text → length text ≤ 15 → list_all is_ascii_digit text ≡ true → imsi_of_ascii text ≡ Ok (digit_values text)
accepted text least most digits =
    let few : nat_le 5 (length text) ≡ true = grind (arith, nat_tests) in
    let many : nat_le (length text) 15 ≡ true = grind (arith, nat_tests) in
    let whole : take (length text) text ≡ text = grind (arith, common_steps) in
    let none : nat_lt (length text) (length text) ≡ false = grind (arith, nat_tests) in
    rw (few, many, end text (length text) (omega arith) (rw whole digits) (λ more. absurd (omega arith)), none) refl

-- The first digits of an IMSI, as their count and their decimal value.

-- the last digit stands behind those of a tenth
pub last_apart : (count value : ℕ) → last_digits (suc count) value ≡ last_digits count (value / 10) ++ value % 10 ∷ []
last_apart zero value = ap (λ n. n % 10 ∷ []) (div-one value)
last_apart (suc count) value =
    ap₂ (λ first more. first % 10 ∷ more) (ap (λ n. value / n) (pow-succ' 10 count) ∙ sym (div-div-eq-div-mul value 10 (10 ^ count))) (last_apart count value)

-- one digit more
pub last_more : (count value digit : ℕ) → digit ≤ 9 → last_digits (suc count) (value * 10 + digit) ≡ last_digits count value ++ digit ∷ []
last_more count value digit decimal =
    last_apart count (value * 10 + digit)
    ∙ ap₂ (λ rest last. last_digits count rest ++ last ∷ [])
    (div-mul-add value 10 digit (omega (arith, decimal))) (mod-mul-add value 10 digit (omega (arith, decimal)))

pub fewer : (count value : ℕ) (digits : List ℕ) → last_digits count value ≡ digits → length digits < 15 → count < 15
fewer count value digits same few = omega (arith, ap length same, length-last count value, few)

-- so many digits, and one more, fit in 64 bits
pub few_more : (count value : ℕ) → count < 15 → value < 10 ^ count → value < 10 ^ 14
few_more count value few fits =
    let most : 10 ^ count ≤ 10 ^ 14 = pow-le-pow_right {n = 10} (omega arith) {i = count} {j = 14} (omega arith) in
    omega (arith, fits, most)

-- the digits that are left, before those that are read from the last one on
pub digit_read : (at value : ℕ) (read all : List ℕ) → at < length read
    → last_digits (suc at) value ++ drop (suc at) read ≡ all → last_digits at (value / 10) ++ drop at (slice_set read at (value % 10)) ≡ all
digit_read at value read all room so_far =
    let next : suc at ≡ at + 1 = omega arith in
    ap (λ rest. last_digits at (value / 10) ++ rest) (drop-set read at (value % 10) room ∙ ap (λ n. value % 10 ∷ drop n read) (sym next))
    ∙ sym (append_assoc (last_digits at (value / 10)) (value % 10 ∷ []) (drop (suc at) read))
    ∙ ap (λ first. first ++ drop (suc at) read) (sym (last_apart at value))
    ∙ so_far

-- The number of an IMSI gives its digits back, and its digits the number.

-- the decimal value of an IMSI is below the power of its count of digits, and fits in 56 bits
pub bounds : (digits : List ℕ) → IsImsi digits → with_digits 0 digits < 10 ^ length digits
bounds digits is = omega (arith, below digits 0 is.decimal)

fits : (digits : List ℕ) → IsImsi digits → with_digits 0 digits < 2 ^ 56
fits digits is =
    let most : 10 ^ length digits ≤ 10 ^ 15 = pow-le-pow_right {n = 10} (omega arith) {i = length digits} {j = 15} is.most in
    omega (arith, bounds digits is, most)

pub count_of : (digits : List ℕ) → IsImsi digits → imsi_number digits / 2 ^ 56 ≡ length digits
count_of digits is = div-mul-add (length digits) (2 ^ 56) (with_digits 0 digits) (fits digits is)

pub value_of : (digits : List ℕ) → IsImsi digits → imsi_number digits % 2 ^ 56 ≡ with_digits 0 digits
value_of digits is = mod-mul-add (length digits) (2 ^ 56) (with_digits 0 digits) (fits digits is)

pub digits_of_imsi : (digits : List ℕ) → IsImsi digits → digits_of_number (imsi_number digits) ≡ digits
digits_of_imsi digits is = ap₂ last_digits (count_of digits is) (value_of digits is) ∙ digits_back digits 0 is.decimal

-- two IMSIs are equal if their numbers are
pub same_number : (a b : List ℕ) → IsImsi a → IsImsi b → nat_eq (imsi_number a) (imsi_number b) ≡ pointwise nat_eq a b
same_number a b is are =
    let told = Decides-eqb (imsi_number a) (imsi_number b) in
    same_from_decides _ _ (
      λ same. sym (digits_of_imsi a is) ∙ ap digits_of_number (told.0 same) ∙ digits_of_imsi b are,
      λ same. told.1 (ap imsi_number same),
    ) (slice_eq-Decides Decides-eqb a b (pointwise nat_eq a b) refl)

pub same_by_order : (a b : List ℕ) → IsImsi a → IsImsi b → nat_eq (imsi_number a) (imsi_number b) ≡ eq_by_cmp (slice_cmp nat_cmp) a b
same_by_order a b is are = same_number a b is are ∙ texts_ties a b

-- Which numbers are those of IMSIs, and of which.

-- what a number with a count and a value in their bounds is
pub is_imsi : (number : ℕ) → 5 ≤ number / 2 ^ 56 → number / 2 ^ 56 ≤ 15 → IsImsi (digits_of_number number)
is_imsi number least most =
    let counted = length-last (number / 2 ^ 56) (number % 2 ^ 56) in
    record { least = omega (arith, counted, least); most = omega (arith, counted, most); decimal = digits-last (number / 2 ^ 56) (number % 2 ^ 56) }

-- the number of the digits of a value
pub number_of : (count value : ℕ) → value < 10 ^ count → imsi_number (last_digits count value) ≡ count * 2 ^ 56 + value
number_of count value below =
    let back : with_digits 0 (last_digits count value) ≡ value = value_back count value 0 ∙ omega arith ∙ mod-eq_of_lt below in
    omega (arith, back, length-last count value)

pub number_back : (number : ℕ) → number % 2 ^ 56 < 10 ^ (number / 2 ^ 56) → imsi_number (digits_of_number number) ≡ number
number_back number below = number_of (number / 2 ^ 56) (number % 2 ^ 56) below ∙ omega arith

-- a number with a count or a value out of its bounds is that of none
pub none_counted : (number : ℕ) → (5 ≤ number / 2 ^ 56 → number / 2 ^ 56 ≤ 15 → ⊥) → IsNumberOfNone number
none_counted number out digits is its =
    let count : number / 2 ^ 56 ≡ length digits = ap (λ n. n / 2 ^ 56) (sym its) ∙ count_of digits is in
    out (omega (arith, count, is.least)) (omega (arith, count, is.most))

pub none_valued : (number : ℕ) → 10 ^ (number / 2 ^ 56) ≤ number % 2 ^ 56 → IsNumberOfNone number
none_valued number out digits is its =
    let count : number / 2 ^ 56 ≡ length digits = ap (λ n. n / 2 ^ 56) (sym its) ∙ count_of digits is in
    let value : number % 2 ^ 56 ≡ with_digits 0 digits = ap (λ n. n % 2 ^ 56) (sym its) ∙ value_of digits is in
    let power : 10 ^ (number / 2 ^ 56) ≡ 10 ^ length digits = ap (λ n. 10 ^ n) count in
    absurd (omega (arith, out, value, power, bounds digits is))
