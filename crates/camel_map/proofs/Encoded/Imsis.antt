-- An encoded IMSI is read as its digits.
use Rattle.std.proofs.Common.{◌≡◌, ◌⊎◌, ℕ, ◌+◌, ◌-◌, ◌*◌, ◌/◌, ◌%◌, ◌≤◌, false, eqb, List, [], ◌∷◌, ◌++◌, length, take}
use Rattle.std.proofs.Common.{get_or, All, inl, inr, refl, ap, arith, ◌∙◌, true, ltb, position, IfSome, Option, Some}
use Rattle.std.proofs.Common.{None, Ok, bytes_eq, sym}
use Rattle.std.proofs.lemmas.Bool.{ne_eqb, le-leb, le-ltb}
use Rattle.std.proofs.lemmas.List.{length-append, take_at}
use Rattle.std.proofs.lemmas.List.Elements.{All-head, All-tail}
use Rattle.std.proofs.Math.Seq.{get_or-append_seam}
use Rattle.std.proofs.lemmas.List.Sums.{position_or_len_is}
use Rattle.std.proofs.lemmas.Slice.Eq.{bytes_eq-Decides}
use Rattle.std.specs.List.{position_or_len}
use Rattle.camel_tbcd.specs.AddressString.{nibbles}
use Rattle.camel_tbcd.specs.Imsi.{without_filler, IsImsi, imsi_of_nibbles, imsi_of_tbcd}
use Rattle.camel_map.specs.Encoding.{tbcd_octets, leaf}
use Rattle.camel_tbcd.proofs.DigitLemmas.{length-nibbles}
use Rattle.camel_map.specs.Reading.{imsi_in, own_imsi}
use Rattle.camel_map.proofs.Encoded.Series.{Decodes, at}

-- The digits of TBCD octets are those that were encoded.

abbrev pub IsDigit : ℕ → Type 0
IsDigit digit = digit ≤ 9

-- TBCD octets have the nibbles of the digits, and maybe a filler
abbrev pub AreFilled : List ℕ → List ℕ → Type 0
AreFilled digits values = (values ≡ digits) ⊎ (values ≡ digits ++ 15 ∷ [])

two_more : (low high : ℕ) (digits values : List ℕ) → AreFilled digits values
    → AreFilled (low ∷ high ∷ digits) (low ∷ high ∷ values)
two_more low high digits values (inl whole) = inl (ap (λ (more : List ℕ). low ∷ high ∷ more) whole)
two_more low high digits values (inr filled) = inr (ap (λ (more : List ℕ). low ∷ high ∷ more) filled)

pub filled : (digits : List ℕ) → All IsDigit digits → AreFilled digits (nibbles (tbcd_octets digits))
unfolding tbcd_octets
filled [] decimal = inl refl
filled (last ∷ []) decimal =
    let digit = All-head IsDigit last [] decimal in
    let low : (240 + last) % 16 ≡ last = omega (arith, digit) in
    let high : (240 + last) / 16 ≡ 15 = omega (arith, digit) in
    inr (rw (low, high) refl)
filled (low ∷ high ∷ digits) decimal =
    let first = All-head IsDigit low (high ∷ digits) decimal in
    let rest = All-tail IsDigit low (high ∷ digits) decimal in
    let second = All-head IsDigit high digits rest in
    let is_low : (high * 16 + low) % 16 ≡ low = omega (arith, first) in
    let is_high : (high * 16 + low) / 16 ≡ high = omega (arith, first) in
    rw (is_low, is_high) (two_more low high digits _ (filled digits (All-tail IsDigit high digits rest)))

-- the digits are left when a filler is dropped
pub digits_left : (digits values : List ℕ) → All IsDigit digits → 1 ≤ length digits → AreFilled digits values
    → without_filler values ≡ digits
digits_left digits values decimal some (inl whole) =
    let last = length digits - 1 in
    let digit : get_or digits last 0 ≤ 9 = decimal last 0 (omega arith) in
    let not_filler : eqb (get_or digits last 0) 15 ≡ false = ne_eqb _ _ (λ e. omega arith) in
    rw (whole, not_filler) refl
digits_left digits values decimal some (inr filled) =
    let count : length (digits ++ 15 ∷ []) - 1 ≡ length digits = omega (arith, length-append digits (15 ∷ [])) in
    let filler : get_or (digits ++ 15 ∷ []) (length digits) 0 ≡ 15 = get_or-append_seam digits 15 [] 0 in
    let front : take (length digits) (digits ++ 15 ∷ []) ≡ digits = take_at digits (15 ∷ []) (length digits) refl in
    rw (filled, count, filler) front

-- An encoded IMSI is read as its digits.

-- no digit is over 9
none_over : (digits : List ℕ) → All IsDigit digits → position (λ value. ltb 9 value) digits ≡ None
none_over digits decimal =
    let all : position_or_len (λ value. ltb 9 value) digits ≡ length digits =
    position_or_len_is (λ value. ltb 9 value) digits (length digits) 0 (omega arith)
    (λ k within. le-ltb _ _ (decimal k 0 within)) (λ more. absurd (omega arith)) in
    let end : ltb (length digits) (length digits) ≡ false = le-ltb _ _ (omega arith) in
    rw (all, end) refl

-- how many octets the digits take
counted : (digits octets : List ℕ) → IsImsi digits → AreFilled digits (nibbles octets)
    → (3 ≤ length octets) × (length octets ≤ 8)
counted digits octets is (inl whole) =
    let least = is.least in
    let most = is.most in
    let count : 2 * length octets ≡ length digits = sym (length-nibbles octets) ∙ ap length whole in
    (omega arith, omega arith)
counted digits octets is (inr filled) =
    let least = is.least in
    let most = is.most in
    let count : 2 * length octets ≡ length digits + 1 =
    sym (length-nibbles octets) ∙ ap length filled ∙ length-append digits (15 ∷ []) in
    (omega arith, omega arith)

-- the octets are eight at most
pub octets_few : (digits : List ℕ) → IsImsi digits → length (tbcd_octets digits) ≤ 8
octets_few digits is = (counted digits (tbcd_octets digits) is (filled digits is.decimal)).1

tbcd_read : (digits : List ℕ) → IsImsi digits → imsi_of_tbcd (tbcd_octets digits) ≡ Ok digits
tbcd_read digits is =
    let octets = tbcd_octets digits in
    let all = filled digits is.decimal in
    let count = counted digits octets is all in
    let left : without_filler (nibbles octets) ≡ digits =
    digits_left digits (nibbles octets) is.decimal (omega (arith, is.least)) all in
    let none : position (λ value. ltb 9 value) digits ≡ None = none_over digits is.decimal in
    let own : imsi_of_nibbles digits ≡ Ok digits = rw (none, le-leb (length digits) 15 is.most) refl in
    rw (le-leb 3 (length octets) count.0, le-leb (length octets) 8 count.1) (ap imsi_of_nibbles left ∙ own)

-- an IMSI is read as its digits
pub imsi_read : (octet : ℕ) (digits : List ℕ) → IsImsi digits → Decodes imsi_in (leaf octet (tbcd_octets digits)) digits
unfolding imsi_in
imsi_read octet digits is short place end = let read = tbcd_read digits is in rw (read, imsi_in) refl

-- it is that of the dialogue, if the dialogue has one
pub own_imsi_read : (dialogue : Option (List ℕ)) (octet : ℕ) (digits : List ℕ) → IsImsi digits
    → IfSome dialogue (λ imsi. digits ≡ imsi)
    → Decodes (own_imsi dialogue) (leaf octet (tbcd_octets digits)) digits
unfolding own_imsi
own_imsi_read None octet digits is same short place end = imsi_read octet digits is short place end
own_imsi_read (Some imsi) octet digits is same short place end =
    let read : imsi_in (at (leaf octet (tbcd_octets digits)) place end) ≡ Ok digits =
    imsi_read octet digits is short place end in
    let equal : bytes_eq digits imsi ≡ true = (bytes_eq-Decides digits imsi).1 same in
    rw (read, equal) refl
