-- IMSIs: the lists of digits that they are, and the numbers that they are kept as.
use Rattle.std.specs.Prelude.{ℕ, ◌≤◌, ◌-◌, ◌==◌, ◌&&◌, not, nat_le, nat_lt, List, length, map, position, slice_index}
use Rattle.std.specs.Prelude.{take, All, Option, Some, None, Result, Ok, Err, if◌then◌else◌, ◌≢◌, zero, suc, ◌+◌, ◌*◌}
use Rattle.std.specs.Prelude.{◌/◌, ◌%◌, ◌^◌, [], ◌∷◌}
use Rattle.std.specs.Char.{is_ascii_digit}
use Rattle.camel_tbcd.specs.AddressString.{filler, nibbles}
use Rattle.camel_tbcd.specs.declared.imsi.ImsiFault.{ImsiFault}
use Rattle.camel_tbcd.specs.declared.imsi.ImsiFault.TheVariants.{Length, NotDigit}

-- An IMSI, as the list of its digits (TS 23.003; the least number of digits is that of 3 octets with a
-- filler, the least size that TS 29.002 gives an IMSI).

-- 5 to 15 decimal digits
pub record IsImsi (digits : List ℕ) : Type 0 where
  pub least : 5 ≤ length digits
  pub most : length digits ≤ 15
  pub decimal : All (λ digit. digit ≤ 9) digits

-- the fault of the first value that is no digit, or else this result
abbrev pub unless_no_digit : Option ℕ → Result (List ℕ) ImsiFault → Result (List ℕ) ImsiFault
unless_no_digit (Some at) answer = Err (NotDigit at)
unless_no_digit None answer = answer

-- the IMSI that values make: their count is looked at first, then the values from the first one on
abbrev pub imsi_of : List ℕ → Result (List ℕ) ImsiFault
imsi_of values =
    if nat_le 5 (length values) && nat_le (length values) 15
    then unless_no_digit (position (λ value. nat_lt 9 value) values) (Ok values)
    else Err Length

-- the values of the characters 0 to 9
abbrev pub digit_values : List ℕ → List ℕ
digit_values characters = map (λ character. character - 48) characters

-- the IMSI that characters make: their count is looked at first, then the characters from the first one on
abbrev pub imsi_of_ascii : List ℕ → Result (List ℕ) ImsiFault
imsi_of_ascii characters =
    if nat_le 5 (length characters) && nat_le (length characters) 15
    then unless_no_digit (position (λ character. not (is_ascii_digit character)) characters) (Ok (digit_values characters))
    else Err Length

-- nibbles without the filler, if it is the last one
abbrev pub without_filler : List ℕ → List ℕ
without_filler values = if slice_index values (length values - 1) == filler then take (length values - 1) values else values

-- the IMSI that the nibbles of octets make: the first of them over 9 is looked for, and then their count
abbrev pub imsi_of_nibbles : List ℕ → Result (List ℕ) ImsiFault
imsi_of_nibbles values =
    unless_no_digit (position (λ value. nat_lt 9 value) values) (if nat_le (length values) 15 then Ok values else Err Length)

-- the IMSI that 3 to 8 TBCD octets make; a filler is allowed only as the last high nibble
abbrev pub imsi_of_tbcd : List ℕ → Result (List ℕ) ImsiFault
imsi_of_tbcd octets =
    if nat_le 3 (length octets) && nat_le (length octets) 8 then imsi_of_nibbles (without_filler (nibbles octets))
    else Err Length

-- The numbers of the faults of an IMSI.

abbrev pub imsi_fault_code : ImsiFault → ℕ
imsi_fault_code Length = 1
imsi_fault_code (NotDigit at) = 2

-- An IMSI as one number of 64 bits, by which two are compared in one step.

-- a number with decimal digits behind its own
abbrev pub with_digits : ℕ → List ℕ → ℕ
with_digits number [] = number
with_digits number (digit ∷ digits) = with_digits (number * 10 + digit) digits

-- the number of an IMSI: how many digits it has, above their decimal value in 56 bits
abbrev pub imsi_number : List ℕ → ℕ
imsi_number digits = length digits * 2 ^ 56 + with_digits 0 digits

-- a number is that of no IMSI
abbrev pub IsNumberOfNone : ℕ → Type 0
IsNumberOfNone number = (digits : List ℕ) → IsImsi digits → imsi_number digits ≢ number

-- the last digits of a decimal value, the first one first
abbrev pub last_digits : ℕ → ℕ → List ℕ
last_digits zero value = []
last_digits (suc count) value = value / 10 ^ count % 10 ∷ last_digits count value

-- the digits of which a number is the number
abbrev pub digits_of_number : ℕ → List ℕ
digits_of_number number = last_digits (number / 2 ^ 56) (number % 2 ^ 56)
