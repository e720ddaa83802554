-- The parts of a text, cut off one by one, and read as octets or as a list.
use Rattle.std.proofs.Common.{◌≡◌, ℕ, zero, suc, ◌+◌, ◌<◌, Bool, List, [], ◌∷◌, length, drop, take, Some, refl, add-one}
use Rattle.std.proofs.Common.{arith, ◌∙◌, ◌%◌, ◌==◌, true, false, Result, Ok, Err, sym, Bor, Option, None}
use Rattle.std.specs.Prelude.{position, ◌&&◌}
use Rattle.std.specs.List.{position_or_len, slice_split, list_all}
use Rattle.std.proofs.lemmas.List.Quantifiers.{position-Some}
use Rattle.std.proofs.lemmas.List.Splits.{slice_split_first}
use Rattle.std.proofs.lemmas.List.Sums.{position_or_len_is, AllPass-from_list_all, list_all-from_AllPass}
use Rattle.std.specs.Result.{is_ok}
use Rattle.std.proofs.lemmas.Bool.Decides.{nat_tests}
use Rattle.camel_script.specs.Fields.{part, parts_of, octets_of}
use Rattle.hex.proofs.HexLemmas.{decode_of-digits, decode_of-ok}
use Rattle.hex.specs.Hex.{decode_of, is_hex_digit}
use Rattle.hex.specs.declared.error.FromHexError.{FromHexError}

-- The parts of a text, cut off one by one.

-- a text is its first part, and the parts of what is behind the first separator
pub slice_split_place : (p : ℕ → Bool) (text : List ℕ) (at : ℕ) → position p text ≡ Some at
    → slice_split p text ≡ take at text ∷ slice_split p (drop (at + 1) text)
slice_split_place p text at found =
    let there = position-Some p text at 0 found in
    let place : position_or_len p text ≡ at = position_or_len_is p text at 0 (omega arith) there.2 (λ _. there.1) in
    let within : position_or_len p text < length text = rw place there.0 in
    let cut : slice_split p text ≡ take (position_or_len p text) text ∷ slice_split p (drop (position_or_len p text + 1) text) =
    slice_split_first p text 0 within in
    rw place at cut

-- the first part
pub part-first : (separator : ℕ) (text first : List ℕ) (more : List (List ℕ))
    → parts_of separator text ≡ first ∷ more → part separator text 0 ≡ first
part-first separator text first more parts = rw parts refl

-- the parts behind the first one
pub part-later : (separator : ℕ) (text first rest : List ℕ) (at : ℕ)
    → parts_of separator text ≡ first ∷ parts_of separator rest → part separator text (at + 1) ≡ part separator rest at
part-later separator text first rest at parts = rw (parts, add-one) refl

-- no parts are behind the only one
pub part-past : (separator : ℕ) (text : List ℕ) (at : ℕ)
    → parts_of separator text ≡ text ∷ [] → part separator text (at + 1) ≡ part separator [] at
part-past separator text zero parts = rw parts refl
part-past separator text (suc at) parts = rw (parts, add-one) refl

-- A text is read as octets if it is an even number of hexadecimal digits.

pub octets_are : (text : List ℕ) → is_ok (octets_of text) ≡ (length text % 2 == 0 && list_all is_hex_digit text)
unfolding octets_of
octets_are text = by (decode_of text) refl (length text % 2 == 0) (list_all is_hex_digit text) refl refl
  where
    by : (decoded : Result (List ℕ) FromHexError) → decode_of text ≡ decoded → (even digits : Bool)
        → (length text % 2 == 0) ≡ even → list_all is_hex_digit text ≡ digits
        → is_ok (octets_of text) ≡ (length text % 2 == 0 && list_all is_hex_digit text)
    by (Ok bytes) read even digits is_even are_digits =
        let ok = decode_of-ok text bytes read in
        rw (read, ok.0, list_all-from_AllPass is_hex_digit text ok.1) refl
    by (Err fault) read true true is_even are_digits =
        let found = decode_of-digits text (grind (arith, nat_tests)) (AllPass-from_list_all is_hex_digit text are_digits) in
        absurd (let both = sym read ∙ found.1 in cc)
    by (Err fault) read true false is_even are_digits = rw (read, is_even, are_digits) refl
    by (Err fault) read false digits is_even are_digits = rw (read, is_even) refl

-- How much of the text of a list is left, as a loop takes its elements.

-- one more than the characters, where the last element may be empty
abbrev pub length_left : Option (Bor (List ℕ)) → ℕ
length_left None = 0
length_left (Some rest) = suc (length rest.now)
