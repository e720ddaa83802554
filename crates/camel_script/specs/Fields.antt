-- The fields of a record: their parts, what their texts stand for, and where one has a mistake.
use Rattle.std.specs.Prelude.{ℕ, List, [], unwrap_or, ◌==◌, ◌∷◌, Option, Some, None, slice_get, ◌+◌, ◌-◌, ◌*◌, ◌&&◌}
use Rattle.std.specs.Prelude.{Bool, true, false, nat_le, length, fold, codes, slice_index, Result, Ok, Err}
use Rattle.std.specs.Prelude.{if◌then◌else◌, min, ◌≡◌, not, suc}
use Rattle.std.specs.List.{slice_split, list_all}
use Rattle.std.specs.Char.{is_ascii_digit}
use Rattle.std.specs.Str.{bytes_eq}
use Rattle.csv.specs.Records.{field_at}
use Rattle.camel_criteria.specs.Refusal.{refusal_code}
use Rattle.camel_script.specs.declared.text.record_fault.RecordFault.{RecordFault}
use Rattle.hex.specs.Hex.{decode_of, decode_sized}
use Rattle.hex.specs.declared.error.FromHexError.{FromHexError}
use Rattle.camel_criteria.specs.declared.basic_service.BasicService.{BasicService}
use Rattle.camel_criteria.specs.declared.basic_service.BasicService.TheVariants.{Tele, Bearer}
use Rattle.camel_criteria.specs.Cause.{cause_of}
use Rattle.camel_criteria.specs.declared.criteria.CallType.{CallType}
use Rattle.camel_criteria.specs.declared.criteria.CallType.TheVariants.{Forwarded, NotForwarded}
use Rattle.camel_criteria.specs.declared.criteria.MatchType.{MatchType}
use Rattle.camel_criteria.specs.declared.criteria.MatchType.TheVariants.{Inhibiting, Enabling}
use Rattle.camel_criteria.specs.declared.refusal.Refusal.TheVariants.{UnexpectedDataValue}
use Rattle.camel_tbcd.specs.AddressString.{max_address_length, max_isdn_address_length}
use Rattle.camel_tbcd.specs.Imsi.{imsi_of_ascii}
use Rattle.camel_tbcd.specs.declared.imsi.ImsiFault.{ImsiFault}
use Rattle.camel_reading.specs.Reading.{◌>>=◌, each_of}
use Rattle.camel_script.specs.declared.text.record_fault.RecordFault.TheVariants.{Word, Hexadecimal, Number, Refused}
use Rattle.camel_script.specs.declared.text.record_fault.RecordFault.TheVariants.{FieldCount, OutOfMemory}
use Rattle.camel_script.specs.declared.mistake.Expected.{Expected}
use Rattle.camel_script.specs.declared.mistake.Expected.TheVariants.{Nothing}
use Rattle.camel_script.specs.declared.mistake.Mistake.{Mistake}
use Rattle.camel_criteria.specs.declared.refusal.Refusal.{Refusal}
use Rattle.camel_script.specs.declared.text.record_fault.RecordFault.TheVariants as record_fault
use Rattle.camel_criteria.specs.declared.refusal.Refusal.TheVariants as refusal

-- The fields of a record.

-- the field of a record at a place, from 0; empty past the last
abbrev pub field : List (List ℕ) → ℕ → List ℕ
field fields at = unwrap_or (field_at fields at) []

-- The parts of an item, and the elements of a list.

-- the parts of an item are separated by `:`
abbrev pub item_separator : ℕ
item_separator = 58

-- the parts of NUMBER are separated by `/`
abbrev pub number_separator : ℕ
number_separator = 47

-- the elements of a list are separated by `+`
abbrev pub element_separator : ℕ
element_separator = 43

-- the parts of a text, as a separator parts it
abbrev pub parts_of : ℕ → List ℕ → List (List ℕ)
parts_of separator text = slice_split (λ character. character == separator) text

-- the parts of what is behind a separator; none if there is no separator
abbrev pub parts_behind : ℕ → Option (List ℕ) → List (List ℕ)
parts_behind separator None = []
parts_behind separator (Some rest) = parts_of separator rest

-- the part of a text at a place, from 0; empty past the last
abbrev pub part : ℕ → List ℕ → ℕ → List ℕ
part separator text at = unwrap_or (slice_get (parts_of separator text) at) []

-- the part of an item at a place, from 0; empty past the last
abbrev pub item_part : List ℕ → ℕ → List ℕ
item_part item at = part item_separator item at

-- the elements of a list; an empty text has none
abbrev pub elements_of : List ℕ → List (List ℕ)
elements_of [] = []
elements_of (first ∷ more) = parts_of element_separator (first ∷ more)

-- The numbers of the faults of a record.

abbrev pub record_fault_code : RecordFault → ℕ
record_fault_code record_fault.OutOfMemory = 102
record_fault_code record_fault.Word = 202
record_fault_code record_fault.FieldCount = 203
record_fault_code record_fault.Hexadecimal = 204
record_fault_code record_fault.Number = 205
record_fault_code (record_fault.Refused refusal) = refusal_code refusal

-- What the texts of a script's fields stand for (profile 1's own format).

-- the characters are only 0 to 9
abbrev pub is_digits : List ℕ → Bool
is_digits text = list_all is_ascii_digit text

-- a text that is no IMSI has the fault of a number
abbrev pub or_number : Result (List ℕ) ImsiFault → Result (List ℕ) RecordFault
or_number (Ok digits) = Ok digits
or_number (Err e) = Err Number

-- IMSI: 5 to 15 characters 0 to 9
unfoldable pub imsi_of_text : List ℕ → Result (List ℕ) RecordFault
imsi_of_text text = or_number (imsi_of_ascii text)

-- the number that decimal digits stand for
abbrev pub number_of : List ℕ → ℕ
number_of text = fold (λ value character. value * 10 + (character - 48)) 0 text

-- a decimal: 1 to 10 characters 0 to 9, of a value not over the greatest
unfoldable pub decimal_of : ℕ → List ℕ → Result ℕ RecordFault
decimal_of greatest text =
    if nat_le 1 (length text) && nat_le (length text) 10 && is_digits text && nat_le (number_of text) greatest
    then Ok (number_of text) else Err Number

-- a text that is not hexadecimal has the fault of one
abbrev pub or_hexadecimal : Result (List ℕ) FromHexError → Result (List ℕ) RecordFault
or_hexadecimal (Ok octets) = Ok octets
or_hexadecimal (Err e) = Err Hexadecimal

-- octets: an even number of hexadecimal digits of either case, possibly none
unfoldable pub octets_of : List ℕ → Result (List ℕ) RecordFault
octets_of text = or_hexadecimal (decode_of text)

-- one octet: two hexadecimal digits
unfoldable pub octet_of : List ℕ → Result ℕ RecordFault
octet_of text = or_hexadecimal (decode_sized text 1) >>= λ octets. Ok (slice_index octets 0)

-- the letter of a teleservice, `t`
abbrev pub teleservice_letter : ℕ
teleservice_letter = 116

-- the letter of a bearer service, `b`
abbrev pub bearer_service_letter : ℕ
bearer_service_letter = 98

-- BASIC: `t` or `b`, for a teleservice or a bearer service, then one octet
unfoldable pub basic_service_of : List ℕ → Result BasicService RecordFault
basic_service_of [] = Err Word
basic_service_of (letter ∷ code) =
    if letter == teleservice_letter then (octet_of code >>= λ octet. Ok (Tele octet))
    else if letter == bearer_service_letter then (octet_of code >>= λ octet. Ok (Bearer octet))
    else Err Word

-- TYPE of a call: `f` is forwarded, `n` is not
unfoldable pub is_forwarded_of : List ℕ → Result Bool RecordFault
is_forwarded_of text =
    if bytes_eq text (codes "f") then Ok true
    else if bytes_eq text (codes "n") then Ok false
    else Err Word

-- TYPE of an item: empty for no criterion
unfoldable pub call_type_of : List ℕ → Result (Option CallType) RecordFault
call_type_of [] = Ok None
call_type_of (first ∷ more) =
    is_forwarded_of (first ∷ more) >>= λ forwarded. Ok (Some (if forwarded then Forwarded else NotForwarded))

-- the match type of NUMBER: `e` is enabling, `i` is inhibiting
unfoldable pub match_type_of : List ℕ → Result MatchType RecordFault
match_type_of text =
    if bytes_eq text (codes "e") then Ok Enabling
    else if bytes_eq text (codes "i") then Ok Inhibiting
    else Err Word

-- the address of these octets, at least one and at most so many
abbrev pub address_of : ℕ → List ℕ → Result (List ℕ) RecordFault
address_of greatest octets =
    if nat_le 1 (length octets) && nat_le (length octets) greatest then Ok octets else Err (Refused UnexpectedDataValue)

-- the gsmSCF address of these octets, an ISDN-AddressString
unfoldable pub isdn_address_of : List ℕ → Result (List ℕ) RecordFault
isdn_address_of octets = address_of max_isdn_address_length octets

-- the destination of these octets, an AddressString
unfoldable pub call_address_of : List ℕ → Result (List ℕ) RecordFault
call_address_of octets = address_of max_address_length octets

-- a value that is out of its range is refused
abbrev pub some_or_refused : {A : Type 0} → Option A → Result A RecordFault
some_or_refused None = Err (Refused UnexpectedDataValue)
some_or_refused (Some value) = Ok value

-- the cause of a call of this value
unfoldable pub cause_of_value : ℕ → Result ℕ RecordFault
cause_of_value value = some_or_refused (cause_of value)

-- Where a record has a mistake: the number of the field, from 1; the number of the part of an item, from 1, or 0 for the
-- whole field; what is expected there; and the fault of the check that fails.

abbrev pub mistake_at : ℕ → ℕ → Expected → RecordFault → Mistake
mistake_at number part expected fault = record { field = number; part = part; expected = expected; fault = fault }

-- a part of the item in a field: what its check reads, or a mistake there
abbrev pub at_part : {A : Type 0} → ℕ → ℕ → Expected → Result A RecordFault → Result A Mistake
at_part number part expected (Ok value) = Ok value
at_part number part expected (Err fault) = Err (mistake_at number part expected fault)

-- a whole field
abbrev pub at_field : {A : Type 0} → ℕ → Expected → Result A RecordFault → Result A Mistake
at_field number expected reading = at_part number 0 expected reading

-- the text that is expected behind so many; none behind the last
abbrev pub expected_behind : List Expected → ℕ → Expected
expected_behind texts count = unwrap_or (slice_get texts count) Nothing

-- fields that are too few or too many: the first that is missing, or the one behind the last that is expected
abbrev pub field_count : List Expected → ℕ → Mistake
field_count texts count =
    let present = min count (length texts) in
    mistake_at (present + 1) 0 (expected_behind texts present) FieldCount

-- parts of the item in a field that are too few or too many
abbrev pub part_count : ℕ → List Expected → ℕ → Mistake
part_count number texts count =
    let present = min count (length texts) in
    mistake_at number (present + 1) (expected_behind texts present) FieldCount

-- what an item reads as of which these parts are expected
abbrev pub with_parts : {A : Type 0} → List Expected → ℕ → List ℕ → Result A Mistake → Result A Mistake
with_parts texts number item reading =
    let count = length (parts_of item_separator item) in
    if count == length texts then reading else Err (part_count number texts count)

-- what a record reads as of which these fields are expected
abbrev pub with_fields : {A : Type 0} → List Expected → List (List ℕ) → Result A Mistake → Result A Mistake
with_fields texts fields reading =
    if length fields == length texts then reading else Err (field_count texts (length fields))

-- The reading of a record in steps, each of which may end it with a fault of a text, or with a mistake of the record.

-- a reading of so many parts
abbrev pub of_count : {A : Type 0} → ℕ → List (List ℕ) → Result A RecordFault → Result A RecordFault
of_count count texts reading = if not (length texts == count) then Err FieldCount else reading

-- data that may be refused
abbrev pub or_refused : {A : Type 0} → Result A Refusal → Result A RecordFault
or_refused (Ok value) = Ok value
or_refused (Err refusal) = Err (Refused refusal)

-- sources in turn, each taken into what those before it made, up to the first fault
unfoldable pub in_turn : {A S F : Type 0} → (A → S → Result A F) → A → List S → Result A F
in_turn take made [] = Ok made
in_turn take made (source ∷ more) = take made source >>= λ next. in_turn take next more

-- texts with their numbers, from a number on
unfoldable pub numbered : ℕ → List (List ℕ) → List (ℕ × List ℕ)
numbered number [] = []
numbered number (text ∷ more) = (number, text) ∷ numbered (suc number) more

-- what each element of a list stands for
abbrev pub elements_as : {A : Type 0} → (List ℕ → Result A RecordFault) → List ℕ → Result (List A) RecordFault
elements_as value_of text = each_of value_of (elements_of text)

-- the fault of a record whose data are refused: out of memory, or the refusal
abbrev pub record_fault_of : Refusal → RecordFault
record_fault_of refusal.OutOfMemory = OutOfMemory
record_fault_of why = Refused why

-- the fault says that memory was refused
abbrev pub IsMemory : RecordFault → Type 0
IsMemory fault = fault ≡ OutOfMemory

-- so does the mistake
abbrev pub IsMemoryMistake : Mistake → Type 0
IsMemoryMistake mistake = mistake.fault ≡ OutOfMemory
