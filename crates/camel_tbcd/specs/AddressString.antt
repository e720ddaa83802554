-- Addresses (TS 29.002): their octets and digits, when two agree, and how they are kept.
use Rattle.std.specs.Prelude.{ℕ, ◌/◌, ◌%◌, ◌==◌, List, [], ◌∷◌, drop, slice_index, ◌≡◌, Bool, true, ◌&&◌, ◌≤◌, length}
use Rattle.std.specs.Prelude.{◌++◌, take, replicate, ◌+◌, ◌-◌, ◌*◌, ◌≢◌, ◌^◌, ◌<◌}
use Rattle.std.specs.List.{before_first}
use Rattle.std.proofs.Common.{arith}
use Rattle.std.proofs.lemmas.List.{length-take-le}
use Rattle.camel_tbcd.specs.declared.profile.Profile.{Profile}
use Rattle.camel_tbcd.specs.declared.profile.Profile.TheVariants.{One, Two}
use Rattle.camel_tbcd.specs.declared.address.AddressFault.{AddressFault}
use Rattle.camel_tbcd.specs.declared.address.AddressFault.TheVariants.{Empty, TooLong}

-- The digits of an address: TBCD-STRING and AddressString of TS 29.002. That nothing after the first filler
-- is looked at is profile 1's own.

-- the nibble of the filler, 1111
abbrev pub filler : ℕ
filler = 15

-- the nibbles of octets, the low one first
abbrev pub nibbles : List ℕ → List ℕ
nibbles [] = []
nibbles (octet ∷ octets) = octet % 16 ∷ octet / 16 ∷ nibbles octets

-- the digits of an address: the nibbles after octet 1, before the first filler, or all if there is none
abbrev pub digits : List ℕ → List ℕ
digits octets = before_first (λ nibble. nibble == filler) (nibbles (drop 1 octets))

-- Octet 1 of an AddressString (TS 29.002): extension, nature of address, numbering plan.

-- the nature of address: bits 765
abbrev pub nature_of : List ℕ → ℕ
nature_of octets = slice_index octets 0 / 16 % 8

-- the numbering plan: bits 4321
abbrev pub plan_of : List ℕ → ℕ
plan_of octets = slice_index octets 0 % 16

-- What of octet 1 a listed number and a destination have to have in common (TS 23.078). Which profile compares the
-- numbering plans, and that bit 8 is never compared, is the product's own.

-- two addresses agree: the natures of address are equal, and under profile 2 the numbering plans are too
pub record Agree (profile : Profile) (first second : List ℕ) : Type 0 where
  pub nature : nature_of first ≡ nature_of second
  pub plan : profile ≡ Two → plan_of first ≡ plan_of second

-- what a profile asks of the numbering plans
abbrev pub plans_agree : Profile → List ℕ → List ℕ → Bool
plans_agree One first second = true
plans_agree Two first second = plan_of first == plan_of second

-- two addresses agree, as a test
abbrev pub agrees : Profile → List ℕ → List ℕ → Bool
agrees profile first second = nature_of first == nature_of second && plans_agree profile first second

-- the bits of octet 1 that a profile compares: 765, and under profile 2 also 4321
abbrev pub compared_bits : Profile → ℕ
compared_bits One = 0x70
compared_bits Two = 0x7f

-- The numbers of the faults of an address.

abbrev pub address_fault_code : AddressFault → ℕ
address_fault_code Empty = 1
address_fault_code TooLong = 2

-- How many octets an address has (TS 29.002).

-- maxAddressLength: the most octets of an AddressString
abbrev pub max_address_length : ℕ
max_address_length = 20

-- maxISDN-AddressLength: the most octets of an ISDN-AddressString
abbrev pub max_isdn_address_length : ℕ
max_isdn_address_length = 9

-- an address of at most so many octets, with octet 1 at least
pub record IsAddress (most : ℕ) (octets : List ℕ) : Type 0 where
  pub some : 1 ≤ length octets
  pub few : length octets ≤ most

-- The room that a short list keeps for its items.

-- the items, and octets of two fillers after them up to the end of the room
abbrev pub room_with : ℕ → List ℕ → List ℕ
room_with most items = items ++ drop (length items) (replicate most 255)

-- room for `most` items keeps the first `len` of them, and fillers after them
pub record IsKept (most : ℕ) (room : List ℕ) (len : ℕ) : Type 0 where
  pub full : length room ≡ most
  pub fits : len ≤ most
  pub fill : room ≡ room_with most (take len room)

pub length-kept : (most : ℕ) (room : List ℕ) (n : ℕ) → length room ≡ most → n ≤ most → length (take n room) ≡ n
length-kept most room n full fits = length-take-le n room (omega arith)

-- How an ISDN-AddressString is kept: 9 octets of room, and two counts in one octet.

-- the most digits that 9 octets hold after octet 1
abbrev pub most_digits : ℕ
most_digits = 16

-- the counts of octets: by how many digits they have fewer than 16, times 10, and how many octets there are
abbrev pub counts_of : List ℕ → ℕ
counts_of octets = 10 * (most_digits - length (digits octets)) + length octets

-- the octets that are kept with such counts
abbrev pub counted_octets : ℕ → List ℕ → List ℕ
counted_octets counts room = take (counts % 10) room

-- a room keeps an address, and the counts are its
pub record IsCounted (room : List ℕ) (counts : ℕ) : Type 0 where
  pub kept : IsKept max_isdn_address_length room (counts % 10)
  pub address : IsAddress max_isdn_address_length (counted_octets counts room)
  pub counted : counts ≡ counts_of (counted_octets counts room)

-- Digits as one number, by which those of two addresses are compared in one step.

-- the number of nibbles in base 16, the first one lowest
abbrev pub packed : List ℕ → ℕ
packed [] = 0
packed (nibble ∷ nibbles) = nibble + 16 * packed nibbles

-- the nibbles of octets 2 to 9 of an address, with fillers for octets that there are not
unfoldable pub first_nibbles : List ℕ → List ℕ
first_nibbles octets = take 16 (nibbles (drop 1 octets) ++ replicate 16 filler)

-- the number of these nibbles
abbrev pub packed_digits : List ℕ → ℕ
packed_digits octets = packed (first_nibbles octets)

-- the nibble at a place of such a number
abbrev pub nibble_at : ℕ → ℕ → ℕ
nibble_at number place = number / 16 ^ place % 16

-- the first filler of 16 nibbles is at this place, which is 16 if there is none
pub record IsFirstFiller (number place : ℕ) : Type 0 where
  pub most : place ≤ 16
  pub before : (earlier : ℕ) → earlier < place → nibble_at number earlier ≢ filler
  pub here : place < 16 → nibble_at number place ≡ filler
