-- What is read of the room of an address: its octets, with fillers behind them.
use Rattle.std.proofs.Common.{◌≡◌, ℕ, zero, suc, ◌+◌, ◌/◌, ◌%◌, ◌≤◌, List, [], ◌∷◌, ◌++◌, length, take, replicate, refl}
use Rattle.std.proofs.Common.{sym, ap, arith, ◌∙◌, ◌*◌, ◌^◌, ◌-◌, drop, get_or, ◌<◌, All, ap₂, inl, inr}
use Rattle.std.proofs.lemmas.List.{take_all, take-replicate, drop-replicate, length-append, length-drop}
use Rattle.std.proofs.lemmas.List.{length-replicate, drop_more, get_or-take, get_or_append_left, get_or_past}
use Rattle.std.proofs.lemmas.List.{length-take-le, drop-take, take-append-le, take-take}
use Rattle.std.proofs.Math.Nat.{mul-suc, mul_assoc, pow-succ', mod-eq_of_lt, pow-le-pow_right}
use Rattle.std.proofs.Math.Seq.{take-append-add}
use Rattle.std.proofs.lemmas.Nat.{pow-add, le_bytes_8}
use Rattle.std.specs.Int.{from_le_bytes, w64, to_le_bytes}
use Rattle.std.proofs.lemmas.Bool.{cases_lt}
use Rattle.std.proofs.lemmas.List.Elements.{All-append, All-drop, All-get_or, All-replicate, All-take}
use Rattle.std.proofs.lemmas.Nat.Bits.{ones_shl}
use Rattle.camel_tbcd.specs.AddressString.{nibbles, packed, first_nibbles, packed_digits, room_with}
use Rattle.camel_tbcd.proofs.DigitLemmas.{length-nibbles, IsOctet, All-nibbles, IsNibble, packed-mod}
use Rattle.camel_tbcd.proofs.DifferenceLemmas.{pow-16}

-- Octets with fillers behind them, and their nibbles.

-- the nibbles of the first octets are twice as many of the first nibbles
pub nibbles-take : (count twice : ℕ) (octets : List ℕ) → twice ≡ count + count → nibbles (take count octets) ≡ take twice (nibbles octets)
nibbles-take zero twice octets is = let none : twice ≡ 0 = omega arith in rw none refl
nibbles-take (suc count) twice [] is = sym (take_all twice [] (omega arith))
nibbles-take (suc count) twice (octet ∷ octets) is =
    let more : twice ≡ suc (suc (count + count)) = omega arith in
    rw more (ap (λ rest. octet % 16 ∷ octet / 16 ∷ rest) (nibbles-take count (count + count) octets refl))

pub nibbles-append : (octets more : List ℕ) → nibbles (octets ++ more) ≡ nibbles octets ++ nibbles more
nibbles-append [] more = refl
nibbles-append (octet ∷ octets) more = ap (λ rest. octet % 16 ∷ octet / 16 ∷ rest) (nibbles-append octets more)

-- the octets of the fill are two fillers each
pub nibbles-fill : (count twice : ℕ) → twice ≡ count + count → nibbles (replicate count 255) ≡ replicate twice 15
nibbles-fill zero twice is = let none : twice ≡ 0 = omega arith in rw none refl
nibbles-fill (suc count) twice is =
    let more : twice ≡ suc (suc (count + count)) = omega arith in
    rw more (ap (λ rest. 15 ∷ 15 ∷ rest) (nibbles-fill count (count + count) refl))

-- it does not matter how many of the same follow, if there are enough
pub take-fill : (value count : ℕ) (items : List ℕ) (j k : ℕ) → count ≤ length items + j → count ≤ length items + k
    → take count (items ++ replicate j value) ≡ take count (items ++ replicate k value)
take-fill value zero items j k enough more = refl
take-fill value (suc count) (item ∷ items) j k enough more = ap (λ rest. item ∷ rest) (take-fill value count items j k (omega arith) (omega arith))
take-fill value (suc count) [] (suc j) (suc k) enough more = ap (λ rest. value ∷ rest) (take-fill value count [] j k (omega arith) (omega arith))
take-fill value (suc count) [] zero k enough more = absurd (omega arith)
take-fill value (suc count) [] (suc j) zero enough more = absurd (omega arith)

-- The number of nibbles with fillers behind them.

packed-append : (some more : List ℕ) → packed (some ++ more) ≡ packed some + 16 ^ length some * packed more
packed-append [] more = omega arith
packed-append (nibble ∷ some) more =
    let rest = packed-append some more in
    let turned : 16 * (16 ^ length some * packed more) ≡ 16 * 16 ^ length some * packed more = sym (mul_assoc 16 (16 ^ length some) (packed more)) in
    rw (pow-succ') (omega (arith, rest, turned))

packed-fill : (count : ℕ) → packed (replicate count 15) + 1 ≡ 16 ^ count
packed-fill zero = refl
packed-fill (suc count) = rw pow-succ' (omega (arith, packed-fill count))

-- the places that are left are filled
pub filled : (some : List ℕ) (left : ℕ) → length some + left ≡ 16 → packed (take 16 (some ++ replicate 16 15)) + 16 ^ length some ≡ packed some + 2 ^ 64
filled some left all =
    let front : take 16 (some ++ replicate 16 15) ≡ some ++ replicate left 15 =
    ap (λ n. take n (some ++ replicate 16 15)) (sym all)
    ∙ take-append-add some (replicate 16 15) left
    ∙ ap (λ more. some ++ more) (take-replicate left 16 15 (omega arith)) in
    let whole : 16 ^ length some * 16 ^ left ≡ 2 ^ 64 = sym (pow-add 16 (length some) left) ∙ ap (λ n. 16 ^ n) all in
    let ones : packed (replicate left 15) + 1 ≡ suc (packed (replicate left 15)) = omega arith in
    let apart : 16 ^ length some * packed (replicate left 15) + 16 ^ length some ≡ 16 ^ length some * 16 ^ left =
    sym (mul-suc (16 ^ length some) (packed (replicate left 15))) ∙ ap (λ n. 16 ^ length some * n) (sym ones ∙ packed-fill left) in
    rw (front, packed-append some (replicate left 15)) (omega (arith, whole, apart))

-- The number that is read of a room is that of the digits of the address in it.

-- a room is full
pub length-room : (most : ℕ) (octets : List ℕ) → length octets ≤ most → length (room_with most octets) ≡ most
length-room most octets fits =
    let fill : List ℕ = replicate most 255 in
    let all : length fill ≡ most = length-replicate most 255 in
    length-append octets (drop (length octets) fill) ∙ omega (arith, length-drop (length octets) fill)

-- the number that std makes of 8 octets is that of their nibbles
pub from_le_bytes-8 : (room : List ℕ) → length room ≡ 8 → from_le_bytes w64 room ≡ packed (nibbles room)
from_le_bytes-8 (a ∷ b ∷ c ∷ d ∷ e ∷ f ∷ g ∷ h ∷ []) full = omega arith
from_le_bytes-8 room full = absurd (omega arith)

-- the number that std makes of octets 2 to 9 of a room is that of their nibbles
pub from_le_bytes-room : (room : List ℕ) → 9 ≤ length room
    → from_le_bytes w64
    (get_or room 1 0 ∷ get_or room 2 0 ∷ get_or room 3 0 ∷ get_or room 4 0 ∷ get_or room 5 0 ∷ get_or room 6 0 ∷ get_or room 7 0 ∷ get_or room 8 0 ∷ [])
    ≡ packed (nibbles (take 8 (drop 1 room)))
from_le_bytes-room (o ∷ a ∷ b ∷ c ∷ d ∷ e ∷ f ∷ g ∷ h ∷ rest) full = from_le_bytes-8 (a ∷ b ∷ c ∷ d ∷ e ∷ f ∷ g ∷ h ∷ []) refl
from_le_bytes-room room full = absurd (omega arith)

-- the nibbles of octets 2 to 9, with the fill
room_nibbles : (octets : List ℕ) (count : ℕ) → 8 ≤ length octets + count
    → nibbles (take 8 (octets ++ replicate count 255)) ≡ take 16 (nibbles octets ++ replicate 16 15)
room_nibbles octets count enough =
    nibbles-take 8 16 (octets ++ replicate count 255) refl
    ∙ ap (take 16) (nibbles-append octets (replicate count 255) ∙ ap (λ more. nibbles octets ++ more) (nibbles-fill count (count + count) refl))
    ∙ take-fill 15 16 (nibbles octets) (count + count) 16 (omega (arith, length-nibbles octets)) (omega arith)

-- octets 2 to 9 of a room have the number of the digits of its octets
pub packed_digits-room : (most : ℕ) (octets : List ℕ) → 9 ≤ most → 1 ≤ length octets → length octets ≤ most
    → packed (nibbles (take 8 (drop 1 (room_with most octets)))) ≡ packed_digits octets
unfolding first_nibbles
packed_digits-room most [] least some fits = absurd (omega arith)
packed_digits-room most (first ∷ octets) least some fits =
    let count : ℕ = most - length (first ∷ octets) in
    let rest : List ℕ = replicate count 255 in
    let fill : drop (length (first ∷ octets)) (replicate most 255) ≡ rest = drop-replicate (length (first ∷ octets)) most 255 in
    ap packed (ap (λ more. nibbles (take 8 (octets ++ more))) fill ∙ room_nibbles octets count (omega arith))

-- The room of an ISDN-AddressString, by its first octet and the number of its digits.

-- 8 octets, read one by one
pub one_by_one : (octets : List ℕ) → length octets ≡ 8
    → get_or octets 0 0 ∷ get_or octets 1 0 ∷ get_or octets 2 0 ∷ get_or octets 3 0 ∷ get_or octets 4 0
    ∷ get_or octets 5 0 ∷ get_or octets 6 0 ∷ get_or octets 7 0 ∷ [] ≡ octets
one_by_one (a ∷ b ∷ c ∷ d ∷ e ∷ f ∷ g ∷ h ∷ []) full = refl
one_by_one octets full = absurd (omega arith)

octet_at : (octets : List ℕ) → All IsOctet octets → (i : ℕ) → get_or octets i 0 < 256
octet_at octets small i =
    elim (cases_lt i (length octets)) [ inl within ↦ All-get_or IsOctet octets i 0 within small | inr behind ↦ omega (arith, get_or_past octets i 0 behind) ]

octets-room : (most : ℕ) (octets : List ℕ) → All IsOctet octets → All IsOctet (room_with most octets)
octets-room most octets small =
    All-append IsOctet octets (drop (length octets) (replicate most 255)) small
    (All-drop IsOctet (length octets) (replicate most 255) (All-replicate IsOctet most 255 (omega arith)))

-- the first octet, and the octets of the number of the digits behind it
pub filled_room : (room : List ℕ) (len : ℕ) → length room ≡ 9 → 1 ≤ len → len ≤ 9 → All IsOctet room
    → get_or room 0 0 ∷ to_le_bytes w64 (packed_digits (take len room)) ≡ room_with 9 (take len room)
filled_room room len full some fits small =
    let octets : List ℕ = take len room in
    let all : List ℕ = room_with 9 octets in
    let counted : length octets ≡ len = length-take-le len room (omega (arith, full, fits)) in
    let whole : length all ≡ 9 = length-room 9 octets (omega (arith, counted, fits)) in
    let rest : length (drop 1 all) ≡ 8 = length-drop 1 all ∙ omega (arith, whole) in
    let number : packed_digits octets ≡ packed (nibbles (drop 1 all)) =
    sym (packed_digits-room 9 octets (omega arith) (omega (arith, counted, some)) (omega (arith, counted, fits)))
    ∙ ap (λ l. packed (nibbles l)) (take_all 8 (drop 1 all) (omega (arith, rest))) in
    let few : All IsOctet all = octets-room 9 octets (All-take IsOctet len room small) in
    let first : get_or room 0 0 ≡ get_or all 0 0 =
    sym (get_or-take len room 0 0 (omega (arith, some)))
    ∙ sym (get_or_append_left octets (drop (length octets) (replicate 9 255)) 0 0 (omega (arith, counted, some))) in
    let behind : to_le_bytes w64 (packed_digits octets) ≡ drop 1 all =
    le_bytes_8 (drop 1 all) (packed_digits octets) rest (octet_at (drop 1 all) (All-drop IsOctet 1 all few))
    (number ∙ sym (from_le_bytes-8 (drop 1 all) rest)) in
    ap₂ (λ octet octets. octet ∷ octets) first behind ∙ sym (drop_more all 0 0 (omega (arith, whole)))

-- The number of the digits of an address, by the number that is read of the room in which it lies.

-- the number of an address of up to 8 octets, by the number that is read of its room
pub first_filled : (room : List ℕ) (count : ℕ) → count ≤ 7 → 9 ≤ length room → All IsOctet room
    → packed (nibbles (take 8 (drop 1 room))) % 16 ^ (count + count) + (2 ^ 64 - 16 ^ (count + count)) ≡ packed_digits (take (1 + count) room)
unfolding first_nibbles
first_filled room count few full small =
    let twice : ℕ = count + count in
    let rest : List ℕ = drop 1 room in
    let all : List ℕ = nibbles rest in
    let some : List ℕ = take twice all in
    let own : nibbles (drop 1 (take (1 + count) room)) ≡ some = ap nibbles (drop-take 1 count room) ∙ nibbles-take count twice rest refl in
    let long : 16 ≤ length all = omega (arith, length-nibbles rest, length-drop 1 room, full) in
    let counted : length some ≡ twice = length-take-le twice all (omega (arith, long)) in
    let read : packed (nibbles (take 8 rest)) % 16 ^ twice ≡ packed some =
    ap (λ l. packed l % 16 ^ twice) (nibbles-take 8 16 rest refl)
    ∙ packed-mod (take 16 all) twice (All-take IsNibble 16 all (All-nibbles rest (All-drop IsOctet 1 room small)))
    ∙ ap packed (take-take twice 16 all (omega arith)) in
    let fill = filled some (16 - twice) (omega (arith, counted)) in
    let factor : 16 ^ length some ≡ 16 ^ twice = ap (λ n. 16 ^ n) counted in
    let below : 16 ^ twice ≤ 16 ^ 16 = pow-le-pow_right {n = 16} (omega arith) {i = twice} {j = 16} (omega arith) in
    omega (arith, read, fill, factor, below) ∙ ap (λ l. packed (take 16 (l ++ replicate 16 15))) (sym own)

-- of an address of 9 octets or more, the number that is read of its room
pub first_full : (room : List ℕ) (len : ℕ) → 9 ≤ len → len ≤ length room → packed (nibbles (take 8 (drop 1 room))) ≡ packed_digits (take len room)
unfolding first_nibbles
first_full room len many few =
    let left : ℕ = len - 1 in
    let whole : 1 + left ≡ len = omega arith in
    let rest : List ℕ = drop 1 room in
    let own : drop 1 (take len room) ≡ take left rest = ap (λ n. drop 1 (take n room)) (sym whole) ∙ drop-take 1 left room in
    let long : length (nibbles (take left rest)) ≡ left + left =
    length-nibbles (take left rest) ∙ omega (arith, length-take-le left rest (omega (arith, length-drop 1 room, few))) in
    ap packed (
    ap nibbles (sym (take-take 8 left rest (omega arith)))
    ∙ nibbles-take 8 16 (take left rest) refl
    ∙ sym (take-append-le 16 (nibbles (take left rest)) (replicate 16 15) (omega (arith, long)))
    ∙ ap (λ l. take 16 (nibbles l ++ replicate 16 15)) (sym own))

-- what is computed of the number that is read
pub read_filled : (number count : ℕ) → count ≤ 7
    → number % (1 * 2 ^ (8 * count) % 2 ^ 64) + (2 ^ 64 - 1) * 2 ^ (8 * count) % 2 ^ 64 ≡ number % 16 ^ (count + count) + (2 ^ 64 - 16 ^ (count + count))
read_filled number count few =
    let twice : ℕ = count + count in
    let end : 8 * count ≡ 4 * twice = omega arith in
    let power : 2 ^ (8 * count) ≡ 16 ^ twice = ap (λ n. 2 ^ n) end ∙ pow-16 twice in
    let below : 16 ^ twice ≤ 16 ^ 14 = pow-le-pow_right {n = 16} (omega arith) {i = twice} {j = 14} (omega arith) in
    let one : 1 * 2 ^ (8 * count) % 2 ^ 64 ≡ 16 ^ twice =
    ap (λ n. 1 * n % 2 ^ 64) power ∙ ap (λ n. n % 2 ^ 64) (omega arith) ∙ mod-eq_of_lt (omega (arith, below)) in
    let ones : (2 ^ 64 - 1) * 2 ^ (8 * count) % 2 ^ 64 ≡ 2 ^ 64 - 16 ^ twice = ones_shl 64 (8 * count) (omega arith) ∙ ap (λ n. 2 ^ 64 - n) power in
    ap₂ (λ m n. number % m + n) one ones
