use Rattle.std.proofs.Common.{◌≡◌, ◌∙◌, ◌≤◌, ◌+◌, ◌-◌, ◌%◌, ◌^◌, ℕ, ap, arith, take}
use Rattle.camel_tbcd.specs.AddressString.{packed_digits}
use Rattle.camel_tbcd.proofs.RoomLemmas.{first_filled, first_full, read_filled}
use Rattle.camel_tbcd.proofs.digits.first_number.Goals as goal

pub returns-then-len : goal.returns-then-len
returns-then-len c =
    c.room_number-number.ensures ∙ first_full c.args.room.now c.args.len (omega (arith, c.if-len.true)) (omega (arith, c.requires.len))

pub returns : goal.returns
returns c =
    let count : ℕ = c.args.len - 1 in
    let room = c.args.room.now in
    let whole : 1 + count ≡ c.args.len = omega (arith, c.requires.len) in
    let few : count ≤ 7 = omega (arith, c.if-len.false) in
    read_filled c.room_number-number.result count few
    ∙ ap (λ n. n % 16 ^ (count + count) + (2 ^ 64 - 16 ^ (count + count))) c.room_number-number.ensures
    ∙ first_filled room count few c.requires.room c.requires.octets
    ∙ ap (λ n. packed_digits (take n room)) whole
