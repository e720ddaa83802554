-- What clauses see of an address that is borrowed, and of its digits.
use Rattle.std.specs.Prelude.{ℕ, List}
use Rattle.camel_tbcd.specs.declared.address.Address.{Address}
use Rattle.camel_tbcd.specs.AddressString.{digits}
use Rattle.camel_tbcd.specs.declared.digits.Digits.{Digits}

-- What clauses see of an address that is borrowed.

-- the octets that it lends
abbrev pub octets : Address → List ℕ
octets address = address.digits.bytes.now

-- What clauses see of the digits of an address.

-- the digits that are lent
abbrev pub digit_list : Digits → List ℕ
digit_list lent = digits lent.bytes.now
