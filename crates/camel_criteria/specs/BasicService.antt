-- Basic services (TS 29.002). Which codes are groups, and which their members are, is profile 1's own choice;
-- docs/STANDARD.md compares it with the standard's.
use Rattle.std.specs.Prelude.{ℕ, Bool, false, ◌==◌, ◌&&◌, ◌||◌, nat_le, List, [], ◌∷◌}
use Rattle.std.specs.List.{list_any}
use Rattle.camel_criteria.specs.declared.basic_service.BasicService.{BasicService}
use Rattle.camel_criteria.specs.declared.basic_service.BasicService.TheVariants.{Tele, Bearer}

-- the service is that of emergency calls, teleservice 12 hexadecimal
abbrev pub is_emergency : BasicService → Bool
is_emergency (Tele octet) = octet == 0x12
is_emergency (Bearer octet) = false

-- the code of a group, and the first and the last of a run of its members
pub record Group : Type 0 where
  pub code : ℕ
  pub first : ℕ
  pub last : ℕ

abbrev pub group : ℕ → ℕ → ℕ → Group
group code first last = record { code = code; first = first; last = last }

-- all teleservices; speech; facsimile; all teleservices but short messages
abbrev pub tele_groups : List Group
tele_groups =
    group 0x00 0x00 0xff
    ∷ group 0x10 0x11 0x12
    ∷ group 0x60 0x61 0x63
    ∷ group 0x80 0x00 0x1f
    ∷ group 0x80 0x23 0xff
    ∷ []

-- all bearer services; asynchronous data; synchronous data
abbrev pub bearer_groups : List Group
bearer_groups =
    group 0x00 0x00 0xff
    ∷ group 0x10 0x11 0x17
    ∷ group 0x18 0x19 0x1f
    ∷ []

-- a group of the table with this code has the octet among its members
abbrev pub is_member : List Group → ℕ → ℕ → Bool
is_member groups code octet = list_any (λ row. row.code == code && (nat_le row.first octet && nat_le octet row.last)) groups

abbrev pub covers_octet : List Group → ℕ → ℕ → Bool
covers_octet groups listed octet = listed == octet || is_member groups listed octet

-- a listed code covers the code of a call: of one kind, and equal or a group with the code as a member
abbrev pub covers : BasicService → BasicService → Bool
covers (Tele listed) (Tele octet) = covers_octet tele_groups listed octet
covers (Bearer listed) (Bearer octet) = covers_octet bearer_groups listed octet
covers (Tele listed) (Bearer octet) = false
covers (Bearer listed) (Tele octet) = false
