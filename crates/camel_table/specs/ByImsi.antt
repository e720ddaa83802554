-- Finite maps from IMSIs, each the list of its digits.
use Rattle.std.specs.Prelude.{◌≡◌, ℕ, ◌+◌, ◌≤◌, Bool, List, count_by, map, if◌then◌else◌}
use Rattle.std.specs.Cmp.Lexicographic.{slice_cmp}
use Rattle.std.specs.FinMap.{FinMap, from_entries, get}
use Rattle.std.specs.Option.{is_some}
use Rattle.std.specs.Ordering.{eq_by_cmp, nat_cmp}

abbrev pub ByImsi : Type 0 → Type 0
ByImsi V = FinMap (slice_cmp nat_cmp) V

-- the map of a list of entries, of which the first of an IMSI counts
abbrev pub map_of : {V : Type 0} → List (List ℕ × V) → ByImsi V
map_of entries = from_entries entries

-- whether two IMSIs are the same
abbrev pub is_same : List ℕ → List ℕ → Bool
is_same imsi other = eq_by_cmp (slice_cmp nat_cmp) imsi other

-- the IMSIs of entries, in their order
abbrev pub keys_of : {V : Type 0} → List (List ℕ × V) → List (List ℕ)
keys_of entries = map (λ entry. entry.0) entries

-- no IMSI has two entries
abbrev pub HasEachOnce : {V : Type 0} → List (List ℕ × V) → Type 0
HasEachOnce entries = (imsi : List ℕ) → count_by (λ entry. is_same imsi entry.0) entries ≤ 1

-- how often a list has an IMSI
abbrev pub times_listed : List ℕ → List (List ℕ) → ℕ
times_listed imsi imsis = count_by (λ listed. is_same imsi listed) imsis

-- how many values a map has of an IMSI, one or none
abbrev pub times_stored : {V : Type 0} → List ℕ → ByImsi V → ℕ
times_stored imsi m = if is_some (get m imsi) then 1 else 0

-- a list has each IMSI of which the map has a value once, and no others
abbrev pub ListsEachOnce : {V : Type 0} → List (List ℕ) → ByImsi V → Type 0
ListsEachOnce imsis m = (imsi : List ℕ) → times_listed imsi imsis ≡ times_stored imsi m

-- a longer list has each IMSI of which the map has a value once more, and the others as often as before
abbrev pub ListsEachOnceMore : {V : Type 0} → List (List ℕ) → List (List ℕ) → ByImsi V → Type 0
ListsEachOnceMore before imsis m = (imsi : List ℕ) → times_listed imsi imsis ≡ times_listed imsi before + times_stored imsi m
