-- What lists and maps that lend one of their values have once it is given back.
use Rattle.std.specs.Prelude.{ℕ, List, [], ◌∷◌, slice_set, if◌then◌else◌}
use Rattle.std.specs.Borrow.{Fml, RattleType, MutBor, Lends}
use Rattle.std.specs.FinMap as map
use Rattle.camel_table.specs.ByImsi.{ByImsi, is_same}
use Rattle.camel_table.specs.contracts.segments.Segments.{the_row}
use Rattle.camel_table.specs.contracts.entry.Entry as entry
use Rattle.camel_table.specs.contracts.bucket.Bucket as bucket

-- the list has what is written into the lent item in that item's place, and its other items as before
abbrev pub lends_item : (T : RattleType) → MutBor (List T.Denot) → ℕ → MutBor T.Denot → Fml
lends_item T list at item = Lends (the_row T) T list item (slice_set list.now at)

-- the entry has what is written into the lent value as its value
abbrev pub lends_entry : (V : RattleType) → MutBor (List ℕ × V.Denot) → MutBor V.Denot → Fml
lends_entry V its value = Lends (entry.the_row V) V its value (λ new. (its.now.0, new))

-- entries with another value in the first one of an IMSI
abbrev pub with_value_of : {V : Type 0} → List ℕ → V → List (List ℕ × V) → List (List ℕ × V)
with_value_of imsi value [] = []
with_value_of imsi value (entry ∷ entries) = if is_same imsi entry.0 then (entry.0, value) ∷ entries else entry ∷ with_value_of imsi value entries

-- the map has what is written into the lent value as that of the IMSI
abbrev pub lends_value : (V : RattleType) → MutBor (ByImsi V.Denot) → List ℕ → MutBor V.Denot → Fml
lends_value V m imsi value = Lends (bucket.the_row V) V m value (map.insert m.now imsi)
