-- The entries of a set of criteria, wherever they are kept.
use Rattle.std.specs.Prelude.{List, []}
use Rattle.camel_rows.specs.declared.csi.entries.Entries.{Entries}
use Rattle.camel_rows.specs.declared.csi.entries.Entries.TheVariants.{Empty, One, Apart}

-- the entries in their order
abbrev pub entries_of : {Entry : Type 0} → Entries Entry → List Entry
entries_of Empty = []
entries_of (One entries) = entries
entries_of (Apart entries) = entries.items
