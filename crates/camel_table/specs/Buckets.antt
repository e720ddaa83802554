-- The buckets of a table: which of them a hash chooses, how they are kept, and their map.
use Rattle.std.specs.Prelude.{ℕ, ◌+◌, ◌%◌, ◌^◌, ◌==◌, nat_lt, Bool, List, if◌then◌else◌, ◌≡◌, ◌⊎◌, ◌≤◌, IsSome, length}
use Rattle.std.specs.Prelude.{slice_index_or, ◌<◌, [], ◌∷◌, ◌++◌}
use Rattle.std.specs.List.{fold, flat_map}
use Rattle.std.specs.FinMap.{empty, entries, get, len}
use Rattle.std.specs.Global.{Vec}
use Rattle.camel_tbcd.specs.Imsi.{imsi_number}
use Rattle.camel_table.specs.declared.addressing.Addressing.{Addressing}
use Rattle.camel_table.specs.ByImsi.{ByImsi, map_of}
use Rattle.std.specs.Hash as input

-- Which of the buckets of a table a hash chooses, while the buckets grow in number one by one.

-- the bucket of a hash among so many, of which there were 2 ^ level when the present round of divisions began: that of
-- the next round, if there is such a bucket already, and else that of the round before
abbrev pub bucket_in : ℕ → ℕ → ℕ → ℕ
bucket_in level count hash = if nat_lt (hash % 2 ^ (1 + level)) count then hash % 2 ^ (1 + level) else hash % 2 ^ level

-- the hash of a number, by a hasher that begins so
abbrev pub hash_of : {H : Type 0} → (H → ℕ) → (H → List ℕ → H) → H → ℕ → ℕ
hash_of finish write initial number = finish (fold write initial (input.u64 number))

-- the bucket of an IMSI, by the hash of its number
abbrev pub place_of : (ℕ → ℕ) → ℕ → ℕ → List ℕ → ℕ
place_of hash level count imsi = bucket_in level count (hash (imsi_number imsi))

-- whether an IMSI has this bucket by an addressing, whose hashers begin and end so
abbrev pub is_at : {S H : Type 0} → (H → ℕ) → (H → List ℕ → H) → (S → H) → Addressing S → ℕ → List ℕ → Bool
is_at finish write build_hasher addressing at imsi =
    place_of (hash_of finish write (build_hasher addressing.hashes)) addressing.level addressing.count imsi == at

-- The map of the buckets of a table.

module _ {V : Type 0} where
  -- the map of the entries of all buckets
  abbrev pub table_map : List (ByImsi V) → ByImsi V
  table_map buckets = map_of (flat_map entries buckets)

  -- each IMSI is in the bucket of its place
  abbrev pub ArePlaced : (List ℕ → ℕ) → List (ByImsi V) → Type 0
  ArePlaced place buckets = (at : ℕ) (imsi : List ℕ) → IsSome (get (slice_index_or buckets at empty) imsi) → place imsi ≡ at

-- A table is whole: it has no buckets yet, or as many as the round of divisions that began with 2 ^ level has made, and
-- perhaps spare ones; each IMSI is in the bucket of its place; and the values are counted.
pub record IsTable {V : Type 0} (hash : ℕ → ℕ) (level count values : ℕ) (buckets : List (ByImsi V)) : Type 0 where
  pub low : level ≤ 32
  pub round : ((count ≡ 0) × (length buckets ≡ 0)) ⊎ ((2 ^ level ≤ count) × ((count ≤ 2 ^ (1 + level)) × (count ≤ length buckets)))
  pub few : length buckets ≤ 2 ^ 32
  pub placed : ArePlaced (place_of hash level count) buckets
  pub counted : values ≡ len (table_map buckets)

-- A list in segments, of which all but the last are full.

-- how many items a segment has room for
abbrev pub segment : ℕ
segment = 128

module _ {A : Type 0} where
  -- the items of all segments
  abbrev pub joined : List (Vec A) → List A
  joined [] = []
  joined (first ∷ rest) = first.items ++ joined rest

  -- each segment before the last is full, and the last has no more
  abbrev pub AreFull : List (Vec A) → Type 0
  AreFull [] = Unit {0}
  AreFull (last ∷ []) = length last.items ≤ segment
  AreFull (first ∷ next ∷ rest) = (length first.items ≡ segment) × AreFull (next ∷ rest)

  -- the last segment has room for an item more
  abbrev pub HasRoom : List (Vec A) → Type 0
  HasRoom [] = ⊥
  HasRoom (last ∷ []) = length last.items < segment
  HasRoom (first ∷ next ∷ rest) = HasRoom (next ∷ rest)

-- The tags of entries.

-- the tag of an IMSI: the lowest octet of its number
abbrev pub tag_of : List ℕ → ℕ
tag_of imsi = imsi_number imsi % 256

-- each key that has a tag has its own
abbrev pub AreTagged : List ℕ → List (List ℕ) → Type 0
AreTagged tags keys = (at : ℕ) → at < length tags → at < length keys → slice_index_or tags at 0 ≡ tag_of (slice_index_or keys at [])
