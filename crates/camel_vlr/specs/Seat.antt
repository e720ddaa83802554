-- The published copy, the rule of its publication, and the places of sessions at it. It is for the proof.
use Rattle.std.specs.Prelude.{◌≡◌, length, ℕ, List, Some, None, IfSome, IsSomeAnd}
use mathlib.Core.Option.{some}
use lib.ListN.{get_elem?}
use Rattle.camel_rows.specs.Update.{IsFront, records_of, Extends}
use Rattle.camel_vlr.specs.declared.published_copy.PublishedCopy.{PublishedCopy}
use Rattle.camel_vlr.specs.History.{PrefixData}
use Rattle.camel_vlr.specs.declared.history.rule.Known.{Known}

-- The copies that sessions look at.

-- a copy has the data that its front leaves, and the front's length
pub record IsOfItsFront (copy : PublishedCopy) : Type 0 where
  pub front : IsFront copy.front.store.limit copy.front.updates
  pub records : copy.records ≡ records_of copy.front.updates
  pub count : copy.count ≡ length copy.front.updates

-- The publication rule: what the sessions and the writer know, and the copy that is published. It is for the proof: no
-- promise cites it.

-- the two are of one store, and the first is a prefix of the second
abbrev pub IsPrefixOf : PrefixData → PrefixData → Type 0
IsPrefixOf earlier front = (earlier.store ≡ front.store) × Extends front.updates earlier.updates

-- what is known is a prefix of the copy's front
abbrev pub IsBehind : Known → PublishedCopy → Type 0
IsBehind known copy = IfSome known.front (λ front. IsPrefixOf front copy.front)

-- what each of these knows is a prefix of the copy's front
abbrev pub AllBehind : PublishedCopy → List Known → Type 0
AllBehind copy known = (seat : ℕ) (own : Known) → get_elem? known seat ≡ some own → IsBehind own copy

-- The published copy is of its front, and that front extends all that anyone knows of its store.
pub record IsKept (copy : PublishedCopy) (known : List Known) : Type 0 where
  pub is_of_front : IsOfItsFront copy
  pub each : AllBehind copy known

-- a session that knows of no store yet
abbrev pub newcomer : Known
newcomer = record { front = None }

-- whoever takes the copy that is published knew nothing beyond it, and knows its front
pub record Looks (old : Known) (before after : PublishedCopy) (new : Known) : Type 0 where
  pub is_of_front : IsOfItsFront after
  pub behind : IsBehind old after
  pub known : new ≡ record { front = Some after.front }

-- whoever publishes a copy knows its front
abbrev pub Publishes : Known → PublishedCopy → PublishedCopy → Known → Type 0
Publishes old before after new = new ≡ record { front = Some after.front }

-- it is known that a front is published of which this is a prefix
abbrev pub Knows : Known → PrefixData → Type 0
Knows own prefix = IsSomeAnd own.front (IsPrefixOf prefix)

-- What a session's place at its base does.

-- what is known before is known afterwards too
abbrev pub KnowsNoLess : {S : Type 0} → (S → PrefixData → Type 0) → S → S → Type 0
KnowsNoLess knows before after = (prefix : PrefixData) → knows before prefix → knows after prefix

-- the place takes a copy that is of its front, and that front extends all that was known; it is known then too
pub record Enters {S : Type 0} (knows : S → PrefixData → Type 0) (before after : S) (copy : PublishedCopy) : Type 0 where
  pub is_of_front : IsOfItsFront copy
  pub later : (prefix : PrefixData) → knows before prefix → IsPrefixOf prefix copy.front
  pub no_less : KnowsNoLess knows before after
  pub knows_front : knows after copy.front
