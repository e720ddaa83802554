-- A session's place at a store over `two_copies`. It is for the proof: no promise cites it.
use Rattle.std.specs.Prelude.{Option, Some, None, IfSome}
use Rattle.two_copies.specs.Reader.{seen_by, shown_in}
use Rattle.camel_vlr.specs.History.{PrefixData}
use Rattle.camel_vlr.specs.Seat.{IsPrefixOf}
use Rattle.camel_vlr.specs.declared.base.two_copies_seat.TwoCopiesSeat.{TwoCopiesSeat}
use Rattle.camel_vlr.specs.declared.base.two_copies_seat.TwoCopiesSeat.TheVariants.{Idle, Looking}
use Rattle.camel_vlr.specs.declared.published_copy.PublishedCopy.{PublishedCopy}

-- the copy that the place saw last, or none after the end
abbrev pub seen_at : TwoCopiesSeat → Option PublishedCopy
seen_at (Idle reader) = seen_by reader
seen_at (Looking look) = Some (shown_in look)

-- the copy of a look
abbrev pub copy_of : TwoCopiesSeat → Option PublishedCopy
copy_of (Idle reader) = None
copy_of (Looking look) = Some (shown_in look)

-- it is known that a front is published of which this is a prefix; after the end there is no look that would show less
abbrev pub Knows : TwoCopiesSeat → PrefixData → Type 0
Knows seat prefix = IfSome (seen_at seat) (λ copy. IsPrefixOf prefix copy.front)
