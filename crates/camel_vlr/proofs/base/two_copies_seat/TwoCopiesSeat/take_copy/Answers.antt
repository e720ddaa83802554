use base.Growing.{prefix_refl, prefix_trans}
use Rattle.std.proofs.Common.{◌∙◌, Option, Some, None, IfSome, IsSomeAnd, refl}
use Rattle.two_copies.specs.Reader.{seen_by, shown_in}
use Rattle.camel_vlr.specs.History.{PrefixData}
use Rattle.camel_vlr.specs.Seat.{IsPrefixOf}
use Rattle.camel_vlr.specs.declared.published_copy.PublishedCopy.{PublishedCopy}
use Rattle.camel_vlr.proofs.base.two_copies_seat.TwoCopiesSeat.take_copy.Goals as goal

abbrev KnownBy : Option PublishedCopy → PrefixData → Type 0
KnownBy seen prefix = IfSome seen (λ copy. IsPrefixOf prefix copy.front)

-- what is known by the copy that was seen is known by one that follows it
later : (seen : Option PublishedCopy) (copy : PublishedCopy) → IsSomeAnd seen (λ s. IsPrefixOf s.front copy.front)
    → (prefix : PrefixData) → KnownBy seen prefix → IsPrefixOf prefix copy.front
later None copy follows prefix known = absurd follows
later (Some s) copy follows prefix known =
    (known.0 ∙ follows.0, prefix_trans prefix.updates s.front.updates copy.front.updates known.1 follows.1)

pub returns-in-Ok-clause-yes : goal.returns-in-Ok-clause-yes
returns-in-Ok-clause-yes c _ =
    let copy = shown_in c.in-Ok.look in
    let all : (prefix : PrefixData) → KnownBy (seen_by c.into_reader.result) prefix → IsPrefixOf prefix copy.front =
    later (seen_by c.into_reader.result) copy c.in-Ok.ensures.follows in record {
      is_of_front = c.in-Ok.ensures.holds;
      later = rw (← c.into_reader.ensures) all;
      no_less = rw (← c.into_reader.ensures) all;
      knows_front = (refl, prefix_refl copy.front.updates);
    }
