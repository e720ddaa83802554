-- The data of a session from its fields, and what the fields keep.
use Rattle.std.specs.Prelude.{◌≡◌, IfSome, is_some}
use Rattle.camel_rows.specs.Update.{IsFront}
use Rattle.camel_vlr.specs.History.{PrefixData}
use Rattle.camel_vlr.specs.Seat.{IsOfItsFront}
use Rattle.camel_vlr.specs.Store.{ExtendsAll, SessionData}
use Rattle.camel_vlr.specs.declared.base.seat.Seat.{Ghosts}
use Rattle.camel_vlr.specs.declared.published_copy.PublishedCopy.{PublishedCopy}
use Rattle.camel_vlr.specs.declared.session.Session.TheInside.{Inside}

abbrev pub session_of : {S : Type 0} → Ghosts S → Inside S → SessionData
session_of g a = record { store = a.seen.store; seen = a.seen.updates; told = a.told.value; looks = is_some (g.copy_of a.seat) }

-- the copy is of this front, and has its data
pub record IsCopyOf (front : PrefixData) (copy : PublishedCopy) : Type 0 where
  pub is_of_front : IsOfItsFront copy
  pub same : copy.front ≡ front

pub record IsSession {S : Type 0} (g : Ghosts S) (a : Inside S) : Type 0 where
  pub copy : IfSome (g.copy_of a.seat) (IsCopyOf a.seen)
  pub knows : g.knows a.seat a.seen
  pub told : ExtendsAll a.longest.updates a.told.value
  pub store : a.longest.store ≡ a.seen.store
  pub front : IsFront a.seen.store.limit a.seen.updates
  pub profile : a.profile ≡ a.seen.store.profile
