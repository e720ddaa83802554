-- The history of a store: its chain of updates, and the prefixes of it that receipts stand for.
use mathlib.Core.List.{IsPrefix}
use Rattle.std.specs.Prelude.{ℕ, ◌≡◌, ◌==◌, ◌<◌, true, List, [], ◌∷◌, ◌++◌, length, if◌then◌else◌}
use Rattle.logbook.specs.Pages.{Book, Cell, Named, Step, View, cell, may_make, may_write}
use Rattle.camel_tbcd.specs.declared.profile.Profile.TheVariants.{One}
use Rattle.camel_rows.specs.declared.subscriber.update.Update.{Update}
use Rattle.camel_vlr.specs.declared.history.link.Link.{Link}
use Rattle.camel_vlr.specs.declared.history.terms.Terms.{Terms}
use Rattle.camel_tbcd.specs.declared.profile.Profile.{Profile}
use Rattle.camel_rows.specs.Update.{IsFront}
use Rattle.camel_vlr.specs.declared.history.History.TheInside.{Inside}

-- The updates of a history as a chain of links, each of which uses up the cell that the link before it names. So
-- the chain from a cell on can only grow at its end, by whoever has the right to the cell that its last link names.
-- It is for the proof: no promise cites it.

-- the one word of a book at which all steps are made
abbrev pub head_of : Book → Named
head_of book = record { tracked = true; key = 0; book = book }

-- the cell of a link is at home: no right to write it is left
abbrev pub IsUsedUp : List Cell → Link → Type 0
IsUsedUp cells link = (link.cell < length cells) × ((cell cells link.cell).1 ≡ true)

abbrev pub AllUsedUp : List Cell → List Link → Type 0
AllUsedUp cells [] = Unit {0}
AllUsedUp cells (link ∷ links) = IsUsedUp cells link × AllUsedUp cells links

-- the word of all steps holds 0, and each link's cell is used up
pub record UsedUp (cells : List Cell) (links : List Link) : Type 0 where
  pub others : List Cell
  pub head : cells ≡ (0, true) ∷ others
  pub each : AllUsedUp cells links

-- the updates of the chain that begins at a cell
abbrev pub list_of : ℕ → List Link → List Update
list_of start [] = []
list_of start (link ∷ links) = if link.cell == start then link.updates ++ list_of link.next links else list_of start links

-- the cell that the next link of that chain has to use up
abbrev pub tail_of : ℕ → List Link → ℕ
tail_of start [] = start
tail_of start (link ∷ links) = if link.cell == start then tail_of link.next links else tail_of start links

-- the cell that the last link names
abbrev pub root_of : List Link → ℕ
root_of [] = 0
root_of (link ∷ []) = link.next
root_of (link ∷ second ∷ links) = root_of (second ∷ links)

-- the terms that the last link names
abbrev pub terms_of : List Link → Terms
terms_of [] = record { limit = 0; profile = One }
terms_of (link ∷ []) = link.terms
terms_of (link ∷ second ∷ links) = terms_of (second ∷ links)

-- the step makes a new cell, which no link has used up and the last link names, with the terms that were asked
pub record MakesCell (step : Step Link) (before : View Link ℕ) (found : ℕ) (after : View Link ℕ) : Type 0 where
  pub right : after.1.0.right ≡ may_make
  pub list : list_of after.1.0.key after.0 ≡ []
  pub tail : tail_of after.1.0.key after.0 ≡ after.1.0.key
  pub root : root_of after.0 ≡ after.1.0.key
  pub terms : terms_of after.0 ≡ step.ask.terms

-- the step puts the updates behind the chain whose next cell was the pen's, and the chain goes on at `next`
abbrev pub AddsLink : List Update → ℕ → Step Link → View Link ℕ → ℕ → View Link ℕ → Type 0
AddsLink updates next step before found after =
    (start : ℕ) → tail_of start before.0 ≡ before.1.0.key → (list_of start after.0 ≡ list_of start before.0 ++ updates) × (tail_of start after.0 ≡ next)

-- the step changes nothing: a chain whose next cell is the pen's, and so was when any part of the links was seen, is as it was
-- seen there
pub record KeepsChain (step : Step Link) (before : View Link ℕ) (found : ℕ) (after : View Link ℕ) : Type 0 where
  pub nib : after.1.0 ≡ before.1.0
  pub chain : (seen : List Link) (start : ℕ) → IsPrefix seen before.0 → tail_of start seen ≡ before.1.0.key → list_of start after.0 ≡ list_of start seen

-- Prefixes of the history of a store, and what a receipt of one says.

-- which store it is: the book and the cell at which its history begins; the most updates that it takes, and the profile
-- under which its sessions decide
pub record StoreId : Type 0 where
  pub book : Book
  pub root : ℕ
  pub limit : ℕ
  pub profile : Profile

-- a prefix: the store, and the updates, the first one first
pub record PrefixData : Type 0 where
  pub store : StoreId
  pub updates : List Update

-- the prefix in these links, if the history begins at the cell that the last link of `start` names
abbrev pub prefix_in : Book → List Link → List Link → PrefixData
prefix_in book start links = record {
  store = record { book = book; root = root_of start; limit = (terms_of start).limit; profile = (terms_of start).profile };
  updates = list_of (root_of start) links;
}

-- a receipt is of a front, and has its length
pub record IsReceipt (number : ℕ) (prefix : PrefixData) : Type 0 where
  pub front : IsFront prefix.store.limit prefix.updates
  pub count : number ≡ length prefix.updates

-- What a history keeps.

-- the word of all steps, and the right to the cell that the last link of its chain names
pub record IsHistory (a : Inside) : Type 0 where
  pub head : a.head ≡ head_of a.seen.book
  pub book : a.pen.book ≡ a.seen.book
  pub right : a.pen.nib.right ≡ may_write
  pub tail : tail_of (root_of a.start.log) a.seen.log ≡ a.pen.nib.key
