-- What is joined is an Insert of lists, and the first list that is refused ends the join.
use Rattle.std.proofs.Common.{◌≡◌, ◌∙◌, ◌⊎◌, List, length, Option, Some, None, true, Result, Ok, Err, inl, inr, refl, ap}
use Rattle.std.specs.Option.{option_or}
use Rattle.camel_criteria.specs.declared.refusal.Refusal.{Refusal}
use Rattle.camel_criteria.specs.declared.refusal.Refusal.TheVariants.{OutOfMemory}
use Rattle.camel_rows.specs.Update.{is_insert}
use Rattle.camel_map.specs.Arrival.{IsOfLists, IsReceived, JoinsAs, list_of}
use Rattle.camel_map.specs.declared.arrival.Arrival.{Arrival}
use Rattle.camel_map.specs.declared.join.JoinFault.{JoinFault}
use Rattle.camel_map.specs.declared.join.JoinFault.TheVariants.{Refused}
use Rattle.camel_map.proofs.Joined.Parts.{Came}
use Rattle.camel_map.proofs.Received.Updates.{step}

-- what came stands in place of what came before
stands : {A : Type 0} (x : A) (one other : Option A) → other ≡ Some x → other ≡ option_or other one
stands x one other is = rw is refl

-- the CSI that came last is read as it was
pub later_read : {Item : Type 0} (kept_of : List Item → Result (List Item) Refusal) (earlier later : Option (List Item))
    (one other : Came Item) → list_of kept_of earlier ≡ Ok one → list_of kept_of later ≡ Ok other
    → list_of kept_of (option_or later earlier) ≡ Ok (option_or other one)
later_read kept_of earlier None one other read none = let same : other ≡ None = cc in rw same read
later_read kept_of earlier (Some items) one other read is =
    let made = step (kept_of items) _ other is in let came = made.2 in
    let same : other ≡ Some (record { kept = made.0; count = length items }) = cc in
    is ∙ ap Ok (stands _ one other same)

-- an Insert that is received is of lists
pub received_lists : (arrival : Arrival) → is_insert arrival.update ≡ true → IsReceived arrival → IsOfLists arrival
received_lists arrival insert (inl of_lists) = of_lists
received_lists arrival insert (inr other) = let none = other.0 in absurd cc

-- a list that is refused, or out of memory, ends the join
pub ends : {Item : Type 0} (reading : Result (Came Item) Refusal) (meant : Result Arrival Refusal) (why : Refusal)
    (fault : JoinFault) → fault ≡ Refused why → (why ≡ OutOfMemory) ⊎ (reading ≡ Err why)
    → (reading ≡ Err why → meant ≡ Err why) → JoinsAs (Err fault) meant
ends reading meant why fault is (inl memory) then = inl (is ∙ ap Refused memory)
ends reading meant why fault is (inr refused) then = inr (why, is, then refused)
