-- Handles that hold updates, and what they lend.
use Rattle.std.proofs.Common.{◌≡◌, ◌∙◌, ◌<◌, ◌≤◌, ◌+◌, ℕ, true, false, List, [], ◌∷◌, ◌++◌, length, map, get_or, take}
use Rattle.std.proofs.Common.{refl, sym, ap, ap₂, subst, true≢false, add-one, arith}
use Rattle.std.proofs.Math.Seq.{take-suc}
use Rattle.std.proofs.lemmas.List.{map-append, take_all, get_or-map, length-map}
use Rattle.std.specs.Prelude.{Option, Some, None, is_some, Result, Ok, Err, IfErr, ◌≢◌, MatchOption}
use Rattle.std.specs.Result.{IsErrAnd}
use Rattle.std.proofs.lemmas.Option.{same_Some}
use Rattle.camel_rows.specs.declared.subscriber.update.Update.{Update}
use Rattle.camel_c.specs.Updates.{HoldUpdates, update_held}
use Rattle.camel_c.specs.declared.handle.CamelHandle.{CamelHandle}
use Rattle.camel_c.specs.Object.{with_object}
use Rattle.camel_c.specs.declared.object.Object.{Object}
use Rattle.camel_rows.specs.declared.subscriber.update.Update.TheVariants as update

-- Handles of which the first ones hold updates.

pub whole_of : {A : Type 0} (held : Option A) → is_some held ≡ true → (value : A) × (held ≡ Some value)
whole_of (Some value) is = (value, refl)
whole_of None is = absurd (true≢false (sym is))

pub none_of : {A : Type 0} (held : Option A) → is_some held ≡ false → held ≡ None
none_of (Some value) is = absurd (true≢false is)
none_of None is = refl

-- the next one holds an update too
pub hold_more : (handles : List CamelHandle) (at : ℕ) (other : CamelHandle) (held : List Update) (next : Update)
    → at < length handles → HoldUpdates (take at handles) held → update_held (get_or handles at other).value ≡ Some next
    → HoldUpdates (take (at + 1) handles) (held ++ next ∷ [])
hold_more handles at other held next within holds is =
    let held_in : CamelHandle → Option Update = λ handle. update_held handle.value in
    let whole : Update → Option Update = λ held. Some held in
    ap (λ (l : List CamelHandle). map held_in l) (ap (λ (n : ℕ). take n handles) (add-one at) ∙ take-suc handles at other within)
    ∙ map-append held_in (take at handles) (get_or handles at other ∷ [])
    ∙ ap₂ (λ (l more : List (Option Update)). l ++ more) holds (ap (λ (o : Option Update). o ∷ []) is)
    ∙ sym (map-append whole held (next ∷ []))

-- there are no others
pub hold_all : (handles : List CamelHandle) (at : ℕ) (held : List Update)
    → length handles ≤ at → HoldUpdates (take at handles) held → HoldUpdates handles held
hold_all handles at held whole holds =
    subst (λ (l : List CamelHandle). HoldUpdates l held) (take_all at handles whole) holds

-- Handles that each hold an update.

-- there is an update for each handle
pub as_many : (handles : List CamelHandle) (held : List Update) → HoldUpdates handles held → length handles ≡ length held
as_many handles held holds =
    sym (length-map handles (λ (handle : CamelHandle). update_held handle.value))
    ∙ ap (λ (l : List (Option Update)). length l) holds ∙ length-map held (λ (one : Update). Some one)

-- none of them holds no update
pub held_at : (handles : List CamelHandle) (held : List Update) (at : ℕ) (other : CamelHandle)
    → HoldUpdates handles held → at < length handles → update_held (get_or handles at other).value ≡ None → ⊥
held_at handles held at other holds within none =
    let held_in : CamelHandle → Option Update = λ handle. update_held handle.value in
    let whole : Update → Option Update = λ held. Some held in
    let lengths = as_many handles held holds in
    let there : update_held (get_or handles at other).value ≡ Some (get_or held at update.ClearAll) =
    sym (get_or-map held_in handles at other None within) ∙ ap (λ (l : List (Option Update)). get_or l at None) holds
    ∙ get_or-map whole held at update.ClearAll None (omega (arith, within, lengths)) in
    true≢false (ap is_some (sym there ∙ none))

-- an error that is handed on
pub if_err : {A E : Type 0} (result : Result A E) (Is Then : E → Type 0)
    → IsErrAnd result Is → ((why : E) → Is why → Then why) → IfErr result Then
if_err (Ok value) Is Then is next = absurd is
if_err (Err why) Is Then is next = next why is

update_or : Option Update → Update
update_or None = update.ClearAll
update_or (Some held) = held

each_whole : (held : List Update) → map update_or (map (λ (held : Update). Some held) held) ≡ held
unfolding update_or
each_whole [] = refl
each_whole (first ∷ more) = ap (λ (l : List Update). first ∷ l) (each_whole more)

-- the updates that handles hold are the same ones
pub held_once : (handles : List CamelHandle) (one other : List Update)
    → HoldUpdates handles one → HoldUpdates handles other → one ≡ other
held_once handles one other is also =
    sym (each_whole one) ∙ ap (λ (l : List (Option Update)). map update_or l) (sym is ∙ also) ∙ each_whole other

-- What handles lend.

-- a handle whose object was only looked at
pub looked_at : (handle : CamelHandle) (object : Object) → handle.value ≡ Some object → with_object handle object ≡ handle
looked_at handle object holds =
    ap (λ (held : Option Object). record { at = handle.at; is_full = handle.is_full; value = held }) (sym holds)

-- a handle has of a kind what its object has
pub lent : {K : Type 0} (found : Option K) (whole : K → Object) (held : Option Object) (object : Object) → held ≡ Some object
    → MatchOption found ((own : K) → object ≢ whole own) (λ own. object ≡ whole own)
    → MatchOption found ((own : K) × (held ≡ Some (whole own)) → ⊥) (λ own. held ≡ Some (whole own))
lent None whole held object is none = λ holds. none holds.0 (same_Some object (whole holds.0) (sym is ∙ holds.1))
lent (Some own) whole held object is there = is ∙ ap (λ (o : Object). Some o) there
