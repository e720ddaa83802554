-- A reading in steps, each of which may end it with a fault, of any kind.
use Rattle.std.specs.Prelude.{◌≡◌, ◌⊎◌, List, [], ◌∷◌, Vec, Result, Ok, Err}

-- a step, and the next one if the first has no fault
infixl 10 ◌>>=◌
abbrev pub ◌>>=◌ : {A B F : Type 0} → Result A F → (A → Result B F) → Result B F
Ok value >>= next = next value
Err fault >>= next = Err fault

-- what each item is, or the fault of the first that has one
unfoldable pub each_of : {A S F : Type 0} → (S → Result A F) → List S → Result (List A) F
each_of value_of [] = Ok []
each_of value_of (item ∷ more) = value_of item >>= λ value. each_of value_of more >>= λ values. Ok (value ∷ values)

-- which faults say that memory was refused
module _ {F : Type 0} (IsMemory : F → Type 0) where
  -- a function fails as its source does, or out of memory
  abbrev pub FailsAs : {A : Type 0} → F → Result A F → Type 0
  FailsAs fault reading = IsMemory fault ⊎ (reading ≡ Err fault)

  -- a function returns what stands for its source, or is out of memory
  abbrev pub ReadsBy : {A B : Type 0} → (A → B) → Result A F → Result B F → Type 0
  ReadsBy view (Ok value) reading = reading ≡ Ok (view value)
  ReadsBy view (Err fault) reading = FailsAs fault reading

  -- a function returns what its source is, or is out of memory
  abbrev pub ReadsAs : {A : Type 0} → Result A F → Result A F → Type 0
  ReadsAs answer reading = ReadsBy (λ value. value) answer reading

  -- a function returns the list that its source is, or is out of memory
  abbrev pub ReadsList : {A G : Type 0} → Result (Vec A G) F → Result (List A) F → Type 0
  ReadsList answer reading = ReadsBy (λ values. values.items) answer reading

  -- a function puts what its source is into its place, or is out of memory
  abbrev pub ReadsInto : {A : Type 0} → Result (Unit {0}) F → A → Result A F → Type 0
  ReadsInto answer value reading = ReadsBy (λ _. value) answer reading

  -- each answer that may come for an item is what the item is, or out of memory
  abbrev pub AnswersAs : {A S : Type 0} → (S → Result A F → Type 0) → (S → Result A F) → Type 0
  AnswersAs may_answer value_of = (item : _) (answer : _) → may_answer item answer → ReadsAs answer (value_of item)
