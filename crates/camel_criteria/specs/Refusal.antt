-- The numbers of the refusals: those of TS 29.002's user errors, and from 101 on the product's own.
use Rattle.std.specs.Prelude.{◌≡◌, ◌⊎◌, ℕ, Result, Ok, Err}
use Rattle.camel_criteria.specs.declared.refusal.Refusal.{Refusal}
use Rattle.camel_criteria.specs.declared.refusal.Refusal.TheVariants.{UnidentifiedSubscriber, DataMissing, UnexpectedDataValue, HistoryFull, OutOfMemory}
use Rattle.camel_criteria.specs.declared.refusal.Refusal.TheVariants.{NoPlace, NoGuard}

abbrev pub refusal_code : Refusal → ℕ
refusal_code UnidentifiedSubscriber = 5
refusal_code DataMissing = 35
refusal_code UnexpectedDataValue = 36
refusal_code HistoryFull = 101
refusal_code OutOfMemory = 102
refusal_code NoPlace = 103
refusal_code NoGuard = 104

-- a constructor that takes memory returns what the data make, or their refusal, or `OutOfMemory` (102)
abbrev pub MakesOf : {A : Type 0} → Result A Refusal → Result A Refusal → Type 0
MakesOf (Ok made) wanted = wanted ≡ Ok made
MakesOf (Err why) wanted = (why ≡ OutOfMemory) ⊎ (wanted ≡ Err why)
