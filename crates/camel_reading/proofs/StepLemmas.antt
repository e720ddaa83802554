-- A reading in steps that ends well, or with a fault.
use Rattle.std.proofs.Common.{◌≡◌, ◌⊎◌, inl, inr, Result, Ok, Err, refl, sym}
use Rattle.camel_reading.specs.Reading.{◌>>=◌, ReadsAs}

pub step_ok : {A B F : Type 0} (reading : Result A F) (next : A → Result B F) (read : B) → (reading >>= next) ≡ Ok read
    → (value : A) × (reading ≡ Ok value) × (next value ≡ Ok read)
step_ok (Ok value) next read e = (value, refl, e)
step_ok (Err fault) next read e = absurd (cc)

pub step_err : {A B F : Type 0} (reading : Result A F) (next : A → Result B F) (fault : F)
    → (reading >>= next) ≡ Err fault
    → (reading ≡ Err fault) ⊎ ((value : A) × (reading ≡ Ok value) × (next value ≡ Err fault))
step_err (Ok value) next fault e = inr (value, refl, e)
step_err (Err other) next fault e = inl (cc)

-- a function that returns just what its source is
pub reads_exactly : {A F : Type 0} (IsMemory : F → Type 0) (answer reading : Result A F) → answer ≡ reading
    → ReadsAs IsMemory answer reading
reads_exactly IsMemory (Ok value) reading is = sym is
reads_exactly IsMemory (Err fault) reading is = inr (sym is)
