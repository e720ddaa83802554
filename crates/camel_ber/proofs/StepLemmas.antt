-- Steps and tests that came to a value.
use Rattle.std.proofs.Common.{◌≡◌, ◌⊎◌, Bool, cond, Err, false, inl, inr, Ok, refl, Result, true}
use Rattle.camel_ber.specs.declared.fault.Fault.{Fault}
use Rattle.camel_ber.specs.Elements.{◌>>=◌}

-- a result with no fault
abbrev pub done : {A : Type 0} → A → Result A Fault
done value = Ok value

-- the value of a result is one
pub same_value : {A : Type 0} (x y : A) → done x ≡ done y → x ≡ y
same_value x y e = cc

-- the value of a step behind which another came to a value
pub first_done : {A B : Type 0} (step : Result A Fault) (next : A → Result B Fault) (value : B)
    → (step >>= next) ≡ Ok value
    → (x : A) × (step ≡ Ok x) × (next x ≡ Ok value)
first_done (Ok x) next value e = (x, refl, e)
first_done (Err fault) next value e = absurd cc

-- which way a test went
pub chosen : {A : Type 0} (test : Bool) (x y z : A) → cond test x y ≡ z
    → ((test ≡ true) × (x ≡ z)) ⊎ ((test ≡ false) × (y ≡ z))
chosen true x y z e = inl (refl, e)
chosen false x y z e = inr (refl, e)

-- a test that would have failed if true
pub passed : {A : Type 0} (test : Bool) (fault : Fault) (x : Result A Fault) (value : A)
    → cond test (Err fault) x ≡ Ok value
    → (test ≡ false) × (x ≡ Ok value)
passed true fault x value e = absurd cc
passed false fault x value e = (refl, e)

-- a test that would have failed if false
pub held : {A : Type 0} (test : Bool) (fault : Fault) (x : Result A Fault) (value : A)
    → cond test x (Err fault) ≡ Ok value
    → (test ≡ true) × (x ≡ Ok value)
held true fault x value e = (refl, e)
held false fault x value e = absurd cc
