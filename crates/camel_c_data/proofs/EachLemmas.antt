-- The values of a list that grows by an item.
use Rattle.std.proofs.Common.{◌≡◌, ◌∙◌, List, [], ◌∷◌, ◌++◌, Result, Ok, Err, refl, ap}
use Rattle.camel_reading.specs.Reading.{◌>>=◌, each_of}
use Rattle.camel_c_data.specs.declared.data_fault.DataFault.{DataFault}

-- an item more is a value more
one_more : {A : Type 0} (first : Result A DataFault) (rest : Result (List A) DataFault) (value : A)
    → (first >>= λ it. (rest >>= λ values. Ok (values ++ value ∷ [])) >>= λ values. Ok (it ∷ values))
    ≡ ((first >>= λ it. rest >>= λ values. Ok (it ∷ values)) >>= λ values. Ok (values ++ value ∷ []))
one_more (Ok it) (Ok values) value = refl
one_more (Ok it) (Err fault) value = refl
one_more (Err fault) rest value = refl

pub each_of-more : {A S : Type 0} (value_of : S → Result A DataFault) (items : List S) (item : S) (value : A)
    → value_of item ≡ Ok value
    → each_of value_of (items ++ item ∷ []) ≡ (each_of value_of items >>= λ values. Ok (values ++ value ∷ []))
unfolding each_of
each_of-more value_of [] item value is = rw is refl
each_of-more value_of (first ∷ items) item value is =
    ap (λ rest. value_of first >>= λ it. rest >>= λ values. Ok (it ∷ values)) (each_of-more value_of items item value is)
    ∙ one_more (value_of first) (each_of value_of items) value
