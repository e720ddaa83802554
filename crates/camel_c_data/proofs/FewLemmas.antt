-- A list of as many items as may be sent is read, and a longer one is refused.
use Rattle.std.proofs.Common.{◌≡◌, ◌<◌, ◌≤◌, List, length, Result, Err, inl, inr, ap, arith, cond}
use Rattle.std.proofs.lemmas.Bool.Decides.{leb_tells}
use Rattle.camel_criteria.specs.declared.refusal.Refusal.TheVariants.{UnexpectedDataValue}
use Rattle.camel_rows.specs.TdpRow.{max_tdp_data}
use Rattle.camel_reading.specs.Reading.{FailsAs, each_of}
use Rattle.camel_c_data.specs.Fields.{IsMemory}
use Rattle.camel_c_data.specs.Update.{few_of}
use Rattle.camel_c_data.specs.declared.data_fault.DataFault.{DataFault}
use Rattle.camel_c_data.specs.declared.data_fault.DataFault.TheVariants.{Refused}

module _ {A S : Type 0} (item_in : S → Result A DataFault) (items : List S) where
  pub few : length items ≤ max_tdp_data → few_of item_in items ≡ each_of item_in items
  unfolding few_of
  few le =
      elim (leb_tells (length items) max_tdp_data) [
        | inl within ↦ ap (λ b. cond b (each_of item_in items) (Err (Refused UnexpectedDataValue))) within.0
        | inr above ↦ absurd (omega (arith, above.1, le))
      ]

  many : max_tdp_data < length items → few_of item_in items ≡ Err (Refused UnexpectedDataValue)
  unfolding few_of
  many lt =
      elim (leb_tells (length items) max_tdp_data) [
        | inl within ↦ absurd (omega (arith, within.1, lt))
        | inr above ↦ ap (λ b. cond b (each_of item_in items) (Err (Refused UnexpectedDataValue))) above.0
      ]

  pub refused : (fault : DataFault) → (max_tdp_data < length items) × (fault ≡ Refused UnexpectedDataValue) → FailsAs IsMemory fault (few_of item_in items)
  refused fault why = inr (rw why.1 (many why.0))
