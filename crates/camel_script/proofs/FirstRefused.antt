-- The item with which a list is first refused.
use Rattle.std.proofs.Common.{◌≡◌, ℕ, true, false, List, [], ◌∷◌, ◌++◌, length, nat_le, ◌∙◌, ◌⊎◌, inl, inr, Bool, cond}
use Rattle.std.proofs.Common.{Some, None, refl, sym, ap}
use Rattle.std.specs.Prelude.{◌&&◌}
use Rattle.std.specs.Str.{bytes_eq}
use Rattle.std.proofs.lemmas.Slice.Eq.{bytes_eq-Decides}
use Rattle.camel_criteria.specs.DetectionPoint.{is_among}
use Rattle.camel_script.specs.Item.{item_dp, refused_item}
use Rattle.camel_script.specs.Fields.{mistake_at, item_part}
use Rattle.camel_script.specs.declared.mistake.Expected.TheVariants.{ItemName, DetectionPoint}
use Rattle.camel_script.specs.declared.mistake.Mistake.{Mistake}
use Rattle.camel_script.specs.declared.text.record_fault.RecordFault.{RecordFault}
use Rattle.camel_criteria.specs.declared.refusal.Refusal.TheVariants.{UnexpectedDataValue}
use Rattle.camel_script.proofs.ReceivedLists.{refusal_at, refusal_with, refused_with}
use Rattle.camel_script.specs.declared.mistake.Expected.{Expected}

-- The item at which a received list is refused, as a loop looks for it.

module _ (fault : RecordFault) (name points dps : List ℕ) (number : ℕ) (item : List ℕ) (more : List (ℕ × List ℕ))
    (total : Mistake) (so_far : refused_item fault name points dps ((number, item) ∷ more) ≡ total) where
  pub passes_by : bytes_eq (item_part item 0) name ≡ false → refused_item fault name points dps more ≡ total
  unfolding refused_item
  passes_by other = rw other at so_far

  module _ (named : bytes_eq (item_part item 0) name ≡ true) where
    pub is_eleventh : nat_le 10 (length dps) ≡ true → mistake_at number 1 ItemName fault ≡ total
    unfolding refused_item
    is_eleventh many = rw (named, many) at so_far

    pub is_second : nat_le 10 (length dps) ≡ false → (is_among points (item_dp item) && is_among dps (item_dp item)) ≡ true
        → mistake_at number 2 DetectionPoint fault ≡ total
    unfolding refused_item
    is_second few repeated = rw (named, few, repeated) at so_far

    pub is_taken : nat_le 10 (length dps) ≡ false → (is_among points (item_dp item) && is_among dps (item_dp item)) ≡ false
        → refused_item fault name points (dps ++ item_dp item ∷ []) more ≡ total
    unfolding refused_item
    is_taken few single = rw (named, few, single) at so_far

-- The item with which a list is first refused, as the definition finds it.

-- an item in turn, behind those of a list that is taken: `dps` are their detection points, and `next` those with it
module _ (fault : RecordFault) (name points dps next : List ℕ) (number : ℕ) (item : List ℕ) (more : List (ℕ × List ℕ)) (total : Mistake) where
  -- the list is refused with the item, and the mistake is there
  abbrev pub Stops : Type 0
  Stops = (item_part item 0 ≡ name) × (refusal_at points next ≡ Some UnexpectedDataValue) × (total.field ≡ number) × (total.fault ≡ fault)

  -- the list is taken with the item, and the mistake is behind it
  abbrev pub GoesOn : Type 0
  GoesOn = (refusal_at points next ≡ None) × (refused_item fault name points next more ≡ total)

  module _ (grown : next ≡ cond (bytes_eq (item_part item 0) name) (dps ++ item_dp item ∷ []) dps) (taken : refusal_at points dps ≡ None)
      (so_far : refused_item fault name points dps ((number, item) ∷ more) ≡ total) where
    with_item : bytes_eq (item_part item 0) name ≡ true → refusal_at points next ≡ refusal_with points dps (item_dp item)
    with_item named = ap (refusal_at points) (rw named at grown) ∙ refused_with points dps (item_dp item) taken

    stops : (place : ℕ) (expected : Expected) → bytes_eq (item_part item 0) name ≡ true → refusal_with points dps (item_dp item) ≡ Some UnexpectedDataValue
        → mistake_at number place expected fault ≡ total → Stops
    stops place expected named refused here = (
      (bytes_eq-Decides (item_part item 0) name).0 named,
      with_item named ∙ refused,
      ap (λ (mistake : Mistake). mistake.field) (sym here),
      ap (λ (mistake : Mistake). mistake.fault) (sym here),
    )

    either : (named many repeated : Bool) → bytes_eq (item_part item 0) name ≡ named → nat_le 10 (length dps) ≡ many
        → (is_among points (item_dp item) && is_among dps (item_dp item)) ≡ repeated → Stops ⊎ GoesOn
    either false many repeated other _ _ =
        let same = rw other at grown in
        inr (ap (refusal_at points) same ∙ taken, rw same (passes_by fault name points dps number item more total so_far other))
    either true true repeated named many _ =
        inl (stops _ _ named (rw many refl) (is_eleventh fault name points dps number item more total so_far named many))
    either true false true named few repeated =
        inl (stops _ _ named (rw (few, repeated) refl) (is_second fault name points dps number item more total so_far named few repeated))
    either true false false named few single =
        let same = rw named at grown in
        inr (with_item named ∙ rw (few, single) refl, rw same (is_taken fault name points dps number item more total so_far named few single))

    pub at_item : Stops ⊎ GoesOn
    at_item = either _ _ _ refl refl refl
