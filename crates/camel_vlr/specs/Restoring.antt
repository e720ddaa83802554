-- What operations have changed of a copy, restored as another one has it, leads back to that one. It is for the proof: no
-- promise cites it.
use Rattle.std.proofs.Common.{◌≡◌, ◌∙◌, ℕ, Bool, true, false, List, [], ◌∷◌, Option, Some, None, All, cond, fold, refl, ap}
use Rattle.std.proofs.lemmas.Bool.{cond_both}
use Rattle.std.proofs.lemmas.List.Elements.{All-cons, All-head, All-nil, All-tail}
use Rattle.std.proofs.lemmas.Map.Lookups.{exact_bytes}
use Rattle.std.proofs.lemmas.Slice.Eq.{bytes_eq-Decides}
use Rattle.std.specs.Cmp.Lexicographic.{nat_list_cmp_total}
use Rattle.std.specs.FinMap as map
use Rattle.std.specs.FinMap.{same_map}
use Rattle.camel_rows.proofs.UpdateLemmas.{get-with_value_of, other_record}
use Rattle.camel_rows.specs.Update.{concerns, with_value, RecordsData, is_of, update_imsi}
use Rattle.camel_rows.specs.declared.subscriber.update.Update.{Update}
use Rattle.camel_vlr.specs.Operation.{CopyData, copy_after, copy_restored, records_restored, updates_among}
use Rattle.camel_vlr.specs.declared.writer.operation.Operation.{Operation}
use Rattle.camel_vlr.specs.declared.writer.operation.Operation.TheVariants as operation

-- the records are the same but for those whom one of the operations concerns
abbrev AlikeBut : List Operation → RecordsData → RecordsData → Type 0
AlikeBut operations m n = (imsi : List ℕ) → All (λ update. is_of imsi update ≡ false) (updates_among operations) → map.get m imsi ≡ map.get n imsi

-- operations change no other records
changed : (copy : CopyData) (operations : List Operation) → AlikeBut operations (fold copy_after copy operations).0 copy.0
changed copy [] imsi others = refl
changed copy (operation.Update update ∷ operations) imsi others =
    changed (copy_after copy (operation.Update update)) operations imsi
    (All-tail (λ one. is_of imsi one ≡ false) update.value (updates_among operations) others)
    ∙ other_record copy.0 update.value imsi (All-head (λ one. is_of imsi one ≡ false) update.value (updates_among operations) others)
changed copy (operation.Front front ∷ operations) imsi others = changed (copy.0, copy.1, front) operations imsi others

-- the record of each subscriber whom an update concerns is restored, and no other one
restored_record : (now : RecordsData) (update : Update) (before : RecordsData) (imsi : List ℕ)
    → map.get (records_restored now update before) imsi ≡ cond (is_of imsi update) (map.get before imsi) (map.get now imsi)
restored_record now update before imsi = of (update_imsi update)
  where
    same : (own : List ℕ) (is_own : Bool) → (is_own ≡ true → own ≡ imsi)
        → cond is_own (map.get before own) (map.get now imsi) ≡ cond is_own (map.get before imsi) (map.get now imsi)
    same own true decides = ap (map.get before) (decides refl)
    same own false decides = refl

    of : (whom : Option (List ℕ)) → map.get (elim whom [ None ↦ before | Some own ↦ with_value now own (map.get before own) ]) imsi
        ≡ cond (concerns whom imsi) (map.get before imsi) (map.get now imsi)
    of None = refl
    of (Some own) =
        get-with_value_of now (Some own) (map.get before own) imsi (λ none. absurd (cc))
        ∙ same own (concerns (Some own) imsi) (λ is. (bytes_eq-Decides own imsi).0 is)

step : (now before : CopyData) (first : Operation) (operations : List Operation) → AlikeBut (first ∷ operations) now.0 before.0
    → AlikeBut operations (copy_restored now first before).0 before.0
step now before (operation.Update update) operations alike imsi others =
    restored_record now.0 update.value before.0 imsi
    ∙ cond_both (is_of imsi update.value) (map.get before.0 imsi) (map.get now.0 imsi) (λ found. found ≡ map.get before.0 imsi) (λ own. refl)
    (λ other. alike imsi (All-cons (λ one. is_of imsi one ≡ false) update.value (updates_among operations) other others))
step now before (operation.Front front) operations alike imsi others = alike imsi others

all_restored : (now before : CopyData) (operations : List Operation) → AlikeBut operations now.0 before.0 → now.1 ≡ before.1 → now.2 ≡ before.2
    → fold (λ copy operation. copy_restored copy operation before) now operations ≡ before
all_restored now before [] alike count front =
    let records : now.0 ≡ before.0 = same_map nat_list_cmp_total exact_bytes _ _ (λ imsi. alike imsi (All-nil (λ update. is_of imsi update ≡ false))) in
    λ k. (records k, count k, front k)
all_restored now before (operation.Update update ∷ operations) alike count front =
    all_restored (copy_restored now (operation.Update update) before) before operations (step now before (operation.Update update) operations alike) refl refl
all_restored now before (operation.Front new ∷ operations) alike count front =
    all_restored (copy_restored now (operation.Front new) before) before operations (step now before (operation.Front new) operations alike) refl refl

-- restoring what operations have changed leads back to the copy before them
pub copy_restores : (before : CopyData) (operations : List Operation)
    → fold (λ now operation. copy_restored now operation before) (fold copy_after before operations) operations ≡ before
copy_restores before [] = refl
copy_restores before (operation.Update update ∷ operations) =
    let now = fold copy_after before (operation.Update update ∷ operations) in
    all_restored (copy_restored now (operation.Update update) before) before operations
    (step now before (operation.Update update) operations (changed before (operation.Update update ∷ operations))) refl refl
copy_restores before (operation.Front front ∷ operations) =
    let now = fold copy_after before (operation.Front front ∷ operations) in
    all_restored (copy_restored now (operation.Front front) before) before operations
    (step now before (operation.Front front) operations (changed before (operation.Front front ∷ operations))) refl refl
