-- Two copies that are alike once what was dropped is restored, what the one lacks is applied, and what is pending, is.
use Rattle.std.proofs.Common.{◌≡◌, ℕ, [], take, sym, ap, ◌∙◌}
use mathlib.Core.Logic.{∥∥₁_elim}
use base.Stored.{Coded, Coded-set}
use Rattle.std.proofs.Math.Seq.{take-length}
use Rattle.std.specs.Prelude.{fold}
use Rattle.two_copies.specs.Log.{IsAlike, IsBroughtUp, done_in}
use Rattle.two_copies.specs.Restoring.{restored_from}
use Rattle.two_copies.specs.declared.log.Log.{Log}

module _ {S O : Type 0} (applied : S → O → S) (restored : S → O → S → S) where
  -- the fact in the writer's ghost field, out of its truncation
  pub are_alike : Coded S → (spare shown : S) (log : Log O) → ∥ IsAlike applied restored spare shown log ∥₁ → IsAlike applied restored spare shown log
  are_alike code spare shown log h = ∥∥₁_elim h (Coded-set code _ _) (λ x. x)

  -- a copy that is brought up has all that is pending
  pub spare_is_next : Coded S → (spare shown : S) (log : Log O) → IsBroughtUp log → ∥ IsAlike applied restored spare shown log ∥₁
      → spare ≡ fold applied shown log.pending.items
  spare_is_next code spare shown log up alike =
      ap (λ last. fold applied (restored_from restored shown spare []) last) (sym up.last)
      ∙ ap (λ dropped. fold applied (restored_from restored shown spare dropped) log.last.items) (sym up.dropped)
      ∙ are_alike code spare shown log alike
      ∙ ap (λ (done : ℕ). fold applied shown (take done log.pending.items)) up.done
      ∙ ap (fold applied shown) (take-length log.pending.items)

  -- what is pushed changes nothing of what the copies have
  pub alike-pushed : (spare shown : S) (log next : Log O) → next.dropped ≡ log.dropped → next.last ≡ log.last → done_in next ≡ done_in log
      → IsAlike applied restored spare shown log → IsAlike applied restored spare shown next
  alike-pushed spare shown log next dropped last done alike = rw (dropped, last, done) alike

  -- the copies change their parts
  pub alike-turned : (spare shown : S) (log next : Log O) → next.dropped.items ≡ [] → next.last.items ≡ log.pending.items → done_in next ≡ []
      → spare ≡ fold applied shown log.pending.items → IsAlike applied restored shown spare next
  alike-turned spare shown log next dropped last done is = rw (dropped, last, done) (sym is)
