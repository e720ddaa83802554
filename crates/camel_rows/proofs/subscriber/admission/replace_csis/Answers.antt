use Rattle.std.proofs.Common.{◌≡◌, ◌∙◌, Bool, true, false, Some, not, refl, sym, ap, ap₂}
use Rattle.camel_rows.proofs.UpdateLemmas.{insert_same}
use Rattle.camel_rows.specs.declared.subscriber.csis_present.CsisPresent.{CsisPresent}
use mathlib.Core.Bool.{beq}
use Rattle.camel_rows.proofs.subscriber.admission.replace_csis.Goals as goal

same_bool : (a b : Bool) → not (beq a b) ≡ false → a ≡ b
same_bool true true is = refl
same_bool false false is = refl
same_bool true false is = absurd (cc)
same_bool false true is = absurd (cc)

abbrev together : Bool → Bool → CsisPresent
together o vt = record { o = o; vt = vt }

pub returns-else-before-after-2 : goal.returns-else-before-after-2
returns-else-before-after-2 c =
    let same = ap₂ together (same_bool _ _ c.if-before-after.false) (same_bool _ _ c.if-before-after-2.false) in
    sym (insert_same c.args.directory.now c.args.imsi.now c.args.after (c.requires ∙ ap Some same))
