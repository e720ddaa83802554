-- The drop of an object, as what takes the box of an object apart asks for it.
use Rattle.std.proofs.Common.{[], ◌∷◌, refl}
use seplogic.Ra.Ura.{Ura}
use mir.Raw.{raw}
use mir.Syntax.{Callee, Dict, impl, tnil, dnil, method}
use base.Fml.{Fml}
use prog.Model.{Model}
use prog.Wired.{Wired}
use types.Logic.{Logic}
use contract.Lifetimes.{Lfts}
use contract.Running.{Running}
use denote.Exit.{no}
use denote.Param.{arg, layout, layouts}
use denote.Param.Laws.{Laws, arg_laws}
use denote.RattleType.{RattleType}
use denote.Param.Glue as glue
use denote.Triple.Carry.{AllWithin}
use denote.Triple.Clauses.{Ended, Lasts, lasts, at_exit}
use denote.Triple.Walked.{Fit}
use borrow.Fn.Glue.{glue_ps, glue_by}
use borrow.Fn.Impl.{via_longer, method_Known}
use borrow.Fn.Kinds.{Dens, ended_of, stays, res_t, r_unit}
use borrow.Fn.Run.{Over}
use borrow.Fn.World.{World}
use Rattle.camel_c.proofs.camel_c++object++Object+Destruct.drop.Kinds as kinds
use Rattle.camel_c.proofs.camel_c++object++Object+Destruct.drop.Met as drop
use Rattle.camel_c.proofs.camel_c++object++Object+Destruct.drop.Reads as reads
use Rattle.camel_c.proofs.camel_c++object++Object+Destruct.drop.Symbol as symbol
use Rattle.camel_c.specs.contracts.object.Object.{the_row as R}
use Rattle.camel_c.proofs.object.Object.TheLaws.{the_row_laws as LR}

-- an object as what it is passed to a call as
abbrev pub X : RattleType
X = arg (raw (layout R)) no R

abbrev pub LX : Laws X
LX = arg_laws (raw (layout R)) no R LR refl

abbrev pub object_drop : Dict
object_drop = impl ("camel_c::camel_c++object++Object+Destruct::drop" ∷ []) tnil dnil

abbrev key : Callee
key = method object_drop 0 (layouts [] tt)

abbrev ended : Ended
ended = ended_of 0 kinds.ps kinds.r

abbrev Left : (κs : Lfts 1) → Dens κs (glue_ps X LX) → Type 0
Left κs a = Lasts ended tt a

abbrev left : (κs : Lfts 1) (a : Dens κs (glue_ps X LX)) → Left κs a → Fml
left κs a = lasts ended tt a

abbrev Says : (κs : Lfts 1) (a : Dens κs (glue_ps X LX)) → (res_t {n = 1} r_unit κs).Denot → Left κs a → Type 0
Says κs a x ws = Fit ended (stays kinds.ps) tt a ws × reads.Learnt tt a x (at_exit ended tt a ws)

abbrev Within : (κs : Lfts 1) → Dens κs (glue_ps X LX) → Type 0
Within κs a = AllWithin 1 (κs.0, tt) (X.lives, tt) × Unit {0}

pub drops : {M : Type 1} (𝓤 : Ura M) (𝓛 : Logic 𝓤) (𝓜 : Model 𝓤 𝓛.H) (𝓡 : Running 𝓤 𝓛.H 𝓜) → Wired 𝓡.env symbol.code → glue.Met 𝓛 𝓜 𝓡 𝓡.env X object_drop
drops {M} 𝓤 𝓛 𝓜 𝓡 w =
    let W : World = record { M = M; 𝓤 = 𝓤; 𝓛 = 𝓛; 𝓜 = 𝓜; 𝓡 = 𝓡 } in
    glue_by X LX W object_drop 𝓡.env Left left Says Within 0 tt (λ κs a h. ((h, tt), tt))
    (via_longer 𝓛 (Over 𝓛 𝓜 𝓡 𝓡.env) 1 (glue_ps X LX) r_unit Left left Says Within key 0 tt (λ κs. tt) (λ κs a. reads.Asked tt a) (λ κs a p. (tt, tt))
    (λ κs bd within a vss qs.
    method_Known 0 kinds.ps kinds.r reads.requires reads.ensures reads.Asked reads.Learnt reads.known W symbol.name key
    (symbol.as_method 𝓡.env w key refl) (drop.met 𝓤 𝓛 𝓜 𝓡 w) ((tt, qs, tt, a, vss), tt)))
