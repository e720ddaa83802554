-- The code of the calls that take the box of an object apart and make it again meets their contracts.
use Rattle.std.proofs.Common.{[], ◌∷◌}
use seplogic.Ra.Ura.{Ura}
use mir.Syntax.{a_type, dcons, dnil}
use prog.Model.{Model}
use prog.Wired.{Code, Wired}
use types.Logic.{Logic}
use contract.Running.{Running, tables}
use denote.Param.{bounded}
use denote.Param.NoDrop as nothing_to_drop
use denote.Triple.Statement.{Triple}
use Rattle.std.specs.contracts.impls.GlobalAllocator.TheImpl.{ghosts, dict}
use Rattle.std_alloc.proofs.boxed.Box.from_raw.Met as from_raw_met
use Rattle.std_alloc.proofs.boxed.Box.into_raw.Met as into_raw_met
use Rattle.std_alloc.proofs.boxed.Box.from_raw.Symbol as from_raw_symbol
use Rattle.std_alloc.proofs.boxed.Box.into_raw.Symbol as into_raw_symbol
use Rattle.std.proofs.impls.GlobalAllocator.TheImpl.Met as heap_met
use Rattle.std.proofs.impls.GlobalAllocator.allocate.Symbol as allocate
use Rattle.std.proofs.impls.GlobalAllocator.deallocate.Symbol as deallocate
use Rattle.std.proofs.impls.GlobalAllocator.grow.Symbol as grow
use Rattle.std.proofs.impls.GlobalAllocator.shrink.Symbol as shrink
use Rattle.camel_c.proofs.Destruct++none.drop.Symbol as no_drop
use Rattle.camel_c.proofs.camel_c++object++Object+Destruct.drop.Symbol as of_object
use Rattle.camel_c.proofs.ObjectDrop.{X, LX, object_drop, drops}
use Rattle.camel_c.proofs.BoxLemmas.{A, LA, heap_drop, Apart, Again}

module _ {M : Type 1} (𝓤 : Ura M) (𝓛 : Logic 𝓤) (𝓜 : Model 𝓤 𝓛.H) (𝓡 : Running 𝓤 𝓛.H 𝓜) where
  abbrev Has : Code → Type 0
  Has code = Wired 𝓡.env code

  pub is_apart : Has into_raw_symbol.code → Has allocate.code → Has deallocate.code → Has grow.code → Has shrink.code → Has no_drop.code → Has of_object.code
      → Triple 𝓤 ((tables 𝓤 𝓛.H 𝓜 𝓡 𝓡.env).C (into_raw_symbol.name (bounded (a_type ∷ a_type ∷ []) (X, (A, tt))
      (dcons dict (dcons heap_drop (dcons object_drop dnil)))))) (Apart 𝓛 𝓜.mem 𝓡.returns)
  unfolding Rattle.camel_c.proofs.Destruct++none.drop.Code.code
  is_apart w al de gr sh none object = into_raw_met.met 𝓤 𝓛 𝓜 𝓡 w X A LX LA ghosts dict heap_drop object_drop (heap_met.passed 𝓡.env al de gr sh M 𝓤 𝓛 𝓜 𝓡)
      (nothing_to_drop.glues "camel_c::Destruct++none::drop" 𝓡.env none A LA M 𝓤 𝓛 𝓜 𝓡) (drops 𝓤 𝓛 𝓜 𝓡 object)

  pub is_again : Has from_raw_symbol.code → Has allocate.code → Has deallocate.code → Has grow.code → Has shrink.code → Has no_drop.code
      → Triple 𝓤 ((tables 𝓤 𝓛.H 𝓜 𝓡 𝓡.env).C (from_raw_symbol.name (bounded (a_type ∷ a_type ∷ []) (X, (A, tt))
      (dcons dict (dcons heap_drop dnil))))) (Again 𝓛 𝓜.mem 𝓡.returns)
  unfolding Rattle.camel_c.proofs.Destruct++none.drop.Code.code
  is_again w al de gr sh none = from_raw_met.met 𝓤 𝓛 𝓜 𝓡 w X A LX LA ghosts dict heap_drop (heap_met.passed 𝓡.env al de gr sh M 𝓤 𝓛 𝓜 𝓡)
      (nothing_to_drop.glues "camel_c::Destruct++none::drop" 𝓡.env none A LA M 𝓤 𝓛 𝓜 𝓡)
