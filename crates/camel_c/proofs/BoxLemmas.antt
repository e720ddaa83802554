-- The box of an object: its types, and the calls that take it apart and make it again. Assumes `Logic`.
use Rattle.std.proofs.Common.{◌≡◌, List, [], ◌∷◌, refl, ap}
use seplogic.Ra.Ura.{Ura}
use mir.Raw.{raw as bare}
use mir.Syntax.{Dict, impl, tcons, tnil, dnil}
use mir.Val.{Val}
use base.Fml.{ftrue, flft}
use types.Logic.{Logic, sem}
use types.Kit.{Item, Goal, Seq, ‵, raw, ◌⊛◌, some, later, ◌$◌, ◌∵◌, !, qed, move, drop, use0, use1, split, split3, join}
use types.Kit.{fjoin, pick, feq_i, feq_l, show, check, await, updating, now, done}
use denote.Exit.{no}
use denote.Laws.{Is, shows}
use denote.Param.{arg, layout, param}
use denote.Param.Laws.{Laws, arg_laws, param_laws}
use denote.RattleType.{RattleType}
use denote.Steps.{peeks, nothing, only, heard}
use Rattle.std.specs.declared.alloc.Global.{Global}
use Rattle.std.specs.contracts.alloc.Global.{the_row as Z}
use Rattle.std.specs.contracts.impls.GlobalAllocator.TheImpl.{ghosts, dict}
use Rattle.std.proofs.alloc.Global.TheLaws.{the_row_laws as LZ}
use base.Fraction.{full_share}
use base.Logic.{SProp, ent, sep, ex, guard, emp, id⊢}
use prog.Memory.{Memory}
use prog.Routine.{Routine}
use contract.BorrowLft.{◌⊑◌, ⊑_static}
use contract.Lifetimes.{Lfts, Shares}
use contract.Monad.{Fun, fact, fact_i}
use denote.Builtin.{RawPtr}
use denote.RawPtr.{Ptr, ptr_val}
use denote.Triple.Clauses.{Ended, Lasts, lasts}
use denote.Triple.Spec.{triple_of}
use denote.Triple.Statement.{Contract}
use Rattle.core.proofs.alloc.Calls.{handle_tells}
use Rattle.core.proofs.cell.Inside.{Good}
use Rattle.std_alloc.proofs.boxed.Box.TheLaws.{the_row_laws as box_laws}
use Rattle.camel_c.proofs.object.Object.TheLaws.{the_row_laws as LR}
use Rattle.camel_c.specs.contracts.object.Object.{the_row as R}
use Rattle.camel_c.specs.Handle.{global_box}
use Rattle.camel_c.proofs.ObjectDrop.{X, object_drop}
use Rattle.std_alloc.specs.contracts.boxed.Box as box
use Rattle.std_alloc.specs.contracts.boxed.Box.from_raw as from_raw
use Rattle.std_alloc.specs.contracts.boxed.Box.into_raw as into_raw

-- The types of the box of an object, and their machine values. Assumes `Logic`.

-- the box of an object in the heap of the C library
abbrev pub Whole : RattleType
Whole = box.the_row R Z ghosts

-- a `Global` as what it is passed to a call as, which needs no drop
abbrev pub A : RattleType
A = arg (bare (layout Z)) no Z

abbrev pub LA : Laws A
LA = arg_laws (bare (layout Z)) no Z LZ refl

abbrev pub heap_drop : Dict
heap_drop = impl ("camel_c::Destruct++none::drop" ∷ []) (tcons (layout A) tnil) dnil

-- what is owned of a box is one machine value, of its type
pub box_tells : {M : Type 1} {𝓤 : Ura M} {𝓛 : Logic 𝓤} {K : Type 0} {Γ : List (Item 𝓤)} {G : Goal 𝓤 𝓛.H} → K → (d : Whole.Denot) (vs : List Val)
    → ((v : Val) → vs ≡ v ∷ [] → Good (layout Whole) v → Seq K 𝓛 (‵ (Whole.own_val d (v ∷ [])) ∷ Γ) G) → Seq K 𝓛 (‵ (Whole.own_val d vs) ∷ Γ) G
box_tells t d vs k =
    handle_tells (record { row = Whole; laws = box_laws R Z ghosts LR LZ; g = record { dealloc_token = λ a σ p. ftrue }; d = dict; drops = dict }) t d vs k

-- so is what is owned of a `Global`
pub global_tells : {M : Type 1} {𝓤 : Ura M} {𝓛 : Logic 𝓤} {K : Type 0} {Γ : List (Item 𝓤)} {G : Goal 𝓤 𝓛.H} → K → (a : Global) (vs : List Val)
    → ((v : Val) → vs ≡ v ∷ [] → Good (layout Z) v → Seq K 𝓛 (‵ (Z.own_val a (v ∷ [])) ∷ Γ) G) → Seq K 𝓛 (‵ (Z.own_val a vs) ∷ Γ) G
global_tells t a vs k = handle_tells (record { row = Z; laws = LZ; g = ghosts; d = dict; drops = dict }) t a vs k

-- a box at one machine value has it of its type
pub box_good : {M : Type 1} {𝓤 : Ura M} {𝓛 : Logic 𝓤} {K : Type 0} {Γ : List (Item 𝓤)} {G : Goal 𝓤 𝓛.H} → K → (d : Whole.Denot) (v : Val)
    → (Good (layout Whole) v → Seq K 𝓛 (‵ (Whole.own_val d (v ∷ [])) ∷ Γ) G) → Seq K 𝓛 (‵ (Whole.own_val d (v ∷ [])) ∷ Γ) G
box_good {𝓛 = 𝓛} t d v k = let P : RattleType = param 0 Whole in
    peeks t P (Is P) (shows 𝓛 P) d (v ∷ []) (λ is. k (((param_laws 0 Whole (box_laws R Z ghosts LR LZ)).lawful 𝓛).typed d (v ∷ []) is).0)

-- What the calls that take the box of an object apart and make it again are handed, and what they give. Assumes `Logic`.

-- an object and a `Global` name no lifetime, so the lifetime of the call's types is `'static`
abbrev κs : Lfts 2
κs = ([], ([], tt))

abbrev qs : Shares 2
qs = (full_share, (full_share, tt))

module _ {M : Type 1} {𝓤 : Ura M} (𝓛 : Logic 𝓤) where
  abbrev tokens : Item 𝓤
  tokens = ‵ (flft [] full_share) ⊛ ‵ (flft [] full_share) ⊛ ‵ ftrue

  module _ (at_mem : Memory → SProp 𝓤) (run : Routine → Fun 𝓤) where
    open 𝓛 use {H}

    abbrev pub Apart : Contract 𝓤
    Apart = triple_of 𝓛 (into_raw.signature X A ghosts dict heap_drop object_drop) (into_raw.spec X A ghosts dict heap_drop object_drop 𝓛 at_mem run)

    abbrev pub Again : Contract 𝓤
    Again = triple_of 𝓛 (from_raw.signature X A ghosts dict heap_drop) (from_raw.spec X A ghosts dict heap_drop 𝓛 at_mem run)

    -- the box, at its machine value
    module _ (d : Whole.Denot) (w : Val) where
      abbrev pub at_apart : Apart.Ghost
      at_apart = ((κs, qs, tt, (d, tt), (w ∷ [], tt)), tt)

      pub apart_goes : ent 𝓤 (sem 𝓛 (Whole.own_val d (w ∷ []))) (Apart.pre at_apart)
      apart_goes =
          qed 𝓛 (‵ (Whole.own_val d (w ∷ [])) ∷ []) ∵
          nothing ! $ use0 𝓛 (raw (fact 𝓤 ([] ⊑ A.lives))) (fact_i 𝓤 ([] ⊑ A.lives) (emp 𝓤) (⊑_static [])) $ join ! $
          use0 𝓛 (raw (fact 𝓤 ([] ⊑ X.lives))) (fact_i 𝓤 ([] ⊑ X.lives) (emp 𝓤) (⊑_static [])) $ join ! $
          nothing ! $ move ! (2 ∷ 0 ∷ []) $ fjoin ! $
          nothing ! $ use0 𝓛 (‵ (flft [] full_share)) (𝓛.lfts.lft-nil full_share) $ join ! $
          use0 𝓛 (‵ (flft [] full_share)) (𝓛.lfts.lft-nil full_share) $ join ! $ join ! $ join ! $ done !

      -- the pointer that comes back owns what the box owned
      pub apart_gives : (u : Val) → ent 𝓤 (Apart.post at_apart u) (H.⇛ (ex 𝓤 (λ (p : Ptr). guard 𝓤 (u ≡ ptr_val p) (sem 𝓛 (global_box R p d.value d.alloc)))))
      apart_gives u =
          let E : Ended = into_raw.ended X A ghosts dict heap_drop object_drop in
          qed 𝓛 (raw (Apart.post at_apart u) ∷ []) ∵ updating ! $
          use1 𝓛 (later (some (λ (p : Ptr). (tokens ⊛ ‵ (RawPtr.own_val p (u ∷ [])))
          ⊛ some (λ (ws : Lasts E κs (d, tt)). ‵ (lasts E κs (d, tt) ws) ⊛ ‵ (global_box R p d.value d.alloc))))) (id⊢ 𝓤 _) $
          await ! tt $ pick ! (λ p. split ! $ split ! $ drop ! $ feq_l ! (λ e. pick ! (λ ws. split ! $ drop ! $ now ! $
          show ! (λ (p : Ptr). guard 𝓤 (u ≡ ptr_val p) (sem 𝓛 (global_box R p d.value d.alloc))) p $ check ! (ap only e) $ done !)))

    -- a `Global`, at its machine value, and the pointer of an object
    module _ (a : Global) (h : Val) (p : Ptr) (x : R.Denot) where
      abbrev pub at_again : Again.Ghost
      at_again = ((κs, qs, tt, (a, (p, tt)), (h ∷ [], (ptr_val p ∷ [], tt))), x)

      pub again_goes : ent 𝓤 (sep 𝓤 (sem 𝓛 (global_box R p x a)) (sem 𝓛 (Z.own_val a (h ∷ [])))) (Again.pre at_again)
      again_goes =
          qed 𝓛 (‵ (global_box R p x a) ∷ ‵ (Z.own_val a (h ∷ [])) ∷ []) ∵
          use0 𝓛 (raw (fact 𝓤 ([] ⊑ A.lives))) (fact_i 𝓤 ([] ⊑ A.lives) (emp 𝓤) (⊑_static [])) $ join ! $
          use0 𝓛 (raw (fact 𝓤 ([] ⊑ X.lives))) (fact_i 𝓤 ([] ⊑ X.lives) (emp 𝓤) (⊑_static [])) $ join ! $
          nothing ! $ feq_i ! (List Val) (ptr_val p ∷ []) (ptr_val p ∷ []) refl $ fjoin ! $ move ! (2 ∷ 0 ∷ []) $ fjoin ! $
          nothing ! $ use0 𝓛 (‵ (flft [] full_share)) (𝓛.lfts.lft-nil full_share) $ join ! $
          use0 𝓛 (‵ (flft [] full_share)) (𝓛.lfts.lft-nil full_share) $ join ! $ join ! $ join ! $ done !

      -- the box that comes back holds the object
      pub again_gives : (u : Val) → ent 𝓤 (Again.post at_again u) (H.⇛ (ex 𝓤 (λ (r : Whole.Denot). guard 𝓤 (r.value ≡ x) (sem 𝓛 (Whole.own_val r (u ∷ []))))))
      again_gives u =
          let E : Ended = from_raw.ended X A ghosts dict heap_drop in
          qed 𝓛 (raw (Again.post at_again u) ∷ []) ∵ updating ! $
          use1 𝓛 (later (some (λ (r : Whole.Denot). (tokens ⊛ ‵ (Whole.own_val r (u ∷ [])))
          ⊛ some (λ (ws : Lasts E κs (a, (p, tt))). ‵ (lasts E κs (a, (p, tt)) ws)
          ⊛ (raw (fact 𝓤 (r.value ≡ x)) ⊛ raw (fact 𝓤 (r.alloc ≡ a))))))) (id⊢ 𝓤 _) $
          await ! tt $ pick ! (λ r. split ! $ split ! $ drop ! $ move ! (1 ∷ []) $ pick ! (λ ws. split3 ! $
          drop ! $ heard ! (r.value ≡ x) (λ e. drop ! $ now ! $
          show ! (λ (r : Whole.Denot). guard 𝓤 (r.value ≡ x) (sem 𝓛 (Whole.own_val r (u ∷ [])))) r $ check ! e $ done !)))
