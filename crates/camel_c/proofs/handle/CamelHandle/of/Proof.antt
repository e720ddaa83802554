-- `of` passes the whole box on, and keeps the pointer that comes back.
use Rattle.std.proofs.Common.{◌≡◌, true, List, [], ◌∷◌, ◌++◌, refl}
use Rattle.std.specs.Prelude.{Some}
use mir.Val.{Val}
use base.Logic.{SProp, emp}
use prog.Wp.{WpFn}
use types.Kit.{‵, raw, ◌⊛◌, some, given, later, prop, ◌$◌, ◌∵◌, !, qed, by, move, keep, split, fsplit, fjoin, fpack, pick, learn, regoal, use0, use1, await}
use types.Run.{true_lit, of_opd, no_more, and_then, returns, enter}
use types.ByLocal.{alloc_all, pass_all, free_all, look_at, get, sets, lands_as}
use types.Part.{agg}
use contract.Monad.{fact, fact_i}
use contract.Running.{tables}
use denote.Exit.{yes}
use denote.RattleType.{owns}
use denote.RawPtr.{Ptr, ptr_val}
use denote.Signature.{types_at, plain}
use denote.Steps.{nothing}
use denote.Triple.Call.{calls_at}
use denote.Triple.Entry.{alive}
use denote.Triple.Walked.{Stays, stay_dropped, walk_of, Goes-dropped}
use Rattle.core.proofs.atomic.Steps.{fm, Ptr-Good}
use Rattle.std.proofs.raw_atomic.Walks.{proved_at, leaves}
use Rattle.std.specs.declared.alloc.Global.{Global}
use Rattle.camel_c.specs.Handle.{global_box}
use Rattle.camel_c.proofs.BoxLemmas.{Whole, box_tells, Apart, at_apart, apart_goes, apart_gives}
use Rattle.camel_c.proofs.BoxCode.{is_apart}
use Rattle.camel_c.proofs.Values.{R, word, word_good, handle_in}
use Rattle.camel_c.specs.contracts.handle.CamelHandle.of.{ended, clauses}
use Rattle.camel_c.specs.contracts.handle.CamelHandle.of.Key.{name as #self}
use Rattle.camel_c.proofs.handle.CamelHandle.of.Statement.{statement}
use Rattle.camel_c.proofs.handle.CamelHandle.of.Code as code

abbrev stayed : Stays ended.signature.params ended.kept
stayed = (stay_dropped _ yes, tt)

pub of_spec : {M : Type 1} → statement M
of_spec 𝓤 𝓛 𝓜 𝓡 wired =
    let c = clauses 𝓛 𝓜.mem 𝓡.returns in let fn = code.function in let 𝓣 = tables 𝓤 𝓛.H 𝓜 𝓡 𝓡.env in let γ = 𝓡.env in
    let known = is_apart 𝓤 𝓛 𝓜 𝓡 (code.calls-std_alloc::boxed::Box::into_raw γ wired) (code.calls-std_heap::GlobalAllocator::allocate γ wired)
    (code.calls-std_heap::GlobalAllocator::deallocate γ wired) (code.calls-std_heap::GlobalAllocator::grow γ wired)
    (code.calls-std_heap::GlobalAllocator::shrink γ wired) (code.calls-camel_c::Destruct++none::drop γ wired)
    (code.calls-camel_c::camel_c++object++Object+Destruct::drop γ wired) in
    proved_at 𝓛 ended stayed c 𝓜 𝓡 (Goes-dropped 𝓛 0 (plain (λ _. Whole)) yes (λ κs x f. refl), tt)
    #self fn (code.unfolded 𝓤 𝓛.H 𝓜 𝓡 wired) (λ z are.
    let d : Whole.Denot = z.0.3.0 in let Post : Val → SProp 𝓤 = (walk_of 𝓛 ended stayed c).post z in
    qed 𝓛 ((raw (alive 𝓛 ended.signature z.0.0 z.0.1) ⊛ ‵ (owns (types_at ended.signature.params z.0.0) z.0.3 z.0.4))
    ∷ raw ((c z.0.0 z.0.3).requires z.1) ∷ []) ∵
    split ! $ move ! (1 ∷ []) $ fsplit ! $ box_tells ! d z.0.4.0 (λ w is_word good.
    regoal ! (λ (ws : List Val). prop (WpFn 𝓤 𝓛.H 𝓣.C 𝓣.Λ fn (ws ++ []) Post)) is_word refl $
    enter ! 𝓣.C 𝓣.Λ fn (w ∷ []) Post $ alloc_all ! (λ l. pass_all ! refl (good, tt) $
    sets ! (of_opd ! (get ! refl)) refl good $
    use1 𝓛 (raw ((Apart 𝓛 𝓜.mem 𝓡.returns).pre (at_apart 𝓛 𝓜.mem 𝓡.returns d w))) (apart_goes 𝓛 𝓜.mem 𝓡.returns d w) $
    calls_at ! (fm 𝓛 𝓜 𝓡) (Apart 𝓛 𝓜.mem 𝓡.returns) known (at_apart 𝓛 𝓜.mem 𝓡.returns d w) (and_then ! (get ! refl) (no_more !)) (λ u.
    use1 𝓛 (later (some (λ (p : Ptr). given (u ≡ ptr_val p) (‵ (global_box R p d.value d.alloc))))) (apart_gives 𝓛 𝓜.mem 𝓡.returns d w u) $
    await ! tt $ pick ! (λ p. learn ! (λ is_ptr. lands_as ! is_ptr refl (Ptr-Good p) $
    sets ! (of_opd ! (get ! refl)) refl (Ptr-Good p) $
    sets ! (agg ! (and_then ! (get ! refl) (and_then ! (true_lit !) (no_more !)))) refl (word_good p true) $
    -- [what the pointer owns; nothing; the tokens; what is required; the locals]
    fpack ! Global (global_box R p d.value) d.alloc $ handle_in ! p true (Some d.value) $
    use0 𝓛 (raw (fact 𝓤 (Some d.value ≡ Some d.value))) (fact_i 𝓤 (Some d.value ≡ Some d.value) (emp 𝓤) refl) $ nothing ! $ nothing ! $ fjoin ! $
    returns ! (look_at ! 0 refl) $ free_all ! refl $ keep ! (4 ∷ 0 ∷ 2 ∷ 1 ∷ []) $
    by ! (leaves 𝓛 ended stayed c z (word p true) (record { at = p; is_full = true; value = Some d.value }) (tt, tt) (tt, tt))))))))
