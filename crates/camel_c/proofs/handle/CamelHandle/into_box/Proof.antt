-- `into_box` makes the box of a full handle again, at whichever `Global` it is given.
use Rattle.std.proofs.Common.{◌≡◌, T, List, [], ◌∷◌, ◌++◌, refl, sym, ap, ◌∙◌, subst, lit<}
use Rattle.std.specs.Prelude.{Option, Some, None, MatchOption}
use mathlib.Core.Bool.{Bool, not}
use mir.Val.{Val, vcons, vnil}
use base.Logic.{SProp, emp}
use prog.Wp.{WpFn}
use types.Kit.{‵, raw, ◌⊛◌, some, given, later, at_ret, prop, ◌$◌, ◌∵◌, !, qed, by, move, keep, split, fsplit, fjoin}
use types.Kit.{pick, learn, regoal, use0, use1, use2, await}
use types.Run.{stop, fld, lit, of_opd, un, no_more, and_then, first, blocks, branches, skips, exec, returns, returns_within, enter}
use types.ByLocal.{alloc_all, pass_all, free_all, look_at, get, get_in, sets, lands_last, env}
use types.Match.{live}
use types.Part.{agg, sub, whole}
use contract.Monad.{fact, fact_i}
use contract.Running.{tables}
use denote.Exit.{yes}
use denote.Param.{layout}
use denote.RattleType.{RattleType, owns}
use denote.RawPtr.{Ptr}
use denote.Signature.{types_at, type_at, plain}
use denote.Steps.{nothing}
use denote.Triple.Call.{calls_at_last}
use denote.Triple.Entry.{alive}
use denote.Triple.Walked.{Stays, stay_dropped, walk_of, Goes-dropped}
use Rattle.core.proofs.alloc.Shapes.{after}
use Rattle.core.proofs.atomic.Steps.{fm, Ptr-Good}
use Rattle.core.proofs.cell.Inside.{Good}
use Rattle.core.proofs.option.Made.{Some-of, none_of}
use Rattle.std.proofs.raw_atomic.Walks.{proved_at, leaves}
use Rattle.std.specs.declared.alloc.Global.{Global}
use Rattle.std.specs.contracts.alloc.Global.{the_row as Z}
use Rattle.std_alloc.proofs.ResultValues.{and_tt}
use Rattle.camel_c.proofs.BoxLemmas.{Whole, box_good, global_tells, Again, at_again, again_goes, again_gives}
use Rattle.camel_c.proofs.BoxCode.{is_again}
use Rattle.camel_c.proofs.Values.{Row, R, word, word_good, handle_out, handle_cases}
use Rattle.camel_c.specs.contracts.handle.CamelHandle.into_box.{ended, clauses}
use Rattle.camel_c.specs.contracts.handle.CamelHandle.into_box.Key.{name as #self}
use Rattle.camel_c.proofs.handle.CamelHandle.into_box.Statement.{statement}
use Rattle.camel_c.proofs.handle.CamelHandle.into_box.Code as code

abbrev stayed : Stays ended.signature.params ended.kept
stayed = (stay_dropped _ yes, (stay_dropped _ yes, tt))

abbrev Says : Option R.Denot → Option Whole.Denot → Type 0
Says v r = MatchOption r (v ≡ None) (λ d. v ≡ Some d.value)

pub into_box_spec : {M : Type 1} → statement M
into_box_spec 𝓤 𝓛 𝓜 𝓡 wired =
    let c = clauses 𝓛 𝓜.mem 𝓡.returns in let fn = code.function in let 𝓣 = tables 𝓤 𝓛.H 𝓜 𝓡 𝓡.env in let γ = 𝓡.env in
    let known = is_again 𝓤 𝓛 𝓜 𝓡 (code.calls-std_alloc::boxed::Box::from_raw γ wired) (code.calls-std_heap::GlobalAllocator::allocate γ wired)
    (code.calls-std_heap::GlobalAllocator::deallocate γ wired) (code.calls-std_heap::GlobalAllocator::grow γ wired)
    (code.calls-std_heap::GlobalAllocator::shrink γ wired) (code.calls-camel_c::Destruct++none::drop γ wired) in
    let goes = Goes-dropped 𝓛 0 (plain (λ _. Row)) yes (λ κs x f. refl) in let lets_go = Goes-dropped 𝓛 0 (plain (λ _. Z)) yes (λ κs x f. refl) in
    proved_at 𝓛 ended stayed c 𝓜 𝓡 (goes, (lets_go, tt)) #self fn (code.unfolded 𝓤 𝓛.H 𝓜 𝓡 wired) (λ z are.
    let v : Row.Denot = z.0.3.0 in let a : Global = z.0.3.1.0 in let p : Ptr = v.at in let b : Bool = v.is_full in
    let Out : RattleType = type_at ended.signature.result z.0.0 in
    let Post : Val → SProp 𝓤 = (walk_of 𝓛 ended stayed c).post z in
    qed 𝓛 ((raw (alive 𝓛 ended.signature z.0.0 z.0.1) ⊛ ‵ (owns (types_at ended.signature.params z.0.0) z.0.3 z.0.4))
    ∷ raw ((c z.0.0 z.0.3).requires z.1) ∷ []) ∵
    split ! $ move ! (1 ∷ []) $ fsplit ! $ handle_out ! v z.0.4.0 (λ is_word.
    move ! (1 ∷ []) $ fsplit ! $ global_tells ! a z.0.4.1.0 (λ h is_heap good. move ! (2 ∷ []) $
    regoal ! (λ (us : List Val × List Val). prop (WpFn 𝓤 𝓛.H 𝓣.C 𝓣.Λ fn (us.0 ++ (us.1 ++ [])) Post)) (λ i. (is_word i, is_heap i)) refl $
    enter ! 𝓣.C 𝓣.Λ fn (word p b ∷ h ∷ []) Post $ alloc_all ! (λ l. pass_all ! refl (word_good p b, (good, tt)) $ let Ev = env fn.locals l in
    sets ! (of_opd ! (get_in ! (fld ! refl (stop !)) (sub ! 0 refl (whole !)))) refl (Ptr-Good p) $
    sets ! (of_opd ! (get_in ! (fld ! refl (stop !)) (sub ! 1 refl (whole !)))) refl (tt, tt) $
    sets ! (un ! (get ! refl) tt) refl (tt, tt) $
    -- [what the handle owns; the `Global`; nothing; the tokens; what is required; the locals]
    first ! $ branches ! (get ! refl)
    (λ empty. handle_cases ! p b v.value (λ _ is.
    sets ! (agg ! (and_then ! (lit ! tt) (no_more !))) refl (tt, (record { fits = lit< tt }, tt)) $
    use0 𝓛 (‵ (Out.own_val None (live 0 vnil ∷ []))) (none_of 𝓛 Whole) $
    use0 𝓛 (raw (fact 𝓤 (Says v.value None))) (fact_i 𝓤 (Says v.value None) (emp 𝓤) is) $
    nothing ! $ nothing ! $ fjoin ! $ nothing ! $ fjoin ! $
    returns_within ! Post refl (look_at ! 0 refl) $ free_all ! refl $ keep ! (5 ∷ 0 ∷ 2 ∷ 1 ∷ []) $
    by ! (leaves 𝓛 ended stayed c z (live 0 vnil) None (tt, (tt, tt)) (tt, (tt, tt))))
    (λ _ x full _. absurd (subst (λ (y : Bool). T (not y)) full empty)))
    (λ held. skips ! $ exec ! 𝓣.C 𝓣.Λ Ev (after 4 fn.body) (at_ret Ev Post) $
    handle_cases ! p b v.value (λ hollow _. absurd (subst (λ (y : Bool). T (not (not y))) hollow held)) (λ _ x _ is.
    first ! $ blocks ! $ sets ! (of_opd ! (get ! refl)) refl (Ptr-Good p) $
    use2 𝓛 (raw ((Again 𝓛 𝓜.mem 𝓡.returns).pre (at_again 𝓛 𝓜.mem 𝓡.returns a h p x))) (again_goes 𝓛 𝓜.mem 𝓡.returns a h p x) $
    calls_at_last ! (fm 𝓛 𝓜 𝓡) (Again 𝓛 𝓜.mem 𝓡.returns) known (at_again 𝓛 𝓜.mem 𝓡.returns a h p x)
    (and_then ! (get ! refl) (and_then ! (get ! refl) (no_more !))) (λ u.
    use1 𝓛 (later (some (λ (d : Whole.Denot). given (d.value ≡ x) (‵ (Whole.own_val d (u ∷ [])))))) (again_gives 𝓛 𝓜.mem 𝓡.returns a h p x u) $
    await ! tt $ pick ! (λ d. learn ! (λ same. box_good ! d u (λ fits. lands_last ! refl fits $ exec ! 𝓣.C 𝓣.Λ Ev (after 5 fn.body) (at_ret Ev Post) $
    let made : Val = live 1 (vcons u vnil) in let made_good : Good (layout Out) made = (and_tt _ fits.0, (record { fits = lit< tt }, (fits.1, tt))) in
    let says : Says v.value (Some d) = is ∙ ap Some (sym same) in
    sets ! (of_opd ! (get ! refl)) refl fits $ sets ! (of_opd ! (get ! refl)) refl fits $
    sets ! (agg ! (and_then ! (lit ! tt) (and_then ! (get ! refl) (no_more !)))) refl made_good $
    use1 𝓛 (‵ (Out.own_val (Some d) (made ∷ []))) (Some-of 𝓛 Whole d u) $
    use0 𝓛 (raw (fact 𝓤 (Says v.value (Some d)))) (fact_i 𝓤 (Says v.value (Some d)) (emp 𝓤) says) $
    nothing ! $ nothing ! $ fjoin ! $ nothing ! $ fjoin ! $ returns ! (look_at ! 0 refl) $ free_all ! refl $ keep ! (4 ∷ 0 ∷ 2 ∷ 1 ∷ []) $
    by ! (leaves 𝓛 ended stayed c z made (Some d) (tt, (tt, tt)) (tt, (tt, tt)))))))))))))
