-- `of` keeps the pointer, and what is owned behind it.
use Rattle.std.proofs.{Common.{List, [], refl, subst, sym, ◌++◌, ◌∷◌, ◌≡◌}, raw_atomic.Walks.{leaves, proved_at}}
use mathlib.Core.Bool.{true}
use mir.Val.{Val, vptr}
use base.Logic.{SProp, emp, ent, id⊢}
use prog.Wp.{WpFn}
use types.{ByLocal.{alloc_all, free_all, get, get_in, look_at, pass_all, sets}, Kit.{ !, by, fjoin, fsplit, keep, move, qed, raw, split, suffices}}
use types.{Kit.{use0, ‵, ◌$◌, ◌∵◌, ◌⊛◌}, Part.{agg, sub, whole}, Run.{and_then, enter, fld, no_more, of_opd, returns, stop}}
use contract.{Monad.{fact, fact_i}, Running.tables}
use denote.{Exit.yes, RattleType.{RattleType, owns}, RawPtr.block_ptr, Signature.{plain, types_at}, Steps.nothing, Triple.Entry.alive}
use denote.Triple.Walked.{Goes-dropped, Stays, stay_dropped, walk_of}
use Rattle.std_heap.specs.contracts.GlobalAllocator.TheImpl.{ghosts}
use Rattle.mntgate_c.proofs.{HandleSteps.{handle_in, word}, Unboxing.{BoxedRow, pair, pair_fits, taken_apart}}
use Rattle.mntgate_c.{proofs.handles.TaskHandle.of.Statement.statement, specs.contracts.handles.TaskHandle.of.{Key.name as #self, clauses, ended}}
use Rattle.std_heap.specs.contracts.Global as heap
use Rattle.std_heap.proofs.Global.TheLaws as heap_laws
use Rattle.mntgate_c.specs.contracts.members.Member as member
use Rattle.mntgate_c.proofs.handles.TaskHandle.of.Code as code

abbrev Lr : RattleType
Lr = BoxedRow member.the_row heap.the_row heap_laws.the_row_laws ghosts

pub of_spec : {M : Type 1} → statement M
of_spec 𝓤 𝓛 𝓜 𝓡 wired =
    let H = 𝓛.H in let 𝓣 = tables 𝓤 H 𝓜 𝓡 𝓡.env in let c = clauses 𝓛 𝓜.mem 𝓡.returns in
    let hs : Stays ended.signature.params ended.kept = (stay_dropped (plain (λ _. Lr)) yes, tt) in
    proved_at 𝓛 ended hs c 𝓜 𝓡 (Goes-dropped 𝓛 0 (plain (λ _. Lr)) yes (λ κs x f. refl), tt) #self code.function (code.unfolded 𝓤 H 𝓜 𝓡 wired) (λ z are.
    let v = z.0.3.0 in let Post : Val → SProp 𝓤 = (walk_of 𝓛 ended hs c).post z in let Run : List Val → SProp 𝓤 = λ ws. WpFn 𝓤 H 𝓣.C 𝓣.Λ code.function ws Post in
    qed 𝓛 ((raw (alive 𝓛 ended.signature z.0.0 z.0.1) ⊛ ‵ (owns (types_at ended.signature.params z.0.0) z.0.3 z.0.4)) ∷ raw ((c z.0.0 z.0.3).requires z.1) ∷ []) ∵
    split ! $ move ! (1 ∷ []) $ fsplit ! $ taken_apart member.the_row heap.the_row heap_laws.the_row_laws ghosts ! v z.0.4.0 (λ b o h e ws fits.
    let w : Val = pair (vptr b o) h in let typed = pair_fits member.the_row heap.the_row heap_laws.the_row_laws ghosts b o h fits in
    keep ! (0 ∷ 3 ∷ []) $
    suffices ! (Run (w ∷ [])) (subst (λ (us : List Val). ent 𝓤 (Run (w ∷ [])) (Run us)) (sym (λ i. ws i ++ [])) (id⊢ 𝓤 (Run (w ∷ [])))) $
    handle_in ! true (block_ptr b o) v.value $
    enter ! 𝓣.C 𝓣.Λ code.function (w ∷ []) Post $ alloc_all ! (λ l. pass_all ! refl (typed, tt) $
    sets ! (of_opd ! (get_in ! (fld ! refl (stop !)) (sub ! 0 refl (whole !)))) refl (tt, tt) $ sets ! (of_opd ! (get ! refl)) refl (tt, tt) $ sets ! (agg ! (and_then ! (get ! refl) (no_more !))) refl (tt, (tt, tt)) $
    use0 𝓛 (raw (fact 𝓤 ((true ≡ true) × (v.value ≡ v.value)))) (fact_i 𝓤 ((true ≡ true) × (v.value ≡ v.value)) (emp 𝓤) (refl, refl)) $ nothing ! $ nothing ! $ fjoin ! $
    returns ! (look_at ! 0 refl) $ free_all ! refl $ keep ! (3 ∷ 0 ∷ 2 ∷ 1 ∷ []) $ by ! (leaves 𝓛 ended hs c z (word (block_ptr b o)) (record { at = block_ptr b o; full = true; state = v.value }) (tt, tt) (tt, tt)))))
