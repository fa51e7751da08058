-- `into_unboxed` makes a unboxed box box of the pointer again.
use Rattle.std.proofs.{Common.{List, [], refl, subst, sym, ◌++◌, ◌∷◌, ◌≡◌}, raw_atomic.Walks.{leaves, proved_at}}
use Rattle.{core.proofs.alloc.Calls.handle_tells, std_alloc.specs.Box.Ownership.box_owns, std_heap.specs.contracts.GlobalAllocator.TheImpl.ghosts}
use Rattle.mntgate_c.proofs.{HandleSteps.{H', handle_out, word}, Unboxing.{heap_of, pair, pair_fits, put_together}}
use Rattle.mntgate_c.{proofs.handles.TaskHandle.into_unboxed.Statement.statement, specs.Handles.{heap, holds}}
use Rattle.mntgate_c.specs.contracts.handles.TaskHandle.into_unboxed.{Key.name as #self, clauses, ended}
use base.Logic.{SProp, emp, ent, fst∗, id⊢, never}
use contract.{Monad.{fact, fact_i}, Running.tables}
use denote.{Exit.yes, Memory.lone, RattleType.owns, RawPtr.{Ptr, block_ptr, in_a_block, null_ptr}, Signature.{plain, types_at}}
use denote.{Steps.{heard, nothing}, Triple.{Entry.alive, Walked.{Goes-dropped, Stays, stay_dropped, walk_of}}}
use mathlib.Core.Bool.{Bool, true}
use mir.{Raw.raw as bare, Val.{Val, vptr}}
use prog.Wp.{WpFn}
use types.{ByLocal.{alloc_all, free_all, get, get_in, look_at, pass_all, sets}, Kit.{ !, by, fjoin, fsplit, keep, move, qed, raw, rewrite, split}}
use types.{Kit.{suffices, use0, ‵, ◌$◌, ◌∵◌, ◌⊛◌}, Logic.sem, Part.{agg, sub, whole}, Run.{and_then, enter, fld, no_more, of_opd, returns, stop}}
use Rattle.std_heap.specs.contracts.Global as global
use Rattle.std_heap.proofs.Global.TheLaws as heap_laws
use Rattle.mntgate_c.specs.contracts.members.Member as member
use Rattle.mntgate_c.proofs.handles.TaskHandle.into_unboxed.Code as code

pub into_unboxed_spec : {M : Type 1} → statement M
into_unboxed_spec 𝓤 𝓛 𝓜 𝓡 wired =
    let H = 𝓛.H in let 𝓣 = tables 𝓤 H 𝓜 𝓡 𝓡.env in let c = clauses 𝓛 𝓜.mem 𝓡.returns in
    let hs : Stays ended.signature.params ended.kept = (stay_dropped (plain (λ _. H')) yes, (stay_dropped (plain (λ _. global.the_row)) yes, tt)) in
    proved_at 𝓛 ended hs c 𝓜 𝓡 (Goes-dropped 𝓛 0 (plain (λ _. H')) yes (λ κs x f. refl), (Goes-dropped 𝓛 0 (plain (λ _. global.the_row)) yes (λ κs x f. refl), tt)) #self code.function (code.unfolded 𝓤 H 𝓜 𝓡 wired) (λ z are.
    let v = z.0.3.0 in let a = z.0.3.1.0 in let Post : Val → SProp 𝓤 = (walk_of 𝓛 ended hs c).post z in let Run : List Val → SProp 𝓤 = λ ws. WpFn 𝓤 H 𝓣.C 𝓣.Λ code.function ws Post in
    qed 𝓛 ((raw (alive 𝓛 ended.signature z.0.0 z.0.1) ⊛ ‵ (owns (types_at ended.signature.params z.0.0) z.0.3 z.0.4)) ∷ raw ((c z.0.0 z.0.3).requires z.1) ∷ []) ∵
    move ! (1 ∷ []) $ heard ! (v.full ≡ true) (λ full. split ! $ move ! (1 ∷ []) $ fsplit ! $ move ! (1 ∷ []) $ fsplit ! $
    handle_tells (heap_of member.the_row global.the_row heap_laws.the_row_laws ghosts) ! a z.0.4.1.0 (λ h eh fits. move ! (2 ∷ []) $
    handle_out ! v z.0.4.0 (λ ws. rewrite ! 0 (λ (y : Bool). ‵ (holds y v.at v.state)) full refl $
    in_a_block ! v.at (λ p. box_owns (ghosts.dealloc_token heap) member.the_row p v.state) (fst∗ 𝓤 (never 𝓤) (sem 𝓛 (ghosts.dealloc_token heap (bare (lone member.the_row.mir)) null_ptr))) (λ b o e.
    put_together member.the_row global.the_row heap_laws.the_row_laws ghosts ! b o h a v.state $ keep ! (0 ∷ 2 ∷ []) $
    let w : Val = pair (vptr b o) h in let made = pair_fits member.the_row global.the_row heap_laws.the_row_laws ghosts b o h fits in
    let told : z.0.4.0 ≡ word (block_ptr b o) ∷ [] = subst (λ (p : Ptr). z.0.4.0 ≡ word p ∷ []) e ws in let Start : SProp 𝓤 = Run (word (block_ptr b o) ∷ h ∷ []) in
    suffices ! Start (subst (λ (us : List Val). ent 𝓤 Start (Run us)) (sym (λ i. told i ++ (eh i ++ []))) (id⊢ 𝓤 Start)) $
    enter ! 𝓣.C 𝓣.Λ code.function (word (block_ptr b o) ∷ h ∷ []) Post $ alloc_all ! (λ l. pass_all ! refl ((tt, (tt, tt)), (fits, tt)) $
    sets ! (of_opd ! (get_in ! (fld ! refl (stop !)) (sub ! 0 refl (whole !)))) refl (tt, tt) $ sets ! (of_opd ! (get ! refl)) refl (tt, tt) $
    sets ! (agg ! (and_then ! (get ! refl) (and_then ! (get ! refl) (no_more !)))) refl made $
    use0 𝓛 (raw (fact 𝓤 (v.state ≡ v.state))) (fact_i 𝓤 (v.state ≡ v.state) (emp 𝓤) refl) $ nothing ! $ nothing ! $ fjoin ! $ nothing ! $ fjoin ! $
    returns ! (look_at ! 0 refl) $ free_all ! refl $ keep ! (3 ∷ 0 ∷ 2 ∷ 1 ∷ []) $ by ! (leaves 𝓛 ended hs c z w (record { at = block_ptr b o; alloc = a; value = v.state }) (tt, (tt, tt)) (tt, (tt, tt)))))))))
