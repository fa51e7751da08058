-- `of` takes the box apart: a call, and the struct of what it gave.
use Rattle.std.proofs.{Common.{List, [], ap, refl, subst, sym, ◌++◌, ◌∙◌, ◌∷◌, ◌≡◌}, raw_atomic.Walks.{leaves, proved_at}}
use base.{Fml.{flft, fsep, ftrue}, Logic.{SProp, emp, ent, fst∗, id⊢, never}}
use contract.{Monad.{fact, fact_i}, Running.tables}
use denote.{Builtin.RawPtr, Exit.no, Param.{Laws.param_laws, bounded, layout, param}, RattleType.{RattleType, owns}, RawPtr.{Ptr, block_ptr}}
use denote.{RawPtr.{in_a_block, null_ptr, ptr_val}, Signature.{plain, types_at}, Steps.{heard, nothing, only}, Struct.Tuple.Tuple}
use denote.Triple.{Call.calls_at, Clauses.Lasts, Spec.triple_of, Walked.{Stays, stay_dropped, walk_of}}
use mir.{MapTy.inst_fn, Raw.raw as bare, Syntax.{a_type, dcons, dnil}, Val.{Val, of_list, vptr, vstruct}}
use prog.Wp.{WpFn}
use types.{ByLocal.{alloc_all, free_all, get, get_in, lands_as, look_at, pass_all, sets}, Kit.{ !, await, by, drop, feq_l, fjoin, fpick, fsplit, join}}
use types.{Kit.{keep, later, move, pick, qed, raw, rewrite, some, split, split3, suffices, use0, use1, ‵, ◌$◌, ◌∵◌, ◌⊛◌}, Logic.sem, Part.{agg, sub}}
use types.Run.{and_then, enter, fld, no_more, of_opd, returns, stop}
use Rattle.core.proofs.{alloc.Calls.{Goes-blank, handle_tells}, atomic.Steps.fm}
use Rattle.std_alloc.{proofs.{BoxSteps.Steps.{box_in, box_out}, boxed.Box.into_raw_with_allocator.Met.met}, specs.Box.Ownership.box_owns}
use Rattle.mntgate_c.proofs.{Unboxing.{pair, pair_fits, put_together}, unboxed.Unboxed.of.Statement.statement}
use Rattle.mntgate_c.specs.contracts.unboxed.Unboxed.of.{Key.name as #self, clauses, ended}
use Rattle.std_alloc.proofs.BoxSteps.Form as box
use Rattle.std_alloc.specs.contracts.boxed.Box.into_raw_with_allocator as raw_parts
use Rattle.mntgate_c.proofs.unboxed.Unboxed.of.Code as code

pub of_spec : {M : Type 1} → statement M
of_spec 𝓤 𝓛 𝓜 𝓡 wired T A L LA g d dx dd allocator glue glued =
    let H = 𝓛.H in let 𝓣 = tables 𝓤 H 𝓜 𝓡 𝓡.env in
    let R : RattleType = param 0 T in let Z : RattleType = param 1 A in let LZ = param_laws 1 A LA in
    let Box : box.Bx = record { row = T; laws = L; al = record { row = A; laws = LA; g = g; d = d; drops = dd } } in
    let given = bounded (a_type ∷ a_type ∷ []) (T, (A, tt)) (dcons d (dcons dx (dcons dd dnil))) in let fn = inst_fn given code.function in
    let here = ended T A g d dx dd in let c = clauses T A g d dx dd 𝓛 𝓜.mem 𝓡.returns in
    let stays : Stays here.signature.params here.kept = (stay_dropped (plain (λ _. box.B Box)) no, tt) in
    proved_at 𝓛 here stays c 𝓜 𝓡 (Goes-blank 𝓛 2 (plain (λ _. box.B Box)) no (λ κs x f. tt), tt) (#self given) fn (code.unfolded 𝓤 H 𝓜 𝓡 wired (T, (A, tt)) d dx dd) (λ z are.
    let κs = z.0.0 in let qs = z.0.1 in let v = z.0.3.0 in let a = v.alloc in
    let Post : Val → SProp 𝓤 = (walk_of 𝓛 here stays c).post z in let Run : List Val → SProp 𝓤 = λ ws. WpFn 𝓤 H 𝓣.C 𝓣.Λ fn ws Post in
    let tokens = ‵ (flft κs.0 qs.0) ⊛ ‵ (flft κs.1.0 qs.1.0) ⊛ ‵ ftrue in
    qed 𝓛 ((tokens ⊛ ‵ (owns (types_at here.signature.params κs) z.0.3 z.0.4)) ∷ raw ((c κs z.0.3).requires z.1) ∷ []) ∵
    split ! $ move ! (1 ∷ []) $ fsplit ! $ box_out Box ! v z.0.4.0 (λ b o h e ws fits. box_in Box ! v b o v.value e refl $
    let w : Val = box.word Box h b o in let typed = pair_fits R Z LZ g b o h fits in
    let Called = triple_of 𝓛 (raw_parts.signature T A g d dd dx) (raw_parts.spec T A g d dd dx 𝓛 𝓜.mem 𝓡.returns) in let y : Called.Ghost = ((κs, qs, tt, (v, tt), (w ∷ [], tt)), tt) in
    let Both = Tuple (RawPtr ∷ Z ∷ []) in
    -- [the box; the end of the list; the tokens; what is asked] becomes what the call takes
    fjoin ! $ move ! (1 ∷ 0 ∷ []) $ join ! $ join ! $ use1 𝓛 (raw (Called.pre y)) (id⊢ 𝓤 _) $
    suffices ! (Run (w ∷ [])) (subst (λ (us : List Val). ent 𝓤 (Run (w ∷ [])) (Run us)) (sym (λ i. ws i ++ [])) (id⊢ 𝓤 (Run (w ∷ [])))) $
    enter ! 𝓣.C 𝓣.Λ fn (w ∷ []) Post $ alloc_all ! (λ l. pass_all ! refl (typed, tt) $ sets ! (of_opd ! (get ! refl)) refl typed $
    calls_at ! (fm 𝓛 𝓜 𝓡) Called (met 𝓤 𝓛 𝓜 𝓡 (code.calls-std_alloc::boxed::Box::into_raw_with_allocator 𝓡.env wired) T A L LA g d dd dx allocator glued glue) y (and_then ! (get ! refl) (no_more !)) (λ u.
    use1 𝓛 (later (some (λ (r : Ptr × A.Denot). (tokens ⊛ ‵ (Both.own_val r (u ∷ []))) ⊛ some (λ (_ : Lasts (raw_parts.ended T A g d dd dx) κs y.0.3). ‵ (fsep (fsep ftrue (fsep ftrue ftrue)) ftrue)
    ⊛ (raw (fact 𝓤 (r.1 ≡ a)) ⊛ ‵ (box_owns (g.dealloc_token a) R r.0 v.value)))))) (id⊢ 𝓤 _) $
    await ! tt $ pick ! (λ r. split ! $ move ! (1 ∷ []) $ pick ! (λ _. split3 ! $ drop ! $ heard ! (r.1 ≡ a) (λ same.
    in_a_block ! r.0 (λ p. box_owns (g.dealloc_token a) R p v.value) (fst∗ 𝓤 (never 𝓤) (sem 𝓛 (g.dealloc_token a (bare (layout T)) null_ptr))) (λ b' o' at.
    move ! (1 ∷ []) $ split ! $ move ! (1 ∷ []) $ fpick ! (λ parts. fsplit ! $ feq_l ! (λ whole. fsplit ! $ feq_l ! (λ first. fsplit ! $
    rewrite ! 0 (λ (s : A.Denot). ‵ (A.own_val s parts.1.0)) same refl $ handle_tells Box.al ! a parts.1.0 (λ h' second fits'.
    let made = pair_fits R Z LZ g b' o' h' fits' in
    lands_as ! (ap only (whole ∙ (λ j. vstruct (of_list ((first ∙ ap (λ (p : Ptr). ptr_val p ∷ []) at) j ++ (second j ++ []))) ∷ []))) refl made $
    sets ! (of_opd ! (get_in ! (fld ! refl (stop !)) (sub ! 0 refl (types.Part.whole !)))) refl (tt, tt) $ sets ! (of_opd ! (get_in ! (fld ! refl (stop !)) (sub ! 1 refl (types.Part.whole !)))) refl fits' $
    sets ! (of_opd ! (get ! refl)) refl fits' $ sets ! (agg ! (and_then ! (get ! refl) (and_then ! (get ! refl) (no_more !)))) refl made $
    move ! (3 ∷ 0 ∷ []) $ put_together R Z LZ g ! b' o' h' a v.value $
    use0 𝓛 (raw (fact 𝓤 (v.value ≡ v.value))) (fact_i 𝓤 (v.value ≡ v.value) (emp 𝓤) refl) $ nothing ! $ nothing ! $ fjoin ! $
    returns ! (look_at ! 0 refl) $ free_all ! refl $ keep ! (4 ∷ 0 ∷ 2 ∷ 1 ∷ []) $
    by ! (leaves 𝓛 here stays c z (pair (vptr b' o') h') (record { at = block_ptr b' o'; alloc = a; value = v.value }) ((tt, (tt, tt)), tt) (tt, tt))))))))))))))
