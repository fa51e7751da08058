-- `into_box` makes the box again: the struct's two fields, and a call.
use Rattle.std.proofs.{Common.{List, [], ap, refl, subst, sym, ◌++◌, ◌∷◌, ◌≡◌}, raw_atomic.Walks.{leaves, proved_at}}
use base.{Fml.{flft, ftrue}, Logic.{SProp, ent, id⊢}}
use contract.{BorrowLft.◌⊑◌, Monad.fact, Running.tables}
use denote.{Exit.no, Param.{Laws.param_laws, bounded, layout, param}, RattleType.{RattleType, owns}, RawPtr.block_ptr, Signature.{plain, types_at}}
use denote.{Steps.{nothing, only}, Triple.{Call.calls_at_last, Clauses.{Lasts, lasts}, Spec.triple_of, Walked.{Stays, stay_dropped, walk_of}}}
use mir.{MapTy.inst_fn, Syntax.{a_type, dcons, dnil}, Val.{Val, vptr}}
use prog.Wp.{WpFn}
use types.{ByLocal.{alloc_all, env, free_all, get, get_in, lands_last, look_at, pass_all, sets}, Kit.{ !, at_ret, await, by, drop, feq_i, fjoin}}
use types.{Kit.{fsplit, join, keep, later, move, pick, qed, raw, rewrite, some, split, split3, suffices, use1, ‵, ◌$◌, ◌∵◌, ◌⊛◌}, Part.{sub, whole}}
use types.Run.{and_then, blocks, enter, exec, first, fld, no_more, of_opd, returns, stop}
use Rattle.core.proofs.{alloc.{Calls.Goes-blank, Shapes.after}, atomic.Steps.fm, cell.Inside.Good}
use Rattle.std_alloc.proofs.{BoxSteps.Steps.{box_in, box_out}, boxed.Box.from_raw.Met.met}
use Rattle.mntgate_c.proofs.{Unboxing.{BoxedRow, pair, pair_fits, taken_apart}, unboxed.Unboxed.into_box.Statement.statement}
use Rattle.mntgate_c.specs.contracts.unboxed.Unboxed.into_box.{Key.name as #self, clauses, ended}
use Rattle.std_alloc.proofs.BoxSteps.Form as box
use Rattle.std_alloc.specs.contracts.boxed.Box.from_raw as from_raw
use Rattle.mntgate_c.proofs.unboxed.Unboxed.into_box.Code as code

pub into_box_spec : {M : Type 1} → statement M
into_box_spec 𝓤 𝓛 𝓜 𝓡 wired T A L LA g d dx dd allocator glue glued =
    let H = 𝓛.H in let 𝓣 = tables 𝓤 H 𝓜 𝓡 𝓡.env in
    let R : RattleType = param 0 T in let Z : RattleType = param 1 A in let LZ = param_laws 1 A LA in
    let Box : box.Bx = record { row = T; laws = L; al = record { row = A; laws = LA; g = g; d = d; drops = dd } } in let B : RattleType = box.B Box in
    let given = bounded (a_type ∷ a_type ∷ []) (T, (A, tt)) (dcons d (dcons dx (dcons dd dnil))) in let fn = inst_fn given code.function in
    let here = ended T A g d dx dd in let c = clauses T A g d dx dd 𝓛 𝓜.mem 𝓡.returns in
    let stays : Stays here.signature.params here.kept = (stay_dropped (plain (λ _. BoxedRow R Z LZ g)) no, tt) in
    proved_at 𝓛 here stays c 𝓜 𝓡 (Goes-blank 𝓛 2 (plain (λ _. BoxedRow R Z LZ g)) no (λ κs x f. tt), tt) (#self given) fn (code.unfolded 𝓤 H 𝓜 𝓡 wired (T, (A, tt)) d dx dd) (λ z are.
    let κs = z.0.0 in let qs = z.0.1 in let v = z.0.3.0 in let a = v.alloc in
    let Post : Val → SProp 𝓤 = (walk_of 𝓛 here stays c).post z in let Run : List Val → SProp 𝓤 = λ ws. WpFn 𝓤 H 𝓣.C 𝓣.Λ fn ws Post in
    let tokens = ‵ (flft κs.0 qs.0) ⊛ ‵ (flft κs.1.0 qs.1.0) ⊛ ‵ ftrue in
    qed 𝓛 ((tokens ⊛ ‵ (owns (types_at here.signature.params κs) z.0.3 z.0.4)) ∷ raw ((c κs z.0.3).requires z.1) ∷ []) ∵
    split ! $ move ! (1 ∷ []) $ fsplit ! $ taken_apart R Z LZ g ! v z.0.4.0 (λ b o h e ws fits.
    let w : Val = pair (vptr b o) h in let typed = pair_fits R Z LZ g b o h fits in
    let Called = triple_of 𝓛 (from_raw.signature T A g d dd) (from_raw.spec T A g d dd 𝓛 𝓜.mem 𝓡.returns) in
    let y : Called.Ghost = ((κs, qs, tt, (a, (block_ptr b o, tt)), (h ∷ [], (vptr b o ∷ [], tt))), v.value) in let Left = Lasts (from_raw.ended T A g d dd) κs y.0.3 in
    -- [what lies there; the allocator; the end of the list; the tokens; that the lifetimes are the types'] becomes what the call takes
    move ! (4 ∷ []) $ use1 𝓛 (raw (fact 𝓤 (κs.0 ⊑ T.lives)) ⊛ raw (fact 𝓤 (κs.1.0 ⊑ A.lives)) ⊛ ‵ ftrue) (id⊢ 𝓤 _) $ split3 ! $
    move ! (2 ∷ []) $ drop ! $ move ! (1 ∷ 2 ∷ []) $ join ! $ move ! (1 ∷ 0 ∷ []) $ join ! $
    move ! (2 ∷ []) $ feq_i ! (List Val) (vptr b o ∷ []) (vptr b o ∷ []) refl $ fjoin ! $ move ! (2 ∷ 0 ∷ []) $ fjoin ! $ move ! (2 ∷ 0 ∷ []) $ join ! $ join ! $ use1 𝓛 (raw (Called.pre y)) (id⊢ 𝓤 _) $
    suffices ! (Run (w ∷ [])) (subst (λ (us : List Val). ent 𝓤 (Run (w ∷ [])) (Run us)) (sym (λ i. ws i ++ [])) (id⊢ 𝓤 (Run (w ∷ [])))) $
    enter ! 𝓣.C 𝓣.Λ fn (w ∷ []) Post $ alloc_all ! (λ l. pass_all ! refl (typed, tt) $ let Locals = env fn.locals l in
    sets ! (of_opd ! (get_in ! (fld ! refl (stop !)) (sub ! 0 refl (whole !)))) refl (tt, tt) $ sets ! (of_opd ! (get_in ! (fld ! refl (stop !)) (sub ! 1 refl (whole !)))) refl fits $
    first ! $ blocks ! $ sets ! (of_opd ! (get ! refl)) refl fits $
    calls_at_last ! (fm 𝓛 𝓜 𝓡) Called (met 𝓤 𝓛 𝓜 𝓡 (code.calls-std_alloc::boxed::Box::from_raw 𝓡.env wired) T A L LA g d dd allocator glued) y (and_then ! (get ! refl) (and_then ! (get ! refl) (no_more !))) (λ u.
    use1 𝓛 (later (some (λ (r : B.Denot). (tokens ⊛ ‵ (B.own_val r (u ∷ []))) ⊛ some (λ (ls : Left). ‵ (lasts (from_raw.ended T A g d dd) κs y.0.3 ls) ⊛ (raw (fact 𝓤 (r.value ≡ v.value)) ⊛ raw (fact 𝓤 (r.alloc ≡ a))))))) (id⊢ 𝓤 (Called.post y u)) $
    await ! tt $ pick ! (λ r. split ! $ move ! (1 ∷ []) $ pick ! (λ _. split3 ! $ drop ! $ move ! (2 ∷ []) $ split ! $ move ! (1 ∷ []) $
    box_out Box ! r (u ∷ []) (λ b' o' h' e' us fits'. box_in Box ! r b' o' r.value e' refl $ rewrite ! 0 (λ (xs : List Val). ‵ (B.own_val r xs)) (sym us) refl $
    let good : Good (layout B) u = subst (Good (layout B)) (sym (ap only us)) (pair_fits R Z LZ g b' o' h' fits') in
    lands_last ! refl good $ exec ! 𝓣.C 𝓣.Λ Locals (after 3 fn.body) (at_ret Locals Post) $ sets ! (of_opd ! (get ! refl)) refl good $ nothing ! $ nothing ! $ fjoin ! $
    returns ! (look_at ! 0 refl) $ free_all ! refl $ keep ! (2 ∷ 0 ∷ 1 ∷ 3 ∷ []) $
    by ! (leaves 𝓛 here stays c z u r ((tt, (tt, tt)), tt) (tt, tt)))))))))
