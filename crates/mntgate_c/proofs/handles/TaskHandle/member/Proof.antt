-- `member` lends what the pointer of a handle points at, and the handle follows it.
use Rattle.std.proofs.{Common.{List, [], ap, refl, sym, ℕ, ◌∙◌, ◌∷◌, ◌≡◌}, VecSteps.Shapes.after, raw_atomic.Walks.proved}
use Rattle.{std_alloc.specs.Box.Ownership.box_owns, std_heap.specs.contracts.GlobalAllocator.TheImpl.ghosts}
use Rattle.mntgate_c.{proofs.{HandleSteps.{H', handle_in, handle_out, word}, handles.TaskHandle.member.Statement.statement}, specs.Follows.with_state}
use Rattle.mntgate_c.specs.Handles.{heap, holds}
use base.{Fml.{Fml, GName, flft, fsep, ftrue}, Fraction.full_share, Logic.{ent, fst∗, never, sep}}
use contract.{Monad.fact, Running.tables}
use denote.{Exit.no, Follow.{Part, follows, lends_Part}, Memory.{cell_at, lone, mem, part_at, part_of}, RattleType.RattleType}
use denote.{RawPtr.{Ptr, block_ptr, in_a_block, null_ptr}, Ref.{MutRef, mut_Tells, mut_vals}, Signature.{mut_ref_to, plain}}
use denote.{Steps.{heard, nothing, opens}, Triple.Walked.{Goes-spent_ref, Stays, ends_at, says, stay_dropped, walk_of}}
use mathlib.Core.Bool.{Bool, true}
use mir.{Raw.raw as bare, Syntax.named, Val.{Val, vptr}}
use seplogic.Ra.Ura.{Ura}
use types.{ByLocal.{alloc_all, env, free_all, get, look_at, pass_all, sets, sets_last, through}, Kit.{ !, at_ret, await, done, fjoin, fpack, frame}}
use types.Kit.{fsplit, fsplit3, group, join, keep, later, move, pick, qed, raw, rewrite, some, split, suffices, use1, ‵, ◌$◌, ◌∵◌, ◌⊛◌}
use types.{Logic.{Logic, sem}, Part.{look_in, sub, whole}, Run.{addr, blocks, enter, exec, first, fld, load, of_opd, returns, stop}}
use Rattle.mntgate_c.specs.contracts.members.Member as task
use Rattle.mntgate_c.specs.contracts.handles.TaskHandle.member as f
use Rattle.mntgate_c.proofs.handles.TaskHandle.member.Code as code

abbrev R : RattleType
R = task.the_row

abbrev frees : Ptr → Fml
frees p = ghosts.dealloc_token heap (bare (lone R.mir)) p

abbrev stayed : Stays f.ended.signature.params f.ended.kept
stayed = (stay_dropped (mut_ref_to (0 ∷ []) tt (plain (λ _. H'))) no, tt)

module _ {M : Type 1} {𝓤 : Ura M} (𝓛 : Logic 𝓤) (h : H'.Denot) (rb ro b o : ℕ) where
  -- what is left of the handle while its task is lent
  abbrev Rest : Fml
  Rest = fsep (frees (block_ptr b o)) (cell_at full_share H'.mir (word (block_ptr b o) ∷ []) rb ro)

  back : h.at ≡ block_ptr b o → (w : R.Denot) → ent 𝓤 (sep 𝓤 (sem 𝓛 ((mem R).own_at w b o)) (sem 𝓛 Rest)) (sem 𝓛 ((mem H').own_at (with_state h w) rb ro))
  unfolding part_of
  back e w =
      qed 𝓛 (‵ (part_at R full_share w b o) ∷ ‵ Rest ∷ []) ∵ move ! (1 ∷ []) $ fsplit ! $ move ! (2 ∷ 0 ∷ []) $ fjoin ! $
      rewrite ! 0 (λ (p : Ptr). ‵ (box_owns (ghosts.dealloc_token heap) R p w)) (sym e) refl $
      handle_in ! true h.at w $ rewrite ! 1 (λ (p : Ptr). ‵ (cell_at full_share H'.mir (word p ∷ []) rb ro)) (sym e) refl $
      move ! (1 ∷ 0 ∷ []) $ fjoin ! $
      fpack ! (List Val) (λ us. fsep (cell_at full_share H'.mir us rb ro) (H'.own_val (with_state h w) us)) (word h.at ∷ []) $ done !

pub member_spec : {M : Type 1} → statement M
member_spec 𝓤 𝓛 𝓜 𝓡 wired =
    let c = f.clauses 𝓛 𝓜.mem 𝓡.returns in let W = walk_of 𝓛 f.ended stayed c in let 𝓣 = tables 𝓤 𝓛.H 𝓜 𝓡 𝓡.env in
    proved 𝓛 f.ended stayed c 𝓜 𝓡 (Goes-spent_ref 𝓛 1 (0 ∷ []) tt (plain (λ _. H')), tt)
    f.Key.name code.function (code.unfolded 𝓤 𝓛.H 𝓜 𝓡 wired)
    (λ κs. (mut_vals, tt)) (λ κs. (mut_Tells (named 0) κs.0 H', tt)) (λ κs qs bounds a gh are.
    let κ = κs.0 in let q = qs.0 in let r = a.0 in let rb = r.ref_ptr.0 in let ro = r.ref_ptr.1 in let h = r.now in let γ = r.ghost_name in let vs = mut_vals r in
    let y : W.Ghost = ((κs, qs, bounds, a, (vs, tt)), gh) in
    qed 𝓛 (((‵ (flft κ q) ⊛ ‵ ftrue) ⊛ ‵ ((MutRef (named 0) κ H').own_val r vs) ⊛ ‵ ftrue) ∷ raw (fact 𝓤 (h.full ≡ true)) ∷ []) ∵
    move ! (1 ∷ []) $ heard ! (h.full ≡ true) (λ full. split ! $ split ! $ move ! (2 ∷ []) $ split ! $ keep ! (0 ∷ 2 ∷ []) $
    enter ! _ _ _ _ _ $ alloc_all ! (λ l. pass_all ! refl ((tt, tt), tt) $
    fsplit3 ! $ move ! (1 ∷ 2 ∷ 3 ∷ []) $ opens ! tt H' rb ro (λ us.
    move ! (1 ∷ []) $ handle_out ! h us (λ ws. rewrite ! 0 (λ (x : Bool). ‵ (holds x h.at h.state)) full refl $
    in_a_block ! h.at (λ p. box_owns (ghosts.dealloc_token heap) R p h.state) (fst∗ 𝓤 (never 𝓤) (sem 𝓛 (frees null_ptr))) (λ b o e. fsplit ! $
    -- [the task; the right to free it; the handle's cell; the open borrow, in three entries]
    rewrite ! 2 (λ (xs : List Val). ‵ (cell_at full_share H'.mir xs rb ro)) (ws ∙ ap (λ (p : Ptr). word p ∷ []) e) refl $
    first ! $ blocks ! $
    sets ! (of_opd ! (load ! (through ! refl (fld ! refl (stop !))) (look_in ! 2 (sub ! 0 refl (whole !))))) refl (tt, tt) $
    sets ! (of_opd ! (get ! refl)) refl (tt, tt) $
    sets_last ! (addr ! (through ! refl (stop !))) refl (tt, tt) $
    exec ! 𝓣.C 𝓣.Λ (env code.Mir.locals l) (after 1 (code.function).body) (at_ret _ (W.post y)) $
    sets ! (of_opd ! (get ! refl)) refl (tt, tt) $
    move ! (1 ∷ 2 ∷ []) $ fjoin ! $ move ! (2 ∷ 3 ∷ 4 ∷ 1 ∷ 0 ∷ []) $ group ! 5 $
    use1 𝓛 (later (some (λ (γ' : GName). raw (Part 𝓛 H' R (with_state h) (named 0) κ q rb ro b o γ (sem 𝓛 (Rest 𝓛 h rb ro b o)) (back 𝓛 h rb ro b o e) h.state γ'))))
    (lends_Part 𝓛 H' R (with_state h) (named 0) κ q rb ro b o γ (sem 𝓛 (Rest 𝓛 h rb ro b o)) (back 𝓛 h rb ro b o e) (H'.coded.code h) (H'.coded.code h) h.state) $ await ! tt $ pick ! (λ γ'.
    returns ! (look_at ! 0 refl) $ free_all ! refl $ keep ! (0 ∷ []) $
    use1 𝓛 (‵ ((MutRef (named 0) κ R).own_val (record { ref_ptr = (b, o); ghost_name = γ'; now = h.state }) (vptr b o ∷ [])) ⊛ ‵ (flft κ q) ⊛ ‵ (follows H' R γ γ' (with_state h))) (base.Logic.id⊢ 𝓤 _) $
    split ! $ move ! (1 ∷ []) $ split ! $ move ! (2 ∷ 0 ∷ 1 ∷ []) $
    suffices ! _ (ends_at 𝓛 f.ended stayed c y (vptr b o) (record { ref_ptr = (b, o); ghost_name = γ'; now = h.state }) (tt, tt) (tt, tt)) $
    nothing ! $ nothing ! $ fjoin ! $ join ! $ nothing ! $ move ! (2 ∷ 0 ∷ []) $ join ! $ join ! $ frame ! $ says ! refl $ done !)))))))
