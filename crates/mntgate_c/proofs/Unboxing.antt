-- The machine value of an `Unboxed`: its pointer and its allocator's. Assumes `Logic`.
use Rattle.std.proofs.Common.{List, [], refl, subst, ℕ, ◌++◌, ◌∷◌, ◌≡◌}
use Rattle.core.{proofs.{alloc.Calls.{Al, handle_tells}, cell.Inside.Good}, specs.declared.alloc.Allocator.Ghosts}
use Rattle.std_alloc.{proofs.ResultValues.and_tt, specs.Box.Ownership.box_owns}
use base.Logic.{fst∗, never}
use denote.{Builtin.RawPtr, Memory.lone, Param.{Laws.Laws, layout}, RattleType.{RattleType, Valss}}
use denote.{RawPtr.{Ptr, block_ptr, in_a_block, null_ptr, ptr_val}, Steps.nothing, Struct.{Owning.shape, Struct.within}}
use lib.Dec.{T}
use mathlib.Core.Bool.{true, ◌&&◌}
use mir.{Raw.raw as bare, Syntax.{dnil, impl, tnil}, Val.{Val, WT, has_ty, of_list, vcons, vnil, vptr, vstruct}}
use seplogic.Ra.Ura.{Ura}
use types.{Kit.{Goal, Item, Seq, Step, drop, feq_i, feq_l, fjoin, fpack, fpick, fsplit, move, step, ‵, ◌$◌}, Logic.{Logic, sem}}
use Rattle.mntgate_c.specs.contracts.unboxed.Unboxed as unboxed

abbrev pub pair : Val → Val → Val
pair v w = vstruct (vcons v (vcons w vnil))

-- of a value of the row R, with an allocator of the row Z
module _ (R Z : RattleType) (L : Laws Z) (g : Ghosts Z.Denot) where
  abbrev pub BoxedRow : RattleType
  BoxedRow = unboxed.the_row R Z g

  abbrev pub heap_of : Al
  heap_of = record { row = Z; laws = L; g = g; d = impl [] tnil dnil; drops = impl [] tnil dnil }

  pub pair_fits : (b o : ℕ) (h : Val) → Good (layout Z) h → T (has_ty (layout Z) h && true) × WT (pair (vptr b o) h)
  pair_fits b o h fits = (and_tt (has_ty (layout Z) h) fits.0, (tt, (fits.1, tt)))

  module _ {M : Type 1} {𝓤 : Ura M} {𝓛 : Logic 𝓤} {K : Type 0} {Γ : List (Item 𝓤)} {G : Goal 𝓤 𝓛.H} where
    -- [what lies at the pointer, with the right to free it; the allocator]
    pub taken_apart : K → (u : BoxedRow.Denot) (vs : List Val)
        → ((b o : ℕ) (h : Val) → u.at ≡ block_ptr b o → vs ≡ pair (vptr b o) h ∷ [] → Good (layout Z) h
        → Seq K 𝓛 (‵ (box_owns (g.dealloc_token u.alloc) R (block_ptr b o) u.value) ∷ ‵ (Z.own_val u.alloc (h ∷ [])) ∷ Γ) G)
        → Seq K 𝓛 (‵ (BoxedRow.own_val u vs) ∷ Γ) G
    taken_apart t u vs k =
        fsplit t $ fpick t (λ parts. fsplit t $ feq_l t (λ whole. fsplit t $ feq_l t (λ first. fsplit t $ handle_tells heap_of t u.alloc parts.1.0 (λ h second fits. move t (1 ∷ []) $ drop t $ move t (1 ∷ []) $
        in_a_block t u.at (λ p. box_owns (g.dealloc_token u.alloc) R p u.value) (fst∗ 𝓤 (never 𝓤) (sem 𝓛 (g.dealloc_token u.alloc (bare (lone R.mir)) null_ptr))) (λ b o e.
        let both : vs ≡ vstruct (of_list (ptr_val u.at ∷ (parts.1.0 ++ []))) ∷ [] = subst (λ (ps : List Val). vs ≡ vstruct (of_list (ps ++ (parts.1.0 ++ []))) ∷ []) first whole in
        let told : vs ≡ vstruct (of_list (ptr_val u.at ∷ h ∷ [])) ∷ [] = subst (λ (hs : List Val). vs ≡ vstruct (of_list (ptr_val u.at ∷ (hs ++ []))) ∷ []) second both in
        k b o h e (subst (λ (p : Ptr). vs ≡ vstruct (of_list (ptr_val p ∷ h ∷ [])) ∷ []) e told) fits)))))

    pub put_together : K → (b o : ℕ) (h : Val) (a : Z.Denot) (x : R.Denot)
        → Step K 𝓛 (‵ (BoxedRow.own_val (record { at = block_ptr b o; alloc = a; value = x }) (pair (vptr b o) h ∷ [])) ∷ Γ) G (‵ (box_owns (g.dealloc_token a) R (block_ptr b o) x) ∷ ‵ (Z.own_val a (h ∷ [])) ∷ Γ) G
    put_together t b o h a x = step (λ s. let v : Val = pair (vptr b o) h in
        nothing t $ move t (2 ∷ 0 ∷ []) $ fjoin t $ feq_i t (List Val) (vptr b o ∷ []) (vptr b o ∷ []) refl $ fjoin t $ feq_i t (List Val) (v ∷ []) (v ∷ []) refl $ fjoin t $
        fpack t (Valss (RawPtr ∷ Z ∷ [])) (within (shape (unboxed.the_type R Z g)) (block_ptr b o, (a, tt)) (v ∷ [])) (vptr b o ∷ [], (h ∷ [], tt)) $ fjoin t $ s)
