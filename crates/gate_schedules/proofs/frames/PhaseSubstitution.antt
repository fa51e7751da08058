-- An operation that stands at a phase of another one, as a part of its own: the law of the other's step is the law of its step.
use Rattle.gate_schedules.proofs.Prelude.{Action, Config, Files, Fits, Holds, HookAnswer, IsGood, Moves, Next, Option, Phase, Touch, Tree, View}
use Rattle.gate_schedules.proofs.Prelude.{WordName, World, ap, held_after, held_of, phase_after, refl, roles_of, shown, subst, sym, update_at, ℕ, ◌<◌}
use Rattle.gate_schedules.proofs.Prelude.{◌∙◌, ◌≡◌}
use Rattle.gate_schedules.proofs.frames.{Frames.left_alone, SameRolesOffTree.{made, made_again, made_keeps_off_tree, rephased_off_tree}}
use Rattle.gate_world.specs.SameRoles.{Roles, SameRoles, at_phase, off_tree, rephased}

pub alike_of : {p q : Option Phase} {r : Roles} → p ≡ q → r ≡ roles_of q → r ≡ roles_of p
alike_of e h = h ∙ sym (ap roles_of e)

module _ (c : Config) (w : World) (t : ℕ) (lt : t < c.tasks) (q : Option Phase) (same : SameRoles (w.views t).phase q) where
  rephased_tree : Holds c w Tree → Holds c (rephased w t q) Tree
  rephased_tree h =
      left_alone c w t lt Tree w.words (at_phase (w.views t) q) (refl, refl, refl, refl, refl, refl) (λ j. (same j).tree (w.views t).trace) h

  rephased_files : Holds c w Files → Holds c (rephased w t q) Files
  rephased_files h = left_alone c w t lt Files w.words (at_phase (w.views t) q) refl (refl, λ j. (same j).file) h

  pub rephased_good : Fits c t (held_of (w.views t)) q → IsGood c w → IsGood c (rephased w t q)
  rephased_good fits good = rephased_off_tree c w t lt q (λ j. off_tree (same j)) fits good (rephased_tree (good Tree)) (rephased_files (good Files))

-- a step of a task that stands at one phase, and of the same task at another phase that is alike
module _ (c : Config) (w : World) (t : ℕ) (lt : t < c.tasks) (p : Option Phase) (n : WordName × Touch) (hook : HookAnswer)
    (a b : Next Phase) (action : Option Action) where
  -- what the law of the first says of the invariant and of the shown state, it says of the second
  pub made_keeps : IsGood c w → SameRoles (w.views t).phase p → Fits c t (held_of (w.views t)) p →
      (IsGood c (rephased w t p) → ((rephased w t p).views t).phase ≡ p →
      IsGood c (made (rephased w t p) t n hook a action) ×
      Moves c (shown c (rephased w t p)) t action (shown c (made (rephased w t p) t n hook a action))) →
      SameRoles (phase_after a) (phase_after b) →
      Fits c t (held_after action (held_of (w.views t))) (phase_after b) →
      IsGood c (made w t n hook b action) × Moves c (shown c w) t action (shown c (made w t n hook b action))
  made_keeps good before fits law after fits_after =
      let first : World = rephased w t p in
      let there : World = made first t n hook a action in
      let again : rephased there t (phase_after b) ≡ made w t n hook b action = made_again c w t lt p n hook a b action in
      let l : IsGood c there × Moves c (shown c first) t action (shown c there) =
      law (rephased_good c w t lt p before fits good) (ap (λ (x : View). x.phase) (update_at w.views t (at_phase (w.views t) p))) in
      let same : SameRoles (there.views t).phase (phase_after b) =
      alike_of (ap (λ (x : View). x.phase) (update_at first.views t _)) after in
      made_keeps_off_tree c w t lt p n hook a b action good (λ j. off_tree (before j)) fits (rephased_tree c w t lt p before (good Tree))
      (rephased_files c w t lt p before (good Files)) law (λ j. off_tree (after j)) fits_after
      (subst (λ x. Holds c x Tree) again (rephased_tree c there t lt (phase_after b) same (l.0 Tree)))
      (subst (λ x. Holds c x Files) again (rephased_files c there t lt (phase_after b) same (l.0 Files)))
