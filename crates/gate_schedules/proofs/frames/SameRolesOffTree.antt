-- An operation that stands at a phase of another one, and relies on something at the tree meanwhile, as a last close does inside level 3:
-- the law of the other's step is the law of its step, but for the tree and the open files, which the step leaves alone.
use Rattle.gate_schedules.proofs.Prelude.{Action, AtLevel, AtMount, Bool, Config, Files, Fits, Fitting, Holding, Holds, HookAnswer, IsGood, Known}
use Rattle.gate_schedules.proofs.Prelude.{Moves, Next, Option, Owner, Part, Phase, Sections, Stages, SyncAt, SyncStep, Touch, Tree, View, ViewFits}
use Rattle.gate_schedules.proofs.Prelude.{WordName, World, added_by, ap, arith, each_updated, false, held_after, held_of, if◌then◌else◌, left}
use Rattle.gate_schedules.proofs.Prelude.{level_added_by, level_in, level_taken_by, phase_after, put, read, refl, roles_of, shown, subst, sym}
use Rattle.gate_schedules.proofs.Prelude.{taken_by, true, true≢false, update, update_at, view_with, ℕ, ◌<◌, ◌∙◌, ◌≡◌}
use Rattle.gate_schedules.proofs.frames.{Accesses.holdings_of_after, ByPhase.closing_as, Frames.{left_alone, same_words, shown_still}}
use Rattle.gate_schedules.proofs.levels.Steps.{level_kept}
use Rattle.gate_world.specs.{Rules.SameView, SameRoles.{Roles, SameRolesOffTree, at_phase, off_tree, rephased}}

pub roles_off_tree : {p q : Option Phase} {r : Roles} → p ≡ q → r ≡ off_tree (roles_of q) → r ≡ off_tree (roles_of p)
roles_off_tree e h = h ∙ sym (ap (λ p. off_tree (roles_of p)) e)

-- the parts that read of a view no more than its accesses, its net additions and its roles but those at the tree
abbrev is_off_tree : Part → Bool
is_off_tree Fitting = false
is_off_tree Known = false
is_off_tree Tree = false
is_off_tree Files = false
is_off_tree part = true

-- a view holds what the other holds, and has counted what the other has
pub record SameCounts (old new : View) : Type 0 where
  pub held_same : held_of new ≡ held_of old
  pub added_same : added_by new.events ≡ added_by old.events
  pub taken_same : taken_by new.events ≡ taken_by old.events
  pub level_added_same : level_added_by new.events ≡ level_added_by old.events
  pub level_taken_same : level_taken_by new.events ≡ level_taken_by old.events

-- One law for what changes no word and of roles only those at the tree, be it a beginning, a load or a phase that stands for another.
module _ (c : Config) (w : World) (t : ℕ) (lt : t < c.tasks) (v : View) (counts : SameCounts (w.views t) v)
    (same : SameRolesOffTree (w.views t).phase v.phase) where
  seen_off_tree : (part : Part) → is_off_tree part ≡ true → SameView (w.views t) v part
  seen_off_tree Owner h = (λ j. (same j).owns, λ j. (same j).remounts)
  seen_off_tree Stages h = λ j. (same j).stage
  seen_off_tree Holding h = λ j. (same j).holder
  seen_off_tree (AtMount m) h = λ j. record {
    held = (counts.held_same j).mounts m;
    added = counts.added_same j m;
    taken = counts.taken_same j m;
    role = (same j).mount m;
  }
  seen_off_tree (AtLevel i) h = λ j. record {
    held = if (counts.held_same j).levels i then 1 else 0;
    added = counts.level_added_same j i;
    taken = counts.level_taken_same j i;
    role = (same j).count i;
  }
  seen_off_tree (SyncAt i) h = λ j. (same j).sync i
  seen_off_tree Sections h = λ j. (same j).inside
  seen_off_tree part h = absurd (true≢false (sym h))

  -- each conjunct of the invariant holds with it, where the four others do
  pub good_off_tree : ViewFits c t v → IsGood c w → Holds c (record { words = w.words; views = update w.views t v }) Known →
      Holds c (record { words = w.words; views = update w.views t v }) Tree →
      Holds c (record { words = w.words; views = update w.views t v }) Files →
      (part : Part) → Holds c (record { words = w.words; views = update w.views t v }) part
  good_off_tree fits good known tree files part = grind (arith, each_updated, left_alone, same_words, seen_off_tree)

  -- the shown state is the same
  pub view_shown_off_tree : shown c (record { words = w.words; views = update w.views t v }) ≡ shown c w
  view_shown_off_tree =
      shown_still c w t lt w.words v refl refl refl refl refl refl refl (closing_as _ _ (λ j. (same j).stage)) counts.held_same

-- the same accesses and steps count the same
pub same_counts : (v : View) (q : Option Phase) → SameCounts v (at_phase v q)
same_counts v q = assumption

module _ (c : Config) (w : World) (t : ℕ) (lt : t < c.tasks) (q : Option Phase) (same : SameRolesOffTree (w.views t).phase q) where
  -- what an owner knows, its trace tells
  known_off_tree : Holds c w Known → Holds c (rephased w t q) Known
  known_off_tree = left_alone c w t lt Known w.words (at_phase (w.views t) q) (same_words w.words Known) (λ j. (same j).owns, refl)

  -- so with the other phase, where the tree and the open files do
  pub rephased_off_tree : Fits c t (held_of (w.views t)) q → IsGood c w → Holds c (rephased w t q) Tree →
      Holds c (rephased w t q) Files → IsGood c (rephased w t q)
  rephased_off_tree fits good tree files =
      good_off_tree c w t lt (at_phase (w.views t) q) (same_counts (w.views t) q) same fits good (known_off_tree (good Known)) tree files

  pub shown_off_tree : shown c (rephased w t q) ≡ shown c w
  shown_off_tree = view_shown_off_tree c w t lt (at_phase (w.views t) q) (same_counts (w.views t) q) same

pub level_off_tree : (w : World) (t : ℕ) (q : Option Phase) → SameRolesOffTree (w.views t).phase q → (i : ℕ) →
    level_in (rephased w t q) i ≡ level_in w i
level_off_tree w t q same i =
    level_kept w t i w.words (at_phase (w.views t) q) refl refl refl refl (λ j. (same j).inside) (λ j. (same j).sync i)

pub update_twice : {A : Type 0} (f : ℕ → A) (t : ℕ) (u v : A) → update (update f t u) t v ≡ update f t v
update_twice f t u v = grind arith

-- the state after a step of this word and touch, after which this comes
abbrev pub made : World → ℕ → WordName × Touch → HookAnswer → Next Phase → Option Action → World
made w t n hook coming action = record {
  words = put w.words n.0 (left n.1 (read w.words n.0));
  views = update w.views t (view_with (w.views t) n (read w.words n.0) hook (coming, action));
}

-- a step of a task that stands at one phase, and of the same task at another phase that is beside it
module _ (c : Config) (w : World) (t : ℕ) (lt : t < c.tasks) (p : Option Phase) (n : WordName × Touch) (hook : HookAnswer)
    (a b : Next Phase) (action : Option Action) where
  -- the step of the first, done again at the second's phases, is the step of the second
  pub made_again : rephased (made (rephased w t p) t n hook a action) t (phase_after b) ≡ made w t n hook b action
  made_again = grind arith

  -- so what the law of the first says of the invariant and of the shown state, it says of the second, where the tree and the open files hold with the
  -- first phase before the step, and with the second's after it
  pub made_keeps_off_tree : IsGood c w → SameRolesOffTree (w.views t).phase p → Fits c t (held_of (w.views t)) p →
      Holds c (rephased w t p) Tree → Holds c (rephased w t p) Files →
      (IsGood c (rephased w t p) → ((rephased w t p).views t).phase ≡ p →
      IsGood c (made (rephased w t p) t n hook a action) ×
      Moves c (shown c (rephased w t p)) t action (shown c (made (rephased w t p) t n hook a action))) →
      SameRolesOffTree (phase_after a) (phase_after b) →
      Fits c t (held_after action (held_of (w.views t))) (phase_after b) →
      Holds c (made w t n hook b action) Tree → Holds c (made w t n hook b action) Files →
      IsGood c (made w t n hook b action) × Moves c (shown c w) t action (shown c (made w t n hook b action))
  made_keeps_off_tree good before fits tree files law after fits_after tree_then files_then =
      let v : View = at_phase (w.views t) p in
      let u : View = view_with v n (read w.words n.0) hook (a, action) in
      let first : World = rephased w t p in
      let there : World = made first t n hook a action in
      let again : rephased there t (phase_after b) ≡ made w t n hook b action = made_again in
      let l : IsGood c there × Moves c (shown c first) t action (shown c there) =
      law (rephased_off_tree c w t lt p before fits good tree files) (ap (λ (x : View). x.phase) (update_at w.views t v)) in
      let is : there.views t ≡ u = update_at first.views t _ ∙ ap (λ x. view_with x n (read w.words n.0) hook (a, action))
      (update_at w.views t v) in
      let same : SameRolesOffTree (there.views t).phase (phase_after b) = roles_off_tree (ap (λ (x : View). x.phase) is) after in
      let fit : Fits c t (held_of u) (phase_after b) =
      subst (λ h. Fits c t h (phase_after b)) (sym (holdings_of_after action (w.views t).actions)) fits_after in
      let fit_there : Fits c t (held_of (there.views t)) (phase_after b) =
      subst (λ (x : View). Fits c t (held_of x) (phase_after b)) (sym is) fit in (
        subst (λ x. IsGood c x) again (rephased_off_tree c there t lt (phase_after b) same fit_there l.0
            (subst (λ x. Holds c x Tree) (sym again) tree_then) (subst (λ x. Holds c x Files) (sym again) files_then)),
        subst (λ s. Moves c s t action (shown c (made w t n hook b action))) (shown_off_tree c w t lt p before)
            (subst (λ s. Moves c (shown c first) t action s) (sym (shown_off_tree c there t lt (phase_after b) same) ∙
            ap (shown c) again) l.1),
      )

  -- and where the step of the first is one of this level's, so is that of the second
  pub made_runs_off_tree : (i : ℕ) → SameRolesOffTree (w.views t).phase p →
      SyncStep c.tasks (level_in (rephased w t p) i) (level_in (made (rephased w t p) t n hook a action) i) →
      SameRolesOffTree (phase_after a) (phase_after b) → SyncStep c.tasks (level_in w i) (level_in (made w t n hook b action) i)
  made_runs_off_tree i before runs after =
      let there : World = made (rephased w t p) t n hook a action in
      let is : (there.views t).phase ≡ phase_after a = ap (λ (u : View). u.phase) (update_at (rephased w t p).views t _) in
      subst (λ l. SyncStep c.tasks l (level_in (made w t n hook b action) i)) (level_off_tree w t p before i)
      (subst (SyncStep c.tasks (level_in (rephased w t p) i))
      (sym (level_off_tree there t (phase_after b) (roles_off_tree is after) i) ∙ ap (λ y. level_in y i) made_again) runs)
