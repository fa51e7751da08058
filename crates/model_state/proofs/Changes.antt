-- One task's accesses change: the list of all tasks' accesses, seen as a function, changes at that task alone.
use Rattle.std.proofs.Common.{Bool, List, None, Option, ap, false, get_or, get_or-set_other, get_or-set_same, inl, inr, length, set, slice_index}
use Rattle.std.proofs.{Common.{slice_index_or, subst, sym, ℕ, ◌<◌, ◌∙◌, ◌≡◌}, Math.Path.fun_ext, lemmas.{Bool.Decides.eqb_tells, List.get_or_default}}
use Rattle.{access_model.specs.declared.actions.NodeInfo.NodeInfo, finite_sums.{proofs.Totals.update_same, specs.Sums.update}}
use Rattle.model_state.specs.{Shown.{held_of, inside_of, nothing, opens_of, tree_of}, declared.model.Accesses.Accesses}

-- what is read of a list with one place changed is what was read of it, changed at that place
pub map_set :
    {A B : Type 0} (g : A → B) (xs : List A) (t : ℕ) (v d : A) → t < length xs →
    (λ x. g (get_or (set xs t v) x d)) ≡ update (λ x. g (get_or xs x d)) t (g v)
map_set g xs t v d lt = fun_ext (λ x.
    elim (eqb_tells x t) [
      | inl h ↦ rw (h.0, update) (ap g (subst (λ y. get_or (set xs t v) y d ≡ v) (sym h.1) (get_or-set_same xs t v d lt)))
      | inr h ↦ rw (h.0, update) (ap g (get_or-set_other xs t x v d h.1))
    ])

-- one node changes as `f` says
pub node_after :
    (nodes : List (Option NodeInfo)) (n : ℕ) → n < length nodes → (old new : Option NodeInfo) → old ≡ get_or nodes n old →
    (f : Option NodeInfo → Option NodeInfo) → new ≡ f old → tree_of (set nodes n new) ≡ update (tree_of nodes) n (f (tree_of nodes n))
node_after nodes n lt old new is f e =
    map_set (λ x. x) nodes n new None lt ∙ ap (update (tree_of nodes) n) (e ∙ ap f (is ∙ sym (get_or_default nodes n None old lt)))

-- one task's accesses change from old to new
module _ (all : List Accesses) (t : ℕ) (lt : t < length all) (old new : Accesses) (is : old ≡ get_or all t old) where
  -- the task's accesses in the list are the old ones
  old_is : get_or all t nothing ≡ old
  old_is = get_or_default all t nothing old lt ∙ sym is

  -- a change of the task's accesses at mounts changes what all tasks hold at that task alone
  pub held_after :
      (f : (ℕ → ℕ) → ℕ → ℕ) → slice_index new.mounts ≡ f (slice_index old.mounts) →
      held_of (set all t new) ≡ update (held_of all) t (f (held_of all t))
  held_after f e =
      map_set (λ a. slice_index a.mounts) all t new nothing lt ∙
      ap (update (held_of all) t) (e ∙ ap (λ (a : Accesses). f (slice_index a.mounts)) (sym old_is))

  -- and so does a change of its levels
  pub inside_after :
      (f : (ℕ → Bool) → ℕ → Bool) → (λ i. slice_index_or new.levels i false) ≡ f (λ i. slice_index_or old.levels i false) →
      inside_of (set all t new) ≡ update (inside_of all) t (f (inside_of all t))
  inside_after f e =
      map_set (λ a i. slice_index_or a.levels i false) all t new nothing lt ∙
      ap (update (inside_of all) t) (e ∙ ap (λ (a : Accesses). f (λ i. slice_index_or a.levels i false)) (sym old_is))

  -- a change of the task's open files changes what all tasks have open at that task alone
  pub open_after :
      (f : (ℕ → Bool) → ℕ → Bool) → (λ n. slice_index_or new.files n false) ≡ f (λ n. slice_index_or old.files n false) →
      opens_of (set all t new) ≡ update (opens_of all) t (f (opens_of all t))
  open_after f e =
      map_set (λ a n. slice_index_or a.files n false) all t new nothing lt ∙
      ap (update (opens_of all) t) (e ∙ ap (λ (a : Accesses). f (λ n. slice_index_or a.files n false)) (sym old_is))

  -- what the change leaves, all tasks keep
  pub held_kept : new.mounts ≡ old.mounts → held_of (set all t new) ≡ held_of all
  held_kept e = held_after (λ f. f) (ap slice_index e) ∙ update_same (held_of all) t

  pub inside_kept : new.levels ≡ old.levels → inside_of (set all t new) ≡ inside_of all
  inside_kept e = inside_after (λ f. f) (ap {B = ℕ → Bool} (λ (x : List Bool) i. slice_index_or x i false) e) ∙ update_same (inside_of all) t

  pub open_kept : new.files ≡ old.files → opens_of (set all t new) ≡ opens_of all
  open_kept e = open_after (λ f. f) (ap {B = ℕ → Bool} (λ (x : List Bool) n. slice_index_or x n false) e) ∙ update_same (opens_of all) t
