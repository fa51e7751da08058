-- The steps of a close at level 3: the law of each is that of the level's own step, but for the tree and the open files, which the step
-- leaves alone.
use Rattle.gate_schedules.proofs.Prelude.{Action, Bool, ClosePhase, Config, DownRead, DownReadStep, Files, Fits, Fitting, Freeing, HasFile, Holdings}
use Rattle.gate_schedules.proofs.Prelude.{Holds, HookAnswer, IsGood, IsWithin, List, Moves, Next, NodeWord, Ok, Option, Phase, Reply, SameWords, Some}
use Rattle.gate_schedules.proofs.Prelude.{StepKeeps, SyncStep, Traced, Tree, TreeHolds, View, Words, World, after_of, ap, arith, charge, child_charge}
use Rattle.gate_schedules.proofs.Prelude.{down_read_after, each_updated, file_of, found_at, has_open, held_after, held_of, inl, inr, level_in}
use Rattle.gate_schedules.proofs.Prelude.{map_next, next_of, openers, opens_in, phase_after, read, refl, removal, rephased, shown, subst, sym}
use Rattle.gate_schedules.proofs.Prelude.{tree_bounds, tree_of, tree_role_of, tree_roles, true, update, update_at, view_with, words_after, ℕ, ◌<◌}
use Rattle.gate_schedules.proofs.Prelude.{◌∙◌, ◌≡◌, ◌⊎◌}
use Rattle.{composite_ops.specs.file_closes.Phases.{leaves_on, then_frees}, gate_world.specs.{Fits.CloseFits, SameRoles.{SameRolesOffTree, at_phase}}}
use Rattle.{gated_tree.specs.Roles.Out as OffTree, percpu_rwsem.specs.Readers.at_down_read}
use Rattle.gate_schedules.proofs.frames.{Accesses.holdings_of_after, Frames.{left_alone, opens_left}, SameRolesOffTree.{made, made_keeps_off_tree}}
use Rattle.gate_schedules.proofs.{frames.SameRolesOffTree.{made_runs_off_tree, rephased_off_tree, roles_off_tree}, operations.close.Fits.enters_fits}
use Rattle.gate_schedules.proofs.{operations.readers.Laws.{end_phase, read_phase}, trees.{Counts.leaves, worlds.Trees.tree_holds}}

-- what comes after a step at level 3 is beside what comes in its own operation
pub beside_enters : (file p : ℕ) (node : NodeWord) (n : Next DownRead) →
    SameRolesOffTree (phase_after (map_next Phase.DownReads n)) (phase_after (map_next Phase.Closes (then_frees file node p n)))
beside_enters file p node n = grind arith

-- no step of a down-read touches a word of the tree
read_tree : (w : Words) (r : DownRead) (s : DownReadStep) (hook : HookAnswer) → SameWords w (words_after w (Phase.DownReads (at_down_read r s)) hook) Tree
read_tree w r s hook = grind arith

read_opens : (held : Holdings) (r : DownRead) (s : DownReadStep) (found : ℕ) → (held_after (down_read_after r s found).1 held).files ≡ held.files
read_opens held r s found = grind arith

-- a close that is to free a node stays so, or it ends
then_role : (file p : ℕ) (node : NodeWord) (n : Next DownRead) (trace : List Traced) →
    (tree_role_of trace (phase_after (map_next Phase.Closes (then_frees file node p n))) ≡ Freeing file node) ⊎
    (tree_role_of trace (phase_after (map_next Phase.Closes (then_frees file node p n))) ≡ OffTree)
then_role file p node n trace = grind arith

-- and its task has its file open
then_has : (files : ℕ → Bool) (file p : ℕ) (node : NodeWord) (n : Next DownRead) → files file ≡ true →
    HasFile files (file_of (phase_after (map_next Phase.Closes (then_frees file node p n))))
then_has files file p node n own = grind arith

module _ (c : Config) (w : World) (good : IsGood c w) (t : ℕ) (lt : t < c.tasks) where
  -- the open files, where no step has opened or closed one
  files_still : (ws : Words) (v : View) → ws.node ≡ w.words.node → has_open v ≡ has_open (w.views t) → HasFile (has_open v) (file_of v.phase) →
      Holds c (record { words = ws; views = update w.views t v }) Files
  files_still ws v node same own = record {
    counted = λ n ln. ap (λ f. opens_in (f n)) node ∙ (good Files).counted n ln ∙
        sym (ap (λ f. openers f n) (opens_left c w t lt v same));
    own = λ y ly. each_updated (λ z (u : View). HasFile (has_open u) (file_of u.phase)) w.views t v y own (λ ne. (good Files).own y ly);
  }

  -- the tree, where a task that was to free a node stands at a phase that isn't
  tree_left : (file : ℕ) (node : NodeWord) → tree_roles w t ≡ Freeing file node → (ws : Words) (v : View) →
      SameWords w.words ws Tree → tree_role_of v.trace v.phase ≡ OffTree → Holds c (record { words = ws; views = update w.views t v }) Tree
  tree_left file node is ws v same out =
      tree_holds c w good t lt ws v
      (subst (TreeHolds (tree_bounds c))
      (sym (λ i. record {
        sealed = same.4 i;
        bare = same.5 i;
        used = same.0 i;
        removed = same.1 i;
        node = same.2 i;
        kids = same.3 i;
        at = update (tree_roles w) t (out i);
      }))
      (leaves (tree_bounds c) (tree_of w) (good Tree) t lt
      (record { blocks = ap charge is; removed = ap removal is; children = λ d. ap (child_charge d) is })))

  module _ (hook : HookAnswer) (q : Phase) (before : SameRolesOffTree (w.views t).phase (Some q))
      (fits : Fits c t (held_of (w.views t)) (Some q)) (tree : Holds c (rephased w t (Some q)) Tree)
      (files : Holds c (rephased w t (Some q)) Files) where
    -- what comes after the level's step in its own operation, and the action that it adds
    abbrev plain_after : Next Phase
    plain_after = (after_of q (found_at w.words q hook) hook).0

    abbrev plain_action : Option Action
    plain_action = (after_of q (found_at w.words q hook) hook).1

    -- the same step in a state with these words, after which this comes
    abbrev made_in : World → Next Phase → World
    made_in first coming = made first t (next_of q hook) hook coming plain_action

    -- the task stands at the level's phase
    abbrev first_world : World
    first_world = rephased w t (Some q)

    -- where the invariant holds of that state, the law of the level's step is the law of the step after which the longer operation goes on
    abbrev PlainLaw : Type 0
    PlainLaw = IsGood c first_world → (first_world.views t).phase ≡ Some q →
        IsGood c (made_in first_world plain_after) ×
        Moves c (shown c first_world) t plain_action (shown c (made_in first_world plain_after))

    beside_step : PlainLaw → (coming : Next Phase) → SameRolesOffTree (phase_after plain_after) (phase_after coming) →
        Fits c t (held_after plain_action (held_of (w.views t))) (phase_after coming) →
        Holds c (made_in w coming) Tree → Holds c (made_in w coming) Files →
        IsGood c (made_in w coming) × Moves c (shown c w) t plain_action (shown c (made_in w coming))
    beside_step law coming after fit tree_then files_then =
        made_keeps_off_tree c w t lt (Some q) (next_of q hook) hook plain_after coming plain_action good before fits tree files law after fit
        tree_then files_then

-- its phase fits its accesses
pub close_fits_now : (c : Config) (w : World) → IsGood c w → (t : ℕ) → t < c.tasks → (hook : HookAnswer) (x : ClosePhase) →
    (w.views t).phase ≡ Some (Phase.Closes x) → CloseFits c t (held_of (w.views t)) x
close_fits_now c w good t lt hook x e = subst (Fits c t (held_of (w.views t))) e (good Fitting t lt)

module _ (c : Config) (lim : IsWithin c) (w : World) (good : IsGood c w) (t : ℕ) (lt : t < c.tasks) (hook : HookAnswer) where
  -- a step at level 3, with the node to be freed
  pub enters_level : (file : ℕ) (node : NodeWord) (r : DownRead) → (w.views t).phase ≡ Some (Phase.Closes (ClosePhase.Enters file node r)) →
      StepKeeps c w t hook (Phase.Closes (ClosePhase.Enters file node r))
  enters_level file node r e =
      let f : CloseFits c t (held_of (w.views t)) (ClosePhase.Enters file node r) = close_fits_now c w good t lt hook (ClosePhase.Enters file node r) e in
      let own : has_open (w.views t) file ≡ true = subst (λ p. HasFile (has_open (w.views t)) (file_of p)) e ((good Files).own t lt) in
      let is : tree_roles w t ≡ Freeing file node = ap (tree_role_of (w.views t).trace) e in
      let found : ℕ = found_at w.words (Phase.DownReads r) hook in
      let n : Next DownRead = (down_read_after r r.step found).0 in
      let coming : Next Phase = map_next Phase.Closes (then_frees file node r.cpu n) in
      let ws : Words = words_after w.words (Phase.DownReads r) hook in
      let v : View = view_with (w.views t) (next_of (Phase.DownReads r) hook) (read w.words (next_of (Phase.DownReads r) hook).0) hook
      (coming, (down_read_after r r.step found).1) in
      let opens : has_open v ≡ has_open (w.views t) =
      ap (λ (h : Holdings). h.files) (holdings_of_after (down_read_after r r.step found).1 (w.views t).actions) ∙
      read_opens (held_of (w.views t)) r r.step found in
      let before : SameRolesOffTree (w.views t).phase (Some (Phase.DownReads r)) =
      roles_off_tree e refl in
      let same : SameWords w.words ws Tree = read_tree w.words r r.step hook in
      beside_step c w good t lt hook (Phase.DownReads r) before f.2
      (tree_left c w good t lt file node is w.words (at_phase (w.views t) (Some (Phase.DownReads r))) (refl, refl, refl, refl, refl, refl) refl)
      (files_still c w good t lt w.words (at_phase (w.views t) (Some (Phase.DownReads r))) refl refl tt)
      (λ g at. (read_phase c r).step lim (rephased w t (Some (Phase.DownReads r))) g t lt hook at) coming (beside_enters file r.cpu node n)
      (enters_fits c t (held_of (w.views t)) file node r found f)
      (elim (then_role file r.cpu node n v.trace) [
        | inl stays ↦ left_alone c w t lt Tree ws v same (stays ∙ sym is) (good Tree)
        | inr out ↦ tree_left c w good t lt file node is ws v same out
      ])
      (files_still c w good t lt ws v same.2 opens (then_has (has_open v) file r.cpu node n (ap (λ g. g file) opens ∙ own)))

  pub leaves_level : (p : ℕ) → (w.views t).phase ≡ Some (Phase.Closes (ClosePhase.Leaves p)) → StepKeeps c w t hook (Phase.Closes (ClosePhase.Leaves p))
  leaves_level p e =
      let f : CloseFits c t (held_of (w.views t)) (ClosePhase.Leaves p) = close_fits_now c w good t lt hook (ClosePhase.Leaves p) e in
      let q : Phase = Phase.UpReads (leaves_on p) in
      let found : ℕ = found_at w.words q hook in
      let ws : Words = words_after w.words q hook in
      let coming : Next Phase = Next.Done (Ok Reply.Unit) in
      let v : View = view_with (w.views t) (next_of q hook) (read w.words (next_of q hook).0) hook
      (coming, (after_of q found hook).1) in
      let is : tree_roles w t ≡ OffTree = ap (tree_role_of (w.views t).trace) e in
      let before : SameRolesOffTree (w.views t).phase (Some q) = roles_off_tree e refl in
      beside_step c w good t lt hook q before (omega arith, omega arith, f.0, f.1)
      (left_alone c w t lt Tree w.words (at_phase (w.views t) (Some q)) (refl, refl, refl, refl, refl, refl) (sym is) (good Tree))
      (files_still c w good t lt w.words (at_phase (w.views t) (Some q)) refl refl tt)
      (λ g at. (end_phase c (leaves_on p)).step lim (rephased w t (Some q)) g t lt hook at) coming refl tt
      (left_alone c w t lt Tree ws v (refl, refl, refl, refl, refl, refl) (sym is) (good Tree))
      (files_still c w good t lt ws v refl refl tt)

-- a step at level 3 of a task that stands at the level's phase, and after which another phase comes that is beside the level's own
module _ (c : Config) (w : World) (t : ℕ) (lt : t < c.tasks) (hook : HookAnswer) (q : Phase)
    (before : SameRolesOffTree (w.views t).phase (Some q)) (good : IsGood c (rephased w t (Some q))) (coming : Next Phase)
    (after : SameRolesOffTree (phase_after (after_of q (found_at w.words q hook) hook).0) (phase_after coming)) where
  -- what comes after the step in its own operation, and its action
  abbrev own_next : Next Phase
  own_next = (after_of q (found_at w.words q hook) hook).0

  abbrev own_action : Option Action
  own_action = (after_of q (found_at w.words q hook) hook).1

  abbrev then_in : World → Next Phase → World
  then_in first next = made first t (next_of q hook) hook next own_action

  -- it stands at the level's phase there
  stands_there : ((rephased w t (Some q)).views t).phase ≡ Some q
  stands_there = ap (λ (u : View). u.phase) (update_at w.views t (at_phase (w.views t) (Some q)))

  -- so the step is the same kind of step of each level
  pub beside_runs : (i : ℕ) → (IsGood c (rephased w t (Some q)) → ((rephased w t (Some q)).views t).phase ≡ Some q →
      SyncStep c.tasks (level_in (rephased w t (Some q)) i) (level_in (then_in (rephased w t (Some q)) own_next) i)) →
      SyncStep c.tasks (level_in w i) (level_in (then_in w coming) i)
  beside_runs i runs =
      made_runs_off_tree c w t lt (Some q) (next_of q hook) hook own_next coming own_action i before (runs good stands_there) after

-- the states in which a close at level 3 stands at the level's phase: the invariant holds there
module _ (c : Config) (w : World) (good : IsGood c w) (t : ℕ) (lt : t < c.tasks) where
  pub beside_reads : (file : ℕ) (node : NodeWord) (r : DownRead) → (w.views t).phase ≡ Some (Phase.Closes (ClosePhase.Enters file node r)) →
      SameRolesOffTree (w.views t).phase (Some (Phase.DownReads r)) × IsGood c (rephased w t (Some (Phase.DownReads r)))
  beside_reads file node r e =
      let f : CloseFits c t (held_of (w.views t)) (ClosePhase.Enters file node r) =
      subst (Fits c t (held_of (w.views t))) e (good Fitting t lt) in
      let is : tree_roles w t ≡ Freeing file node = ap (tree_role_of (w.views t).trace) e in
      let before : SameRolesOffTree (w.views t).phase (Some (Phase.DownReads r)) =
      roles_off_tree e refl in (
        before,
        rephased_off_tree c w t lt (Some (Phase.DownReads r)) before f.2 good
            (tree_left c w good t lt file node is w.words (at_phase (w.views t) (Some (Phase.DownReads r))) (refl, refl, refl, refl, refl, refl) refl)
            (files_still c w good t lt w.words (at_phase (w.views t) (Some (Phase.DownReads r))) refl refl tt),
      )

  pub beside_ends : (p : ℕ) → (w.views t).phase ≡ Some (Phase.Closes (ClosePhase.Leaves p)) →
      SameRolesOffTree (w.views t).phase (Some (Phase.UpReads (leaves_on p))) × IsGood c (rephased w t (Some (Phase.UpReads (leaves_on p))))
  beside_ends p e =
      let f : CloseFits c t (held_of (w.views t)) (ClosePhase.Leaves p) =
      subst (Fits c t (held_of (w.views t))) e (good Fitting t lt) in
      let is : tree_roles w t ≡ OffTree = ap (tree_role_of (w.views t).trace) e in
      let q : Phase = Phase.UpReads (leaves_on p) in
      let before : SameRolesOffTree (w.views t).phase (Some q) = roles_off_tree e refl in (
        before,
        rephased_off_tree c w t lt (Some q) before (omega arith, omega arith, f.0, f.1) good
            (left_alone c w t lt Tree w.words (at_phase (w.views t) (Some q)) (refl, refl, refl, refl, refl, refl) (sym is) (good Tree))
            (files_still c w good t lt w.words (at_phase (w.views t) (Some q)) refl refl tt),
      )
