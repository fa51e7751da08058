-- The tree of a state, as the laws of the tree have it: what a step of a task leaves of it, and what it shows.
use Rattle.gate_schedules.proofs.Prelude.{Action, AreWithin, Bool, CleanBelow, Clearing, Config, DownWriteStep, Fits, Fitting, FreezeFits, FreezeStep}
use Rattle.gate_schedules.proofs.Prelude.{Freezing, Holder, Holds, IsGood, IsWithin, KnowsStage, List, NobodyReads, None, Option, Phase, PhaseFits}
use Rattle.gate_schedules.proofs.Prelude.{RemountFits, RemountStep, RoleHolds, Some, Stages, ThawStep, Traced, Tree, TreeHolds, TreePhase, TreeState}
use Rattle.gate_schedules.proofs.Prelude.{UpWriteStep, View, Words, World, ap, arith, dirty_in, eqb_tells, false, freeze_stage_role, held_of, inl}
use Rattle.gate_schedules.proofs.Prelude.{inr, is_bare_at, marks_of, nat_lt, node_shown, refl, remount_stage_role, stage_role_of, stage_roles, subst}
use Rattle.gate_schedules.proofs.Prelude.{sym, total_none, tree_bounds, tree_of, tree_role_of, tree_roles, true, update, ℕ, ◌<◌, ◌≡◌, ◌≤◌}
use Rattle.std.proofs.lemmas.Bool.{le-leb}
use Rattle.{access_model.specs.States.{IsDirectory, is_dirty}, freeze_laws.specs.stages.Roles.{MarksHold, clean_by}}
use Rattle.freeze_levels.specs.declared.freezes.FreezeStep.TheVariants.{Closes}
use Rattle.gate_world.specs.{Roles.{freeze_tree_role, place_of, remount_tree_role, reopening_role, thaw_stage_role, tree_stage_role}, Trees.is_sealed}
use Rattle.gate_world.specs.declared.work.Phase.TheVariants.{Closes}
use Rattle.{gated_tree.specs.Roles.{sealed_by, words_read}, node_words.specs.Nodes.kind_in}
use Rattle.gate_schedules.{proofs.trees.Each.each_event, specs.trees.Events.Event}

pub tree_within : (c : Config) → IsWithin c → AreWithin (tree_bounds c)
tree_within c within = record { tasks = within.tasks; some_node = within.some_node; nodes = within.nodes; capacity = within.capacity }

pub sealed_frozen : (sb stage : ℕ) → 3 ≤ stage → sealed_by sb stage ≡ 1
sealed_frozen sb stage h = elim (eqb_tells sb 1) [ inl e ↦ rw e.0 refl | inr e ↦ rw (e.0, le-leb 3 stage h) refl ]

pub sealed_read_only : (sb stage : ℕ) → sb ≡ 1 → sealed_by sb stage ≡ 1
sealed_read_only sb stage e = rw e refl

free_shown : (word : ℕ) → kind_in word ≡ 0 → node_shown word ≡ None
free_shown word free = rw free refl

pub shown_clean : (word : ℕ) → (kind_in word ≡ 0 → word ≡ 0) → is_dirty (node_shown word) ≡ false → dirty_in word ≡ 0
shown_clean word free clean = grind arith

module _ (c : Config) (w : World) (good : IsGood c w) (t : ℕ) (lt : t < c.tasks) (ws : Words) (v : View) where
  -- the tree of the state after a step of this task
  abbrev pub tree_then : TreeState
  tree_then = record {
    sealed = is_sealed ws;
    bare = is_bare_at ws;
    used = ws.used;
    removed = ws.removed;
    node = ws.node;
    kids = ws.kids;
    at = update (tree_roles w) t (tree_role_of v.trace v.phase);
  }

  pub tree_moves : tree_of (record { words = ws; views = update w.views t v }) ≡ tree_then
  tree_moves = grind arith

  pub tree_holds : TreeHolds (tree_bounds c) tree_then → Holds c (record { words = ws; views = update w.views t v }) Tree
  tree_holds h = subst (TreeHolds (tree_bounds c)) (sym tree_moves) h

  -- where the step is one of the tree's, all holds of it again, and the nodes that are shown move by its action
  pub tree_after : IsWithin c → (action : Option Action) → Event (tree_bounds c) (tree_of w) t tree_then action →
      Holds c (record { words = ws; views = update w.views t v }) Tree
  tree_after within action event =
      tree_holds (each_event (tree_bounds c) (tree_within c within) (tree_of w) (good Tree) t lt tree_then action event).0

-- what a task is at says of its accesses
module _ (c : Config) (w : World) (good : IsGood c w) where
  root_there : kind_in (w.words.node 0) ≡ 0 → ⊥
  root_there free = subst IsDirectory (free_shown (w.words.node 0) free) (good Tree).root

  cleared_clean : (n : ℕ) → n ≤ c.nodes → (t : ℕ) → t < c.tasks → tree_roles w t ≡ Clearing n → CleanBelow n (marks_of w.words)
  cleared_clean n le t lt is m lm =
      let h : RoleHolds (tree_bounds c) w.words.used w.words.removed w.words.node w.words.kids (Clearing n) =
      subst (RoleHolds (tree_bounds c) w.words.used w.words.removed w.words.node w.words.kids) is ((good Tree).roles t lt) in
      shown_clean (w.words.node m) ((good Tree).words m (omega (arith, lm, le))).packed.free (h m lm)

  -- the root has none, once a clearing has begun
  first_clean : (t : ℕ) → t < c.tasks → tree_roles w t ≡ Clearing 1 → CleanBelow 1 (marks_of w.words)
  first_clean t lt is m lm =
      let h : RoleHolds (tree_bounds c) w.words.used w.words.removed w.words.node w.words.kids (Clearing 1) =
      subst (RoleHolds (tree_bounds c) w.words.used w.words.removed w.words.node w.words.kids) is ((good Tree).roles t lt) in
      let zero_is : m ≡ 0 = omega (arith, lm) in
      shown_clean (w.words.node m) (λ e. absurd (root_there (subst (λ n. kind_in (w.words.node n) ≡ 0) zero_is e))) (h m lm)

  all_clean : is_sealed w.words ≡ 1 → CleanBelow c.nodes (marks_of w.words)
  all_clean sealed m lm = shown_clean (w.words.node m) ((good Tree).words m lm).packed.free ((good Tree).clean sealed m lm)

  none_clean : CleanBelow 0 (marks_of w.words)
  none_clean m lm = absurd (omega (arith, lm))

  closing_clean : (level : ℕ) (s : DownWriteStep) (owner : Bool) →
      CleanBelow (clean_by (Freezing level (place_of s) owner)) (marks_of w.words)
  closing_clean level s owner = grind (arith, none_clean)

  reopening_clean : (level : ℕ) (s : UpWriteStep) → CleanBelow (clean_by (reopening_role level s)) (marks_of w.words)
  reopening_clean level s = grind arith

  -- those that a remount has cleared
  remount_clean : (nodes : ℕ) (s : RemountStep) (t : ℕ) → t < c.tasks → nodes ≡ c.nodes → RemountFits c s →
      tree_roles w t ≡ remount_tree_role nodes s → KnowsStage w.words.stage w.words.sb (remount_stage_role nodes s) →
      CleanBelow (clean_by (remount_stage_role nodes s)) (marks_of w.words)
  remount_clean nodes (RemountStep.ClearsHold held) t lt same fits is knows = first_clean t lt is
  remount_clean nodes (RemountStep.ClearsMark n) t lt same fits is knows = cleared_clean n (omega (arith, fits.1)) t lt is
  remount_clean nodes RemountStep.SetsReadOnly t lt same fits is knows = cleared_clean nodes (omega (arith, same)) t lt is
  remount_clean nodes RemountStep.ClearsRemount t lt same fits is knows =
      subst (λ n. CleanBelow n (marks_of w.words)) (sym same) (all_clean (sealed_read_only w.words.sb w.words.stage knows.1))
  remount_clean nodes s t lt same fits is knows = none_clean

  -- those that a freeze has cleared
  freeze_clean : (nodes : ℕ) (holder : Holder) (s : FreezeStep) (t : ℕ) → t < c.tasks → nodes ≡ c.nodes → FreezeFits c holder s →
      tree_roles w t ≡ freeze_tree_role nodes s → CleanBelow (clean_by (freeze_stage_role nodes s)) (marks_of w.words)
  freeze_clean nodes holder (Closes d) t lt same fits is = closing_clean d.level d.step (nat_lt 1 d.level)
  freeze_clean nodes holder (FreezeStep.Waits d) t lt same fits is = closing_clean d.level d.step (nat_lt 1 d.level)
  freeze_clean nodes holder (FreezeStep.Undoes level transition code) t lt same fits is = closing_clean level DownWriteStep.SetsBlock (nat_lt 1 level)
  freeze_clean nodes holder (FreezeStep.GivesUp level code) t lt same fits is = closing_clean level DownWriteStep.SetsBlock true
  freeze_clean nodes holder (FreezeStep.Cleans marks) t lt same fits is = cleared_clean marks.node (omega (arith, fits.2)) t lt is
  freeze_clean nodes holder FreezeStep.SetsFs t lt same fits is = cleared_clean nodes (omega (arith, same)) t lt is
  freeze_clean nodes holder (FreezeStep.Reopens u code) t lt same fits is = reopening_clean u.level u.step
  freeze_clean nodes holder s t lt same fits is = none_clean

  thaw_clean : (s : ThawStep) → CleanBelow (clean_by (thaw_stage_role s)) (marks_of w.words)
  thaw_clean s = grind arith

  tree_clean : (x : TreePhase) → CleanBelow (clean_by (tree_stage_role x)) (marks_of w.words)
  tree_clean x = grind arith

  -- those that what a task is at has cleared
  phase_clean : (t : ℕ) → t < c.tasks → (p : Option Phase) → (w.views t).phase ≡ p →
      CleanBelow (clean_by (stage_role_of p)) (marks_of w.words)
  phase_clean t lt (Some (Phase.Remounts x)) is =
      let fits : PhaseFits c t (held_of (w.views t)) (Phase.Remounts x) =
      subst (Fits c t (held_of (w.views t))) is (good Fitting t lt) in
      remount_clean x.nodes x.step t lt fits.3 fits.5 (ap (tree_role_of (w.views t).trace) is)
      (subst (λ p. KnowsStage w.words.stage w.words.sb (stage_role_of p)) is ((good Stages).knows t lt))
  phase_clean t lt (Some (Phase.Freezes x)) is =
      let fits : PhaseFits c t (held_of (w.views t)) (Phase.Freezes x) =
      subst (Fits c t (held_of (w.views t))) is (good Fitting t lt) in
      freeze_clean x.nodes x.holder x.step t lt fits.3 fits.5 (ap (tree_role_of (w.views t).trace) is)
  phase_clean t lt (Some (Phase.Thaws x)) is = thaw_clean x.step
  phase_clean t lt (Some (Phase.Trees x)) is = tree_clean x
  phase_clean t lt other is = none_clean

  pub marks_right : MarksHold c.tasks c.nodes w.words.stage w.words.sb (marks_of w.words) (stage_roles w)
  marks_right = record {
    frozen = λ h. all_clean (sealed_frozen w.words.sb w.words.stage h);
    read_only = λ e. all_clean (sealed_read_only w.words.sb w.words.stage e);
    cleared = λ t lt. phase_clean t lt (w.views t).phase refl;
  }

  phase_unread : (trace : List Traced) (p : Option Phase) → (w.words.stage ≡ 4 → ⊥) →
      KnowsStage w.words.stage w.words.sb (stage_role_of p) → words_read (tree_role_of trace p) ≡ 0
  phase_unread trace p apart knows = grind arith

  pub nobody_reads : (w.words.stage ≡ 4 → ⊥) → NobodyReads (tree_bounds c) (tree_of w)
  nobody_reads apart = total_none c.tasks (λ t. words_read (tree_roles w t)) (λ t lt.
      phase_unread (w.views t).trace (w.views t).phase apart ((good Stages).knows t lt))
