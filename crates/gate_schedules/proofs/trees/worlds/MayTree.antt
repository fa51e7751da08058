-- What a call at the tree may do: nobody else is in its way, and the model gives it leave.
use Rattle.gate_schedules.proofs.Prelude.{Action, AtMount, Bool, Config, Create, CreateStep, Files, Fits, Fitting, Grow, GrowStep, HasFile, Holdings}
use Rattle.gate_schedules.proofs.Prelude.{HookAnswer, IsGood, List, Mark, MarkStep, MoveStep, MoveTo, NobodyReads, None, OpenFile, OpenStep, Option}
use Rattle.gate_schedules.proofs.Prelude.{Owner, Phase, PhaseFits, RemountStep, Remove, RemoveStep, Snapshot, SnapshotStep, Some, Traced, TreePhase}
use Rattle.gate_schedules.proofs.Prelude.{World, ap, arith, at_mount, create_after, eqb_tells, false, file_of, grow_after, has_mount, has_open}
use Rattle.gate_schedules.proofs.Prelude.{held_at, held_of, holds_level, if◌then◌else◌, inl, inr, is_bare_at, mark_after, model_limits, move_after}
use Rattle.gate_schedules.proofs.Prelude.{open_after, refl, remounts, remove_after, role_of, shown, stage_role_of, subst, total, total_at, total_none}
use Rattle.gate_schedules.proofs.Prelude.{tree_bounds, tree_of, tree_role_of, tree_roles, true, word_of, ℕ, ◌<◌, ◌==◌, ◌≡◌, ◌≤◌}
use Rattle.std.proofs.lemmas.Bool.{and_parts}
use Rattle.{access_model.specs.Actions.IsWriter, cpu_words.specs.gate_counts.Gates.{BarringHolds, admitted, unread}}
use Rattle.freeze_laws.specs.stages.Roles.{passed_by}
use Rattle.gate_world.specs.{Fits.TreeAccess, Operations.{is_faulter, is_writer, may_mark, some_mount}, Remounts.{loop_role, remount_role}}
use Rattle.gate_world.specs.Roles.{remount_tree_role}
use Rattle.gated_tree.specs.{Calls.phase_role, Phases.{after, mark_done, snapshot_after}}
use Rattle.gated_tree.specs.Roles.{MayDirty, MayRemove, bare_by, cleared, is_bare, sealed_by}
use Rattle.mount_counts.specs.Roles.{barring_of, mount_as_gate, skips}
use Rattle.gate_schedules.proofs.trees.worlds.{Holders.{IsOpen, mount_there, none_past, writer_apart}, Roles.{close_apart, freeze_apart}}
use Rattle.gate_schedules.{proofs.trees.worlds.Trees.{nobody_reads, sealed_frozen}, specs.trees.Events.{HasLeave, MayClean}}
use Rattle.gate_schedules.specs.trees.Steps.{MayMark, TreeAllowsStep}

pub open_unsealed : (sb stage : ℕ) → sb ≡ 0 → stage < 3 → sealed_by sb stage ≡ 0
open_unsealed sb stage writable low = grind arith

tree_bares : (values : ℕ → ℕ) (x : TreePhase) → is_bare (phase_role values x) ≡ 0
tree_bares values x = grind arith

module _ (c : Config) (w : World) (good : IsGood c w) (t : ℕ) (lt : t < c.tasks) (m : ℕ) (lm : m < c.mounts)
    (some : 0 < held_at (w.views t) m) (y : ℕ) (ly : y < c.tasks) where
  -- where a task holds an access at a mount, no remount has found the mount empty, or skipped it
  loop_shut : (b : Bool) → role_of m (w.views y).phase ≡ loop_role b true → ⊥
  loop_shut true r =
      let none : total c.tasks (λ x. admitted (mount_as_gate (at_mount m (w.views x)))) ≡ 0 =
      subst (λ q. BarringHolds c.processors (w.words.count m) (total c.tasks (λ x. admitted (mount_as_gate (at_mount m (w.views x)))))
      (λ k. total c.tasks (λ x. unread k (mount_as_gate (at_mount m (w.views x))))) (barring_of q)) r ((good (AtMount m) lm).gate.sums y ly) in
      omega (arith, none, some, total_at c.tasks t (λ x. admitted (mount_as_gate (at_mount m (w.views x)))) lt)
  loop_shut false r =
      omega (arith, some, none_past c w good t lt m lm 2 ((good (AtMount m) lm).gate.open_to 2 ((good (AtMount m) lm).skipped y ly (ap skips r))))

  -- so none is about to make the superblock read-only
  remount_bares : (nodes : ℕ) (s : RemountStep) → role_of m (w.views y).phase ≡ remount_role m s → is_bare (remount_tree_role nodes s) ≡ 0
  remount_bares nodes (RemountStep.SetsRemount held) r = absurd (loop_shut (has_mount held m) r)
  remount_bares nodes s r = refl

  phase_bares : (p : Option Phase) → (w.views y).phase ≡ p → is_bare (tree_role_of (w.views y).trace p) ≡ 0
  phase_bares p is = grind (arith, remount_bares, freeze_apart, tree_bares, close_apart)

-- so nothing that a task is at clears a mark, where no remount is beginning and the task hasn't passed level 2
phase_clears : (c : Config) (t : ℕ) (held : Holdings) (trace : List Traced) (p : Option Phase) → Fits c t held p →
    remounts p ≡ 0 → passed_by (stage_role_of p) < 2 → cleared (tree_role_of trace p) ≡ 0
phase_clears c t held trace p fits unset unpassed = grind arith

module _ (c : Config) (w : World) (good : IsGood c w) where
  -- where nobody has shut the levels and mounts, a file may get dirty
  pub may_dirty : (i : ℕ) → i ≤ 2 → IsOpen w c.tasks i → MayDirty (tree_bounds c) (tree_of w)
  may_dirty i low way = record {
    unsealed = open_unsealed w.words.sb w.words.stage way.writable way.unfrozen;
    nobody_clears = total_none c.tasks (λ y. cleared (tree_roles w y)) (λ y ly.
        phase_clears c y (held_of (w.views y)) (w.views y).trace (w.views y).phase (good Fitting y ly)
        (omega (arith, way.unset, (good Owner).remounting, total_at c.tasks y (λ z. remounts (w.views z).phase) ly))
        (omega (arith, low, way.unpassed y ly)));
  }

  pub open_unread : (i : ℕ) → IsOpen w c.tasks i → NobodyReads (tree_bounds c) (tree_of w)
  open_unread i way = nobody_reads c w good (λ e. omega (arith, e, way.unfrozen))

  -- a mark may be cleared at any moment: at stage 4 there is none
  pub may_clean : MayClean (tree_bounds c) (tree_of w)
  may_clean = elim (eqb_tells w.words.stage 4) [
    | inl q ↦ inl (sealed_frozen w.words.sb w.words.stage (omega (arith, q.1)))
    | inr q ↦ inr (nobody_reads c w good q.1)
  ]

  module _ (t : ℕ) (lt : t < c.tasks) where
    pub writer_open : is_writer c (held_of (w.views t)) ≡ true → IsOpen w c.tasks 1
    writer_open writes =
        let both : (holds_level (w.views t) 1 ≡ true) × (some_mount c.mounts (held_at (w.views t)) ≡ true) = and_parts _ _ writes in
        writer_apart c w good t lt 1 (inl refl) both.0 both.1

    pub faulter_open : is_faulter c (held_of (w.views t)) ≡ true → IsOpen w c.tasks 2
    faulter_open faults =
        let both : (holds_level (w.views t) 2 ≡ true) × (some_mount c.mounts (held_at (w.views t)) ≡ true) = and_parts _ _ faults in
        writer_apart c w good t lt 2 (inr refl) both.0 both.1

    may_remove : is_writer c (held_of (w.views t)) ≡ true → MayRemove (tree_bounds c) (tree_of w)
    may_remove writes =
        let way : IsOpen w c.tasks 1 = writer_open writes in
        let both : (holds_level (w.views t) 1 ≡ true) × (some_mount c.mounts (held_at (w.views t)) ≡ true) = and_parts _ _ writes in
        let m : (m : ℕ) × (m < c.mounts) × (0 < held_at (w.views t) m) = mount_there c.mounts (held_at (w.views t)) both.1 in
        let clear : is_bare_at w.words ≡ 0 = λ j. bare_by (way.unset j) (way.writable j) in
        record {
          writable = λ e. omega (arith, e, clear);
          nobody_bares = total_none c.tasks (λ y. is_bare (tree_roles w y)) (λ y ly.
              phase_bares c w good t lt m.0 m.1 m.2 y ly (w.views y).phase refl);
        }

    -- nobody is in the way of a page fault or a write-back
    may_mark_now : (dirty : Bool) → may_mark dirty c (held_of (w.views t)) ≡ true →
        MayMark dirty (tree_bounds c) (tree_of w)
    may_mark_now true may =
        let way : IsOpen w c.tasks 2 = faulter_open may in
        (open_unread 2 way, may_dirty 2 (omega arith) way)
    may_mark_now false may = may_clean

    -- nor of any call
    pub may_go : (x : TreePhase) → TreeAccess c (held_of (w.views t)) x →
        TreeAllowsStep (tree_bounds c) (tree_of w) x
    may_go (TreePhase.Create x) may = open_unread 1 (writer_open may)
    may_go (TreePhase.Remove x) may = (open_unread 1 (writer_open may), may_remove may)
    may_go (TreePhase.Grow x) may = (open_unread 1 (writer_open may), may_dirty 1 (omega arith) (writer_open may))
    may_go (TreePhase.MoveTo x) may = open_unread 1 (writer_open may)
    may_go (TreePhase.Mark x) may = may_mark_now x.dirty may
    may_go (TreePhase.OpenFile x) may = tt
    may_go (TreePhase.Snapshot x) may = tt
    may_go (TreePhase.ClearMarks x) may = absurd may

    -- what a call at the tree says of its numbers and of its task's accesses
    pub call_fits : (x : TreePhase) → (w.views t).phase ≡ Some (Phase.Trees x) →
        PhaseFits c t (held_of (w.views t)) (Phase.Trees x)
    call_fits x e = subst (Fits c t (held_of (w.views t))) e (good Fitting t lt)

    pub may_step : (x : TreePhase) → (w.views t).phase ≡ Some (Phase.Trees x) → TreeAllowsStep (tree_bounds c) (tree_of w) x
    may_step x e = may_go x (call_fits x e).1

    -- the model gives leave to an action, if there is one
    abbrev pub LeaveFor : Option Action → Type 0
    LeaveFor None = Unit {0}
    LeaveFor (Some action) = HasLeave (model_limits c) (shown c w) t action

    leave_if : (b : Bool) (action : Action) → HasLeave (model_limits c) (shown c w) t action →
        LeaveFor (if b then Some action else None)
    leave_if true action leave = leave
    leave_if false action leave = tt

    writer_shown : is_writer c (held_of (w.views t)) ≡ true → IsWriter (model_limits c) (shown c w) t
    writer_shown writes =
        let both : (holds_level (w.views t) 1 ≡ true) × (some_mount c.mounts (held_at (w.views t)) ≡ true) = and_parts _ _ writes in
        (both.0, mount_there c.mounts (held_at (w.views t)) both.1)

    create_leave : (x : Create) (s : CreateStep) (found : ℕ) → IsWriter (model_limits c) (shown c w) t → LeaveFor (create_after x s found).1
    create_leave x s found leave = grind arith

    remove_leave : (x : Remove) (s : RemoveStep) (found : ℕ) → IsWriter (model_limits c) (shown c w) t → LeaveFor (remove_after x s found).1
    remove_leave x s found leave = grind arith

    grow_leave : (x : Grow) (s : GrowStep) (found : ℕ) → IsWriter (model_limits c) (shown c w) t → LeaveFor (grow_after x s found).1
    grow_leave x s found leave = grind arith

    move_leave : (x : MoveTo) (s : MoveStep) (found : ℕ) → IsWriter (model_limits c) (shown c w) t → LeaveFor (move_after x s found).1
    move_leave x s found leave = grind arith

    -- a page fault has leave inside level 2, with an access at some mount; a write-back inside level 3
    mark_leave_now : (dirty : Bool) (file : ℕ) → may_mark dirty c (held_of (w.views t)) ≡ true →
        HasLeave (model_limits c) (shown c w) t (mark_done dirty file)
    mark_leave_now dirty file may = grind (arith, and_parts, mount_there)

    mark_leave : (x : Mark) (s : MarkStep) (found : ℕ) → may_mark x.dirty c (held_of (w.views t)) ≡ true →
        LeaveFor (mark_after x s found).1
    mark_leave x MarkStep.LoadsFile found may = tt
    mark_leave x (MarkStep.MarksFile file) found may = leave_if (found == word_of file) _ (mark_leave_now x.dirty x.file may)

    open_leave : (x : OpenFile) (s : OpenStep) (found : ℕ) → has_open (w.views t) x.file ≡ false → LeaveFor (open_after x s found).1
    open_leave x s found own = grind arith

    snapshot_leave : (x : Snapshot) (s : SnapshotStep) (found : ℕ) → LeaveFor (snapshot_after x s found).1
    snapshot_leave x s found = grind arith

    -- each call has leave for the action of its next step
    pub call_leave : (x : TreePhase) (found : ℕ) (hook : HookAnswer) → TreeAccess c (held_of (w.views t)) x →
        HasFile (has_open (w.views t)) (file_of (Some (Phase.Trees x))) → LeaveFor (after x found hook).1
    call_leave (TreePhase.Create x) found hook may own = create_leave x x.step found (writer_shown may)
    call_leave (TreePhase.Remove x) found hook may own = remove_leave x x.step found (writer_shown may)
    call_leave (TreePhase.Grow x) found hook may own = grow_leave x x.step found (writer_shown may)
    call_leave (TreePhase.MoveTo x) found hook may own = move_leave x x.step found (writer_shown may)
    call_leave (TreePhase.Mark x) found hook may own = mark_leave x x.step found may
    call_leave (TreePhase.OpenFile x) found hook may own = open_leave x x.step found own
    call_leave (TreePhase.Snapshot x) found hook may own = snapshot_leave x x.step found
    call_leave (TreePhase.ClearMarks x) found hook may own = absurd may

    pub leave : (x : TreePhase) (found : ℕ) (hook : HookAnswer) → (w.views t).phase ≡ Some (Phase.Trees x) → LeaveFor (after x found hook).1
    leave x found hook e =
        call_leave x found hook (call_fits x e).1 (subst (λ p. HasFile (has_open (w.views t)) (file_of p)) e ((good Files).own t lt))
