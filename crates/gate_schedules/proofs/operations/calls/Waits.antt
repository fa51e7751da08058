-- Of the calls at the tree only a snapshot waits, and only where another task has `umount`; each is refused only for its cause.
use Rattle.gate_schedules.proofs.Prelude.{Bool, ClearMarks, Config, Create, CreateStep, Err, GateError, Grow, GrowStep, HasReason, HookAnswer, IsGood}
use Rattle.gate_schedules.proofs.Prelude.{List, Mark, MarkStep, MoveStep, MoveTo, Next, Ok, OpenFile, OpenStep, Option, Phase, PhaseFits, Remove}
use Rattle.gate_schedules.proofs.Prelude.{RemoveStep, Snapshot, SnapshotStep, Some, TreePhase, World, after_of, ap, arith, clear_after, common_steps}
use Rattle.gate_schedules.proofs.Prelude.{create_after, eqb_tells, false, found_at, grow_after, held_of, if◌then◌else◌, inl, inr, is_some, map_next}
use Rattle.gate_schedules.proofs.Prelude.{mark_after, move_after, node_after, open_after, owns, remove_after, shown, true, unpacked, ℕ, ◌<◌, ◌==◌}
use Rattle.gate_schedules.proofs.Prelude.{◌∷◌, ◌≡◌}
use Rattle.gate_world.specs.refusals.{Causes.{CallRefused, IsTaken, TellsOf, TreeRefused, tree_sees}, KeptCauses.{SnapshotCause, TreeCause}}
use Rattle.gate_world.specs.refusals.Waits.{HasCulprit}
use Rattle.{gated_tree.specs.Phases.{at_snapshot, node_step, snapshot_locked_out}, node_words.specs.Phases.clears_at}
use Rattle.gate_schedules.proofs.{frames.Owners.umount_taken, operations.calls.NodeCauses.{call_refused, clear_node, create_node, grow_node}}
use Rattle.gate_schedules.proofs.operations.calls.NodeCauses.{is_of_node, mark_node, move_node, open_node, remove_node}

-- what comes is no wait
abbrev IsNoWait : {P : Type 0} → Next P → Type 0
IsNoWait (Next.Go p) = Unit {0}
IsNoWait (Next.Wait p) = ⊥
IsNoWait (Next.Done answer) = Unit {0}

-- so it never waits
create_goes_on : (x : Create) (s : CreateStep) (found : ℕ) → IsNoWait (create_after x s found).0
create_goes_on x s found = grind (arith, common_steps)

remove_goes_on : (x : Remove) (s : RemoveStep) (found : ℕ) → IsNoWait (remove_after x s found).0
remove_goes_on x s found = grind (arith, common_steps)

grow_goes_on : (x : Grow) (s : GrowStep) (found : ℕ) → IsNoWait (grow_after x s found).0
grow_goes_on x s found = grind (arith, common_steps)

move_goes_on : (x : MoveTo) (s : MoveStep) (found : ℕ) → IsNoWait (move_after x s found).0
move_goes_on x s found = grind (arith, common_steps)

mark_goes_on : (x : Mark) (s : MarkStep) (found : ℕ) → IsNoWait (mark_after x s found).0
mark_goes_on x s found = grind (arith, common_steps)

open_goes_on : (x : OpenFile) (s : OpenStep) (found : ℕ) → IsNoWait (open_after x s found).0
open_goes_on x s found = grind (arith, common_steps)

clear_goes_on : (x : ClearMarks) (o : Option ℕ) → IsNoWait (clears_at x o)
clear_goes_on x o = grind arith

module _ (c : Config) (w : World) (earlier : List World) (t : ℕ) where
  -- what is no wait waits for nobody, and a refusal of a call that is no snapshot has its cause at its own step
  no_wait : {P : Type 0} (to : P → TreePhase) (x : TreePhase) (n : Next P) → IsNoWait n →
      ((refusal : GateError) → CallRefused c (w ∷ earlier) x refusal → TreeRefused c t (w ∷ earlier) x refusal) →
      ((refusal : GateError) → map_next Phase.Trees (map_next to n) ≡ Next.Done (Err refusal) → is_of_node refusal ≡ true →
      (m : ℕ) × (tree_sees x ≡ Some m) × TellsOf ((shown c w).tree m) refusal) →
      HasReason c w earlier t (Phase.Trees x) (map_next Phase.Trees (map_next to n))
  no_wait to x n h call node = grind (arith, call_refused)

  goes_on : (x : Snapshot) (b : Bool) (s s' : SnapshotStep) →
      HasReason c w earlier t (Phase.Trees (TreePhase.Snapshot x))
      (map_next Phase.Trees (map_next TreePhase.Snapshot (if b then Next.Go (at_snapshot x s) else Next.Go (at_snapshot x s'))))
  goes_on x true s s' = tt
  goes_on x false s s' = tt

  -- a snapshot that finds `umount` taken waits for who has it, or is refused
  locked_out_waits : (x : Snapshot) (wait : Bool) → HasCulprit c w t (Phase.Trees (TreePhase.Snapshot x)) → IsTaken c t (w ∷ earlier) →
      HasReason c w earlier t (Phase.Trees (TreePhase.Snapshot x)) (map_next Phase.Trees (map_next TreePhase.Snapshot (snapshot_locked_out x wait)))
  locked_out_waits x true h taken = h
  locked_out_waits x false h taken = taken

  module _ (good : IsGood c w) (lt : t < c.tasks) where
    -- each step of a snapshot
    snapshot_waits : (hook : HookAnswer) (x : Snapshot) (s : SnapshotStep) →
        (w.views t).phase ≡ Some (Phase.Trees (TreePhase.Snapshot (at_snapshot x s))) → SnapshotCause c t w earlier s →
        HasReason c w earlier t (Phase.Trees (TreePhase.Snapshot (at_snapshot x s)))
        (after_of (Phase.Trees (TreePhase.Snapshot (at_snapshot x s))) (found_at w.words (Phase.Trees (TreePhase.Snapshot (at_snapshot x s))) hook) hook).0
    snapshot_waits hook x SnapshotStep.Locks e cause =
        elim (eqb_tells w.words.umount 0) [
          | inl h ↦ rw h.0 tt
          | inr h ↦
              let who = umount_taken c w good t lt (Phase.Trees (TreePhase.Snapshot (at_snapshot x SnapshotStep.Locks))) (λ y own. own) h.1 (ap owns e) in
              rw h.0 (locked_out_waits (at_snapshot x SnapshotStep.Locks) x.wait who (who.task, who.there, who.other, who.stands))
        ]
    snapshot_waits hook x SnapshotStep.LoadsStage e cause =
        goes_on (at_snapshot x SnapshotStep.LoadsStage) (w.words.stage == 4) SnapshotStep.LoadsUsed (SnapshotStep.Releases (Err GateError.Invalid))
    snapshot_waits hook x SnapshotStep.LoadsUsed e cause = tt
    snapshot_waits hook x (SnapshotStep.LoadsNode node) e cause =
        goes_on (at_snapshot x (SnapshotStep.LoadsNode node)) (is_some (unpacked (w.words.node node))) (node_step (node_after node x.nodes))
        (SnapshotStep.LoadsNode node)
    snapshot_waits hook x (SnapshotStep.LoadsKids node) e cause = tt
    snapshot_waits hook x (SnapshotStep.Releases (Ok reply)) e cause = tt
    snapshot_waits hook x (SnapshotStep.Releases (Err GateError.Again)) e cause = absurd cause
    snapshot_waits hook x (SnapshotStep.Releases (Err refusal)) e cause = cause

    -- so it is of each step at the tree
    pub tree_waits : (hook : HookAnswer) (x : TreePhase) → (w.views t).phase ≡ Some (Phase.Trees x) →
        PhaseFits c t (held_of (w.views t)) (Phase.Trees x) → TreeCause c t w earlier x →
        HasReason c w earlier t (Phase.Trees x) (after_of (Phase.Trees x) (found_at w.words (Phase.Trees x) hook) hook).0
    tree_waits hook (TreePhase.Create x) e fits cause =
        let found : ℕ = found_at w.words (Phase.Trees (TreePhase.Create x)) hook in
        no_wait TreePhase.Create (TreePhase.Create x) (create_after x x.step found).0 (create_goes_on x x.step found) (λ refusal h. h)
        (create_node c w x x.step hook)
    tree_waits hook (TreePhase.Remove x) e fits cause =
        let found : ℕ = found_at w.words (Phase.Trees (TreePhase.Remove x)) hook in
        no_wait TreePhase.Remove (TreePhase.Remove x) (remove_after x x.step found).0 (remove_goes_on x x.step found) (λ refusal h. h)
        (remove_node c w x x.step hook)
    tree_waits hook (TreePhase.Grow x) e fits cause =
        let found : ℕ = found_at w.words (Phase.Trees (TreePhase.Grow x)) hook in
        no_wait TreePhase.Grow (TreePhase.Grow x) (grow_after x x.step found).0 (grow_goes_on x x.step found) (λ refusal h. h) (grow_node c w x x.step hook)
    tree_waits hook (TreePhase.MoveTo x) e fits cause =
        let found : ℕ = found_at w.words (Phase.Trees (TreePhase.MoveTo x)) hook in
        no_wait TreePhase.MoveTo (TreePhase.MoveTo x) (move_after x x.step found).0 (move_goes_on x x.step found) (λ refusal h. h)
        (move_node c w x x.step fits.0.2 hook)
    tree_waits hook (TreePhase.Mark x) e fits cause =
        let found : ℕ = found_at w.words (Phase.Trees (TreePhase.Mark x)) hook in
        no_wait TreePhase.Mark (TreePhase.Mark x) (mark_after x x.step found).0 (mark_goes_on x x.step found) (λ refusal h. h) (mark_node c w x x.step hook)
    tree_waits hook (TreePhase.OpenFile x) e fits cause =
        let found : ℕ = found_at w.words (Phase.Trees (TreePhase.OpenFile x)) hook in
        no_wait TreePhase.OpenFile (TreePhase.OpenFile x) (open_after x x.step found).0 (open_goes_on x x.step found) (λ refusal h. h)
        (open_node c w x x.step hook)
    tree_waits hook (TreePhase.Snapshot x) e fits cause = snapshot_waits hook x x.step e cause
    tree_waits hook (TreePhase.ClearMarks x) e fits cause =
        let found : ℕ = found_at w.words (Phase.Trees (TreePhase.ClearMarks x)) hook in
        no_wait TreePhase.ClearMarks (TreePhase.ClearMarks x) (clear_after x found).0 (clear_goes_on x (node_after x.node x.nodes)) (λ refusal h. h)
        (clear_node c w x hook)
