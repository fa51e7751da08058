-- The calls at the tree run out, a snapshot where it finds `umount` free.
use Rattle.gate_schedules.proofs.Prelude.{ClearMarks, Config, Create, CreateStep, Grow, GrowStep, HookAnswer, IsUnblocked, Mark, MarkStep, MoveStep}
use Rattle.gate_schedules.proofs.Prelude.{MoveTo, OpenFile, OpenStep, Phase, PhaseEnds, RankDecreases, ReadIsValid, Remove, RemoveStep, Snapshot}
use Rattle.gate_schedules.proofs.Prelude.{SnapshotStep, TreePhase, Words, arith, clear_after, common_steps, create_after, found_at, found_by}
use Rattle.gate_schedules.proofs.Prelude.{grow_after, mark_after, move_after, open_after, rank, read, remove_after, snapshot_next, words_after, ℕ}
use Rattle.gate_schedules.proofs.Prelude.{◌-◌}
use Rattle.gate_world.specs.traces.TraceStates.{OpenReadIsValid, WordIsValid}
use Rattle.gated_tree.specs.Phases.{after as tree_after, create_next, grow_next, mark_next, move_next, next as tree_next, open_next, remove_next}
use Rattle.gated_tree.specs.Phases.{snapshot_after}
use Rattle.gate_schedules.proofs.{frames.ValidWords.events_may_be, operations.deadlocks.RankDecreases.falls_as}
use Rattle.gate_schedules.specs.operations.Ranks.{create_rank, grow_rank, mark_rank, move_rank, open_rank, remove_rank, snapshot_rank, tree_rank}
use Rattle.gate_schedules.specs.operations.Unblocked.{SnapshotIsUnblocked, TreeIsUnblocked}

module _ (w : Words) where
  module _ (c : Create) where
    create_falls : (s : CreateStep) → WordIsValid (create_next c s).0 (read w (create_next c s).0) →
        RankDecreases (λ (y : Create). create_rank y.nodes y.step) (λ (y : Create). Unit {0}) (create_rank c.nodes s)
        (create_after c s (found_by (create_next c s).1 (read w (create_next c s).0))).0
    create_falls s h = grind (arith, common_steps)

  remove_falls : (r : Remove) (s : RemoveStep) → WordIsValid (remove_next r s).0 (read w (remove_next r s).0) →
      RankDecreases (λ (y : Remove). remove_rank y.step) (λ (y : Remove). Unit {0}) (remove_rank s)
      (remove_after r s (found_by (remove_next r s).1 (read w (remove_next r s).0))).0
  remove_falls r s h = grind (arith, common_steps)

  grow_falls : (g : Grow) (s : GrowStep) → WordIsValid (grow_next g s).0 (read w (grow_next g s).0) →
      RankDecreases (λ (y : Grow). grow_rank y.step) (λ (y : Grow). Unit {0}) (grow_rank s)
      (grow_after g s (found_by (grow_next g s).1 (read w (grow_next g s).0))).0
  grow_falls g s h = grind (arith, common_steps)

  move_falls : (m : MoveTo) (s : MoveStep) → WordIsValid (move_next m s).0 (read w (move_next m s).0) →
      RankDecreases (λ (y : MoveTo). move_rank y.step) (λ (y : MoveTo). Unit {0}) (move_rank s)
      (move_after m s (found_by (move_next m s).1 (read w (move_next m s).0))).0
  move_falls m s h = grind (arith, common_steps)

  mark_falls : (m : Mark) (s : MarkStep) → WordIsValid (mark_next m s).0 (read w (mark_next m s).0) →
      RankDecreases (λ (y : Mark). mark_rank y.step) (λ (y : Mark). Unit {0}) (mark_rank s)
      (mark_after m s (found_by (mark_next m s).1 (read w (mark_next m s).0))).0
  mark_falls m s h = grind (arith, common_steps)

  open_falls : (o : OpenFile) (s : OpenStep) → OpenReadIsValid s (read w (open_next o s).0) →
      RankDecreases (λ (y : OpenFile). open_rank y.step) (λ (y : OpenFile). Unit {0}) (open_rank s)
      (open_after o s (found_by (open_next o s).1 (read w (open_next o s).0))).0
  open_falls o s h = grind (arith, common_steps)

  snapshot_falls : (after : Words) (x : Snapshot) (s : SnapshotStep) → SnapshotIsUnblocked w s x.wait →
      WordIsValid (snapshot_next x s).0 (read w (snapshot_next x s).0) →
      RankDecreases (λ (y : Snapshot). snapshot_rank y.nodes y.step) (λ (y : Snapshot). SnapshotIsUnblocked after y.step y.wait) (snapshot_rank x.nodes s)
      (snapshot_after x s (found_by (snapshot_next x s).1 (read w (snapshot_next x s).0))).0
  snapshot_falls after x s free h = grind arith

  pub clear_falls : (x : ClearMarks) (found : ℕ) →
      RankDecreases (λ (y : ClearMarks). y.nodes - y.node) (λ (y : ClearMarks). Unit {0}) (x.nodes - x.node) (clear_after x found).0
  clear_falls x found = grind arith

  -- each step of a call
  tree_falls : (after : Words) (hook : HookAnswer) (x : TreePhase) → TreeIsUnblocked w x →
      ReadIsValid (Phase.Trees x) (tree_next x hook).0 (read w (tree_next x hook).0) →
      RankDecreases tree_rank (TreeIsUnblocked after) (tree_rank x)
      (tree_after x (found_by (tree_next x hook).1 (read w (tree_next x hook).0)) hook).0
  tree_falls after hook (TreePhase.Create x) free h = falls_as TreePhase.Create tree_rank (TreeIsUnblocked after) _ _ (create_falls x x.step h)
  tree_falls after hook (TreePhase.Remove x) free h = falls_as TreePhase.Remove tree_rank (TreeIsUnblocked after) _ _ (remove_falls x x.step h)
  tree_falls after hook (TreePhase.Grow x) free h = falls_as TreePhase.Grow tree_rank (TreeIsUnblocked after) _ _ (grow_falls x x.step h)
  tree_falls after hook (TreePhase.MoveTo x) free h = falls_as TreePhase.MoveTo tree_rank (TreeIsUnblocked after) _ _ (move_falls x x.step h)
  tree_falls after hook (TreePhase.Mark x) free h = falls_as TreePhase.Mark tree_rank (TreeIsUnblocked after) _ _ (mark_falls x x.step h)
  tree_falls after hook (TreePhase.OpenFile x) free h = falls_as TreePhase.OpenFile tree_rank (TreeIsUnblocked after) _ _ (open_falls x x.step h)
  tree_falls after hook (TreePhase.Snapshot x) free h =
      falls_as TreePhase.Snapshot tree_rank (TreeIsUnblocked after) _ _ (snapshot_falls after x x.step free h)
  tree_falls after hook (TreePhase.ClearMarks x) free h = falls_as TreePhase.ClearMarks tree_rank (TreeIsUnblocked after) _ _ (clear_falls x (w.node x.node))

pub tree_ends : (c : Config) (x : TreePhase) → PhaseEnds c (Phase.Trees x)
tree_ends c x = record {
  falls = λ lim w good t lt hook at free.
      let after : Words = words_after w.words (Phase.Trees x) hook in
      falls_as Phase.Trees (rank after) (IsUnblocked c after) (tree_rank x) (tree_after x (found_at w.words (Phase.Trees x) hook) hook).0
      (tree_falls w.words after hook x free (events_may_be c lim w good t lt (Phase.Trees x) hook at));
}
