-- The causes of the refusals of the calls at the tree, along an execution: a snapshot keeps one, as a thaw does, and no other call does.
use Rattle.gate_schedules.proofs.Prelude.{CauseOf, Config, HookAnswer, List, Next, Option, Phase, Snapshot, SnapshotStep, Some, TreePhase, World}
use Rattle.gate_schedules.proofs.Prelude.{after_of, arith, clear_after, common_steps, found_at, map_next, mark_after, phase_after, ℕ, ◌∷◌, ◌≡◌}
use Rattle.gated_tree.specs.Phases.{at_snapshot, create_after, grow_after, move_after, open_after, remove_after}
use Rattle.gate_world.specs.refusals.KeptCauses.{TreeCause}

-- so it is of each call at the tree
pub tree_stays : (c : Config) (t : ℕ) (w next : World) (earlier : List World) (x : TreePhase) →
    (next.views t).phase ≡ Some (Phase.Trees x) → TreeCause c t w earlier x → TreeCause c t next (w ∷ earlier) x
tree_stays c t w next earlier x e h = grind arith

-- the task that steps: what its next phase says, in the state after the step
module _ (c : Config) (t : ℕ) (w next : World) (earlier : List World) where
  -- a call that keeps no cause keeps none
  no_cause : {P : Type 0} (to : P → TreePhase) → ((p : P) → TreeCause c t next (w ∷ earlier) (to p)) → (n : Next P) →
      CauseOf c t next (w ∷ earlier) (phase_after (map_next Phase.Trees (map_next to n)))
  no_cause to none n = grind arith

  snapshot_own : (hook : HookAnswer) (x : Snapshot) (s : SnapshotStep) → (w.views t).phase ≡ Some (Phase.Trees (TreePhase.Snapshot (at_snapshot x s))) →
      let comes : Option Phase = phase_after
      (after_of (Phase.Trees (TreePhase.Snapshot (at_snapshot x s))) (found_at w.words (Phase.Trees (TreePhase.Snapshot (at_snapshot x s))) hook) hook).0 in
      (next.views t).phase ≡ comes → CauseOf c t next (w ∷ earlier) comes
  snapshot_own hook x s e e' = grind (arith, common_steps)

  pub tree_own : (hook : HookAnswer) (x : TreePhase) → (w.views t).phase ≡ Some (Phase.Trees x) →
      let comes : Option Phase = phase_after (after_of (Phase.Trees x) (found_at w.words (Phase.Trees x) hook) hook).0 in
      (next.views t).phase ≡ comes → CauseOf c t next (w ∷ earlier) comes
  tree_own hook (TreePhase.Create x) e e' =
      no_cause TreePhase.Create (λ p. tt) (create_after x x.step (found_at w.words (Phase.Trees (TreePhase.Create x)) hook)).0
  tree_own hook (TreePhase.Remove x) e e' =
      no_cause TreePhase.Remove (λ p. tt) (remove_after x x.step (found_at w.words (Phase.Trees (TreePhase.Remove x)) hook)).0
  tree_own hook (TreePhase.Grow x) e e' = no_cause TreePhase.Grow (λ p. tt) (grow_after x x.step (found_at w.words (Phase.Trees (TreePhase.Grow x)) hook)).0
  tree_own hook (TreePhase.MoveTo x) e e' =
      no_cause TreePhase.MoveTo (λ p. tt) (move_after x x.step (found_at w.words (Phase.Trees (TreePhase.MoveTo x)) hook)).0
  tree_own hook (TreePhase.Mark x) e e' = no_cause TreePhase.Mark (λ p. tt) (mark_after x x.step (found_at w.words (Phase.Trees (TreePhase.Mark x)) hook)).0
  tree_own hook (TreePhase.OpenFile x) e e' =
      no_cause TreePhase.OpenFile (λ p. tt) (open_after x x.step (found_at w.words (Phase.Trees (TreePhase.OpenFile x)) hook)).0
  tree_own hook (TreePhase.Snapshot x) e e' = snapshot_own hook x x.step e e'
  tree_own hook (TreePhase.ClearMarks x) e e' =
      no_cause TreePhase.ClearMarks (λ p. tt) (clear_after x (found_at w.words (Phase.Trees (TreePhase.ClearMarks x)) hook)).0
