-- The steps of all calls at the tree: each keeps the invariant, and a snapshot that one completes is of the present tree.
use Rattle.gate_schedules.proofs.Prelude.{Config, HookAnswer, IsGood, IsWithin, Phase, Some, StepKeeps, TreePhase, World, refl, ℕ, ◌<◌, ◌≡◌}
use Rattle.gate_world.specs.Moments.{CompletesNow}
use Rattle.gate_schedules.proofs.{frames.Snapshots.completes_none, operations.snapshot.{Completes.snapshot_completes_now, Events.snapshot_step}}
use Rattle.gate_schedules.proofs.trees.worlds.Events.{tree_step}

module _ (c : Config) (within : IsWithin c) (w : World) (good : IsGood c w) (t : ℕ) (lt : t < c.tasks) (hook : HookAnswer) where
  pub call_step : (x : TreePhase) → (w.views t).phase ≡ Some (Phase.Trees x) → StepKeeps c w t hook (Phase.Trees x)
  call_step (TreePhase.Create x) e = tree_step c within w good t lt hook (TreePhase.Create x) refl e
  call_step (TreePhase.Remove x) e = tree_step c within w good t lt hook (TreePhase.Remove x) refl e
  call_step (TreePhase.Grow x) e = tree_step c within w good t lt hook (TreePhase.Grow x) refl e
  call_step (TreePhase.MoveTo x) e = tree_step c within w good t lt hook (TreePhase.MoveTo x) refl e
  call_step (TreePhase.Mark x) e = tree_step c within w good t lt hook (TreePhase.Mark x) refl e
  call_step (TreePhase.OpenFile x) e = tree_step c within w good t lt hook (TreePhase.OpenFile x) refl e
  call_step (TreePhase.Snapshot x) e = snapshot_step c within w good t lt hook x e
  call_step (TreePhase.ClearMarks x) e = tree_step c within w good t lt hook (TreePhase.ClearMarks x) refl e

  pub call_completes : (x : TreePhase) → (w.views t).phase ≡ Some (Phase.Trees x) → CompletesNow c w t hook (Phase.Trees x)
  call_completes (TreePhase.Create x) e = completes_none c w t hook (Phase.Trees (TreePhase.Create x)) (λ trace found. refl)
  call_completes (TreePhase.Remove x) e = completes_none c w t hook (Phase.Trees (TreePhase.Remove x)) (λ trace found. refl)
  call_completes (TreePhase.Grow x) e = completes_none c w t hook (Phase.Trees (TreePhase.Grow x)) (λ trace found. refl)
  call_completes (TreePhase.MoveTo x) e = completes_none c w t hook (Phase.Trees (TreePhase.MoveTo x)) (λ trace found. refl)
  call_completes (TreePhase.Mark x) e = completes_none c w t hook (Phase.Trees (TreePhase.Mark x)) (λ trace found. refl)
  call_completes (TreePhase.OpenFile x) e = completes_none c w t hook (Phase.Trees (TreePhase.OpenFile x)) (λ trace found. refl)
  call_completes (TreePhase.Snapshot x) e = snapshot_completes_now c within w good t lt hook x e
  call_completes (TreePhase.ClearMarks x) e = completes_none c w t hook (Phase.Trees (TreePhase.ClearMarks x)) (λ trace found. refl)
