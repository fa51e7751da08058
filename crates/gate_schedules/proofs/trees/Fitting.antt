-- The numbers of a phase stay in range, and each word of its steps is there.
use Rattle.gate_schedules.proofs.Prelude.{AreWithin, Bounds, ClearMarks, Create, CreateStep, Grow, GrowStep, HookAnswer, Mark, MarkStep, MoveStep}
use Rattle.gate_schedules.proofs.Prelude.{MoveTo, OpenFile, OpenStep, Remove, RemoveStep, Snapshot, SnapshotStep, TreePhase, arith, clear_after}
use Rattle.gate_schedules.proofs.Prelude.{common_steps, map_next, mark_after, ℕ, ◌<◌, ◌≡◌}
use Rattle.gated_tree.specs.{Calls.{CreateStepFits, MoveStepFits, NextFits, RemoveStepFits, SnapshotStepFits, TreePhaseFits}, Phases.after}
use Rattle.gated_tree.specs.Phases.{create_after, grow_after, move_after, open_after, remove_after, snapshot_after}

module _ (c : Bounds) (within : AreWithin c) (t : ℕ) where
  create_fits : (x : Create) (step : CreateStep) (found : ℕ) → x.dir < c.nodes → x.nodes ≡ c.nodes → CreateStepFits c step →
      NextFits c t (map_next TreePhase.Create (create_after x step found).0)
  create_fits x step found d same fits = grind (arith, common_steps)

  remove_fits : (x : Remove) (step : RemoveStep) (found : ℕ) → x.file < c.nodes → RemoveStepFits step →
      NextFits c t (map_next TreePhase.Remove (remove_after x step found).0)
  remove_fits x step found n fits = grind (arith, common_steps)

  grow_fits : (x : Grow) (step : GrowStep) (found : ℕ) → TreePhaseFits c t (TreePhase.Grow x) →
      NextFits c t (map_next TreePhase.Grow (grow_after x step found).0)
  grow_fits x step found fits = grind (arith, common_steps)

  move_fits : (x : MoveTo) (step : MoveStep) (found : ℕ) → x.file < c.nodes → x.dir < c.nodes → MoveStepFits step →
      NextFits c t (map_next TreePhase.MoveTo (move_after x step found).0)
  move_fits x step found n d fits = grind (arith, common_steps)

  mark_fits : (x : Mark) (step : MarkStep) (found : ℕ) → x.file < c.nodes → NextFits c t (map_next TreePhase.Mark (mark_after x step found).0)
  mark_fits x step found n = grind (arith, common_steps)

  open_fits : (x : OpenFile) (step : OpenStep) (found : ℕ) → x.file < c.nodes → NextFits c t (map_next TreePhase.OpenFile (open_after x step found).0)
  open_fits x step found n = grind (arith, common_steps)

  snapshot_fits : (x : Snapshot) (step : SnapshotStep) (found : ℕ) → x.task ≡ t → x.nodes ≡ c.nodes → SnapshotStepFits c step →
      NextFits c t (map_next TreePhase.Snapshot (snapshot_after x step found).0)
  snapshot_fits x step found own same fits = grind (arith, common_steps)

  clear_fits : (x : ClearMarks) (found : ℕ) → x.nodes ≡ c.nodes → NextFits c t (map_next TreePhase.ClearMarks (clear_after x found).0)
  clear_fits x found same = grind arith

  -- what comes after a step of a phase that fits, whatever it found, fits
  pub fits_after : (phase : TreePhase) (found : ℕ) (hook : HookAnswer) → TreePhaseFits c t phase → NextFits c t (after phase found hook).0
  fits_after (TreePhase.Create x) found hook fits = create_fits x x.step found fits.0 fits.1 fits.2
  fits_after (TreePhase.Remove x) found hook fits = remove_fits x x.step found fits.0 fits.1
  fits_after (TreePhase.Grow x) found hook fits = grow_fits x x.step found fits
  fits_after (TreePhase.MoveTo x) found hook fits = move_fits x x.step found fits.0 fits.1 fits.2
  fits_after (TreePhase.Mark x) found hook fits = mark_fits x x.step found fits
  fits_after (TreePhase.OpenFile x) found hook fits = open_fits x x.step found fits.0
  fits_after (TreePhase.Snapshot x) found hook fits = snapshot_fits x x.step found fits.0 fits.1 fits.2
  fits_after (TreePhase.ClearMarks x) found hook fits = clear_fits x found fits.1
