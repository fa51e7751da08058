-- A thaw waits only where another task has `umount`, and is refused only for its cause.
use Rattle.gate_schedules.proofs.Prelude.{Config, HasReason, HookAnswer, IsGood, List, Phase, Some, Thaw, ThawStep, UpWrite, UpWriteStep, World}
use Rattle.gate_schedules.proofs.Prelude.{after_of, arith, found_at, map_next, owns, up_write_after, ℕ, ◌<◌, ◌≡◌}
use Rattle.{freeze_levels.specs.Thaws.{after_opening, at_thaw}, gate_world.specs.refusals.KeptCauses.ThawCause}
use Rattle.gate_schedules.proofs.frames.Owners.{umount_taken}

module _ (c : Config) (w : World) (earlier : List World) (t : ℕ) where
  reopening_waits : (phase : Phase) (x : Thaw) (u : UpWrite) (s : UpWriteStep) (found : ℕ) →
      HasReason c w earlier t phase (map_next Phase.Thaws (after_opening x u.level (up_write_after u s found).0))
  reopening_waits phase x u s found = grind arith

  module _ (good : IsGood c w) (lt : t < c.tasks) (x : Thaw) where
    pub thaw_waits : (hook : HookAnswer) (s : ThawStep) → (w.views t).phase ≡ Some (Phase.Thaws (at_thaw x s)) →
        ThawCause c t w earlier x.holder s →
        HasReason c w earlier t (Phase.Thaws (at_thaw x s))
        (after_of (Phase.Thaws (at_thaw x s)) (found_at w.words (Phase.Thaws (at_thaw x s)) hook) hook).0
    thaw_waits hook s e cause = grind (arith, umount_taken, owns, reopening_waits, found_at)
