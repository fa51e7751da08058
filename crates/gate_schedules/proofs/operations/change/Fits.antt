-- What fits after a step of a change.
use Rattle.gate_schedules.proofs.Prelude.{ActionFits, ChangeStep, Config, Fits, Holdings, IsWithin, IsWord, MountPhase, Phase, arith, extents_of}
use Rattle.gate_schedules.proofs.Prelude.{held_after, map_next, phase_after, ℕ, ◌<◌}
use Rattle.{gate_world.specs.Fits.{MountFits, SumFits}, mount_counts.specs.{Phases.{change_after, change_next}, declared.phases.Change.Change}}

pub change_there : (c : Config) (x : Change) (step : ChangeStep) → x.mount < c.mounts → SumFits c step → IsWord (extents_of c) (change_next x step).0
change_there c x step m f = grind arith

module _ (c : Config) (within : IsWithin c) (t : ℕ) (held : Holdings) where
  pub change_acts : (x : Change) (step : ChangeStep) (found : ℕ) → ActionFits held (change_after x step found).1
  change_acts x step found = grind arith

  -- what comes after each step of a change fits
  pub change_goes : (x : Change) (step : ChangeStep) (found : ℕ) → MountFits c t held (MountPhase.Change record x { step = step }) →
      Fits c t (held_after (change_after x step found).1 held)
      (phase_after (map_next Phase.Mounts (map_next MountPhase.Change (change_after x step found).0)))
  change_goes x step found f = grind arith
