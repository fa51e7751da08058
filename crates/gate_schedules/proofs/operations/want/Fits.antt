-- What fits after a step of a want.
use Rattle.gate_schedules.proofs.Prelude.{ActionFits, Config, Fits, Holdings, IsWithin, IsWord, MountPhase, Phase, Want, WantStep, arith, extents_of}
use Rattle.gate_schedules.proofs.Prelude.{held_after, map_next, phase_after, want_after, ℕ, ◌<◌}
use Rattle.{gate_world.specs.Fits.MountFits, mount_counts.specs.Phases.want_next}

-- the word of each step of a want is there
pub want_there : (c : Config) (w : Want) (step : WantStep) → w.mount < c.mounts → w.cpu < c.processors → IsWord (extents_of c) (want_next w step).0
want_there c w step m p = grind arith

module _ (c : Config) (within : IsWithin c) (t : ℕ) (held : Holdings) where
  pub want_acts : (w : Want) (step : WantStep) (found : ℕ) → w.mount < 8 → held.mounts w.mount < 1024 → ActionFits held (want_after w step found).1
  want_acts w step found m room = grind arith

  -- what comes after each step of a want fits
  pub want_goes : (w : Want) (step : WantStep) (found : ℕ) → MountFits c t held (MountPhase.Want w) →
      Fits c t (held_after (want_after w step found).1 held)
      (phase_after (map_next Phase.Mounts (map_next MountPhase.Want (want_after w step found).0)))
  want_goes w step found f = grind arith
