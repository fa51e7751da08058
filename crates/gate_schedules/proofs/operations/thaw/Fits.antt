-- What fits after a step of a thaw.
use Rattle.gate_schedules.proofs.Prelude.{ActionFits, Config, Err, Fits, GateError, Holdings, HookAnswer, IsWord, Phase, PhaseFits, Thaw, ThawStep}
use Rattle.gate_schedules.proofs.Prelude.{arith, extents_of, false, held_after, held_by, map_next, phase_after, true, ℕ, ◌≡◌}
use Rattle.access_model.specs.{Holders.{is_unheld, with_holder}, declared.actions.Holders.Holders}
use Rattle.{freeze_levels.specs.Thaws.{at_thaw, thaw_after, thaw_finds, thaw_next}, gate_world.specs.{Fits.ThawFits, Operations.holds_none}}

-- What comes after a look at who holds a freeze: a refusal, where its own holder doesn't; the superblock's flag, where it alone does; or
-- else the store without it.
pub finds_cases : (x : Thaw) (held : Holders) (P : ThawStep → Type 0) →
    (held_by held x.holder ≡ false → P (ThawStep.Releases (Err GateError.Invalid))) →
    (held_by held x.holder ≡ true → is_unheld (with_holder x.holder false held) ≡ true → P ThawStep.LoadsSuperblock) →
    (held_by held x.holder ≡ true → is_unheld (with_holder x.holder false held) ≡ false → P (ThawStep.Leaves held)) → P (thaw_finds x held)
finds_cases x held P refused alone shared = grind arith

-- the word of each step of a thaw is there
pub thaw_there : (c : Config) (x : Thaw) (s : ThawStep) (hook : HookAnswer) → ThawFits x.holder s → IsWord (extents_of c) (thaw_next x s hook).0
thaw_there c x s hook f = grind arith

pub thaw_acts : (held : Holdings) (x : Thaw) (s : ThawStep) (found : ℕ) (hook : HookAnswer) → ActionFits held (thaw_after x s found hook).1
thaw_acts held x s found hook = grind arith

module _ (c : Config) (t : ℕ) (held : Holdings) (x : Thaw) (same : x.task ≡ t) (none : holds_none held.levels ≡ true) where
  -- after a step of a thaw, what comes fits the accesses that its action leaves
  abbrev FitsAfterStep : ThawStep → ℕ → HookAnswer → Type 0
  FitsAfterStep s found hook =
      Fits c t (held_after (thaw_after x s found hook).1 held)
      (phase_after (map_next Phase.Thaws (thaw_after x s found hook).0))

  step_goes : (s : ThawStep) (found : ℕ) (hook : HookAnswer) → ThawFits x.holder s → FitsAfterStep s found hook
  step_goes s found hook f = grind arith

-- what comes after each step of a thaw fits
pub thaw_goes : (c : Config) (t : ℕ) (held : Holdings) (x : Thaw) (s : ThawStep) (found : ℕ) (hook : HookAnswer) →
    PhaseFits c t held (Phase.Thaws (at_thaw x s)) →
    Fits c t (held_after (thaw_after x s found hook).1 held)
    (phase_after (map_next Phase.Thaws (thaw_after x s found hook).0))
thaw_goes c t held x s found hook f = step_goes c t held x f.0 f.1 s found hook f.2
