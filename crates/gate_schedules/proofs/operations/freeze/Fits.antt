-- What fits after a step of a freeze, of the closing of a level and of its reopening.
use Rattle.gate_schedules.proofs.Prelude.{Action, ActionFits, Config, Err, Fits, Freeze, FreezeFits, FreezeStep, GateError, Holdings, HookAnswer}
use Rattle.gate_schedules.proofs.Prelude.{IsWithin, IsWord, Option, Phase, PhaseFits, arith, at_freeze, common_steps, extents_of, false, held_after}
use Rattle.gate_schedules.proofs.Prelude.{held_by, if◌then◌else◌, map_next, phase_after, true, ℕ, ◌≡◌}
use Rattle.{access_model.specs.declared.actions.Holders.Holders, freeze_levels.specs.Freezes.{found_holders, freeze_after, freeze_next}}
use Rattle.gate_schedules.proofs.frames.Cases.{both}

-- so it is of each step of a freeze
pub freeze_word : (c : Config) (x : Freeze) (s : FreezeStep) (hook : HookAnswer) → FreezeFits c x.holder s →
    IsWord (extents_of c) (freeze_next x s hook).0
freeze_word c x s hook f = grind arith

-- What comes after a look at who holds a freeze: a refusal, where its own holder does, or else the store with it.
pub found_cases : (x : Freeze) (held : Holders) (P : FreezeStep → Type 0) → (held_by held x.holder ≡ true → P (FreezeStep.Releases (Err GateError.Busy))) →
    (held_by held x.holder ≡ false → P (FreezeStep.Holds held)) → P (found_holders x held)
found_cases x held P own other = both (held_by held x.holder) (λ b. P (if b then FreezeStep.Releases (Err GateError.Busy) else FreezeStep.Holds held)) own other

-- an action with which a task holds what it held
abbrev MovesNone : Option Action → Type 0
MovesNone a = (held : Holdings) → ActionFits held a × (held_after a held ≡ held)

-- and none of a freeze
freeze_moves : (x : Freeze) (s : FreezeStep) (found : ℕ) (hook : HookAnswer) → MovesNone (freeze_after x s found hook).1
freeze_moves x s found hook held = grind arith

-- its action can be done
pub freeze_acts : (x : Freeze) (s : FreezeStep) (held : Holdings) (found : ℕ) (hook : HookAnswer) →
    ActionFits held (freeze_after x s found hook).1
freeze_acts x s held found hook = (freeze_moves x s found hook held).0

module _ (c : Config) (within : IsWithin c) where
  -- what comes after each step of a freeze fits what its action leaves
  pub freeze_goes : (t : ℕ) (held : Holdings) (x : Freeze) (s : FreezeStep) (found : ℕ) (hook : HookAnswer) →
      PhaseFits c t held (Phase.Freezes (at_freeze x s)) →
      Fits c t (held_after (freeze_after x s found hook).1 held) (phase_after (map_next Phase.Freezes (freeze_after x s found hook).0))
  freeze_goes t held x s found hook f = grind (arith, common_steps)
