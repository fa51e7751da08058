-- A change waits only where another task has `umount`, and is refused only for its cause.
use Rattle.gate_schedules.proofs.Prelude.{Bool, ChangeStep, Config, Err, GateError, HasReason, HookAnswer, IsGood, List, Ok, Phase, World, after_of}
use Rattle.gate_schedules.proofs.Prelude.{ap, cases_Bool, eqb_tells, false, found_at, has_flag, inl, inr, owns, true, ℕ, ◌<◌, ◌∷◌, ◌≡◌}
use Rattle.gate_world.specs.refusals.{Causes.IsTaken, KeptCauses.ChangeCause}
use Rattle.gate_schedules.proofs.{frames.Owners.umount_taken, operations.change.Loads.{IsAt, change}}

module _ (c : Config) (w : World) (earlier : List World) (good : IsGood c w) (t : ℕ) (lt : t < c.tasks)
    (m : ℕ) (ro : Bool) (task processors : ℕ) (hook : HookAnswer) where
  taken : (wait : Bool) → IsAt c w good t lt m ro wait task processors hook ChangeStep.Locks → (w.words.umount ≡ 0 → ⊥) → IsTaken c t (w ∷ earlier)
  taken wait e some =
      let who = umount_taken c w good t lt (Phase.Mounts (change m ro wait task processors ChangeStep.Locks)) (λ y own. own) some (ap owns e) in
      (who.task, who.there, who.other, who.stands)

  pub change_waits : (wait : Bool) (s : ChangeStep) → IsAt c w good t lt m ro wait task processors hook s → ChangeCause c t w earlier m s →
      HasReason c w earlier t (Phase.Mounts (change m ro wait task processors s))
      (after_of (Phase.Mounts (change m ro wait task processors s)) (found_at w.words (Phase.Mounts (change m ro wait task processors s)) hook) hook).0
  change_waits true ChangeStep.Locks e cause =
      elim (eqb_tells w.words.umount 0) [
        | inl h ↦ rw h.0 tt
        | inr h ↦ rw h.0
            (umount_taken c w good t lt (Phase.Mounts (change m ro true task processors ChangeStep.Locks)) (λ y own. own) h.1 (ap owns e))
      ]
  change_waits false ChangeStep.Locks e cause = elim (eqb_tells w.words.umount 0) [ inl h ↦ rw h.0 tt | inr h ↦ rw h.0 (taken false e h.1) ]
  change_waits wait ChangeStep.LoadsFlags e cause = elim (cases_Bool (has_flag (w.words.flags m) 1)) [ inl h ↦ rw h tt | inr h ↦ rw h tt ]
  change_waits wait (ChangeStep.Releases (Ok reply)) e cause = tt
  change_waits wait (ChangeStep.Releases (Err GateError.Again)) e cause = absurd cause
  change_waits wait (ChangeStep.Releases (Err refusal)) e cause = cause
  change_waits wait other e cause = tt
