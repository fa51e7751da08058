-- A remount waits only where another task has `umount`, and is refused only for its cause.
use Rattle.gate_schedules.proofs.Prelude.{Config, Err, GateError, HasReason, HookAnswer, IsGood, List, Ok, Phase, Remount, RemountStep, Some, World}
use Rattle.gate_schedules.proofs.Prelude.{after_of, ap, at_remount, cases_Bool, eqb_tells, found_at, has_flag, inl, inr, owns, refl, ℕ, ◌<◌, ◌≡◌}
use Rattle.gate_world.specs.refusals.KeptCauses.{RemountCause}
use Rattle.gate_schedules.proofs.frames.Owners.{umount_taken}

module _ (c : Config) (w : World) (earlier : List World) (good : IsGood c w) (t : ℕ) (lt : t < c.tasks) (x : Remount) where
  pub remount_waits : (hook : HookAnswer) (s : RemountStep) → (w.views t).phase ≡ Some (Phase.Remounts (at_remount x s)) →
      RemountCause c t w earlier s →
      HasReason c w earlier t (Phase.Remounts (at_remount x s))
      (after_of (Phase.Remounts (at_remount x s)) (found_at w.words (Phase.Remounts (at_remount x s)) hook) hook).0
  remount_waits hook RemountStep.Locks e cause =
      elim (eqb_tells w.words.umount 0) [
        | inl h ↦ rw h.0 tt
        | inr h ↦ rw h.0 (umount_taken c w good t lt (Phase.Remounts (at_remount x RemountStep.Locks)) (λ y own. own) h.1 (ap owns e))
      ]
  remount_waits hook RemountStep.LoadsStage e cause = elim (eqb_tells w.words.stage 0) [ inl h ↦ rw h.0 tt | inr h ↦ rw h.0 tt ]
  remount_waits (Ok answer) RemountStep.SetsWritable e cause = tt
  remount_waits (Err code) RemountStep.SetsWritable e cause = tt
  remount_waits hook (RemountStep.LoadsFlags m held) e cause = elim (cases_Bool (has_flag (w.words.flags m) 1)) [ inl h ↦ rw h tt | inr h ↦ rw h tt ]
  remount_waits hook RemountStep.LoadsRemoved e cause = elim (eqb_tells w.words.removed 0) [ inl h ↦ rw h.0 tt | inr h ↦ rw h.0 tt ]
  remount_waits hook (RemountStep.LoadsRemovedAgain held) e cause = elim (eqb_tells w.words.removed 0) [ inl h ↦ rw h.0 tt | inr h ↦ rw h.0 tt ]
  remount_waits (Ok answer) RemountStep.SetsReadOnly e cause = tt
  remount_waits (Err code) RemountStep.SetsReadOnly e cause = tt
  remount_waits hook (RemountStep.Releases (Ok reply)) e cause = tt
  remount_waits hook (RemountStep.Releases (Err GateError.Busy)) e cause = cause refl
  remount_waits hook (RemountStep.Releases (Err refusal)) e cause = tt
  remount_waits hook other e cause = tt
