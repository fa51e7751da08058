-- A want waits only where another task has HOLD set at its mount, and is refused only for its cause, whether it is an operation of its own
-- or stands in a longer one.
use Rattle.gate_schedules.proofs.Prelude.{AtMount, Bool, Config, Err, HasReason, IsGood, List, MountPhase, Next, Ok, Phase, Want, WantStep, World}
use Rattle.gate_schedules.proofs.Prelude.{arith, false, found_by, has_flag, has_hold, map_next, read, role_of, true, ℕ, ◌<◌, ◌∷◌, ◌≡◌}
use Rattle.mount_counts.{proofs.laws.Bits.hold_set, specs.Phases.{hold_found, want_after, want_next}}
use Rattle.gate_world.specs.{Roles.want_role, refusals.{Causes.{WantRefused, last_question}, KeptCauses.WantCause, Waits.HasCulprit}}
use Rattle.gate_schedules.proofs.frames.Owners.{who_holds}

module _ (c : Config) (w : World) (earlier : List World) (good : IsGood c w) (t : ℕ) (lt : t < c.tasks) (x : Want) where
  -- where this comes after a step of the want, it is no wait, or another task has HOLD set; a refusal has its cause
  abbrev pub NextWaits : Next Want → Type 0
  NextWaits (Next.Go y) = Unit {0}
  NextWaits (Next.Wait y) = HasCulprit c w t (Phase.Mounts (MountPhase.Want x))
  NextWaits (Next.Done (Ok reply)) = Unit {0}
  NextWaits (Next.Done (Err refusal)) = WantRefused c t x.mount (last_question t (w ∷ earlier)) refusal

  -- HOLD was found set, and this task has not set it
  holder : x.mount < c.mounts → has_hold (role_of x.mount (w.views t).phase) ≡ 0 → has_flag (w.words.flags x.mount) 2 ≡ true →
      HasCulprit c w t (Phase.Mounts (MountPhase.Want x))
  holder there mine h =
      let who : (y : ℕ) × (y < c.tasks) × (y ≡ t → ⊥) × (has_hold (role_of x.mount (w.views y).phase) ≡ 1) =
      who_holds c w good t lt x.mount there (hold_set (w.words.flags x.mount) (good (AtMount x.mount) there).bits h) mine in
      record { task = who.0; there = who.1; other = who.2; stands = who.3 }

  -- so, where the want waits, another task has it set
  hold_waits : (b : Bool) → x.mount < c.mounts → has_hold (role_of x.mount (w.views t).phase) ≡ 0 →
      has_flag (w.words.flags x.mount) 2 ≡ true → NextWaits (hold_found x b)
  hold_waits true there mine h = holder there mine h
  hold_waits false there mine h = tt

  -- each step of a want
  pub want_waits : (s : WantStep) → x.mount < c.mounts → role_of x.mount (w.views t).phase ≡ want_role x.cpu s →
      WantCause c t w earlier x.mount s → NextWaits (want_after x s (found_by (want_next x s).1 (read w.words (want_next x s).0))).0
  want_waits s there e cause = grind (arith, hold_waits)

  -- so it is of a want's own operation
  pub next_waits : (n : Next Want) → NextWaits n →
      HasReason c w earlier t (Phase.Mounts (MountPhase.Want x)) (map_next Phase.Mounts (map_next MountPhase.Want n))
  next_waits n h = grind arith
