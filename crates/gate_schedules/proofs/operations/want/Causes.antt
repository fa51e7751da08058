-- The causes of a want's refusals, along an execution, whether the want is an operation of its own or stands in a longer one.
use Rattle.gate_schedules.proofs.Prelude.{AtMount, Bool, CauseOf, Config, Err, GateError, IsGood, List, MountPhase, Next, Ok, Owner, Phase, Some}
use Rattle.gate_schedules.proofs.Prelude.{Stages, Want, WantStep, World, ap, arith, cases_Bool, eq-eqb, eqb_tells, false, found_by, has_flag}
use Rattle.gate_schedules.proofs.Prelude.{has_hold, inl, inr, map_next, phase_after, read, refl, ro_bit, role_of, subst, sym, true, ℕ, ◌<◌, ◌==◌, ◌∙◌}
use Rattle.gate_schedules.proofs.Prelude.{◌∷◌, ◌≡◌}
use Rattle.mount_counts.{proofs.laws.Bits.{hold_set, read_only_set}, specs.Phases.{hold_found, want_after, want_next}}
use Rattle.gate_world.specs.{Roles.want_role, refusals.{Causes.{WantRefused, WasHeld, asks, want_asks}, KeptCauses.WantCause}}
use Rattle.gate_schedules.proofs.{frames.Owners.who_holds, traces.Moments.{or_true, question_skips, question_stands}}

-- a task whose next step is that of a want, in its own operation or in a longer one, and which another transition leaves alone
module _ (c : Config) (t : ℕ) (w next : World) (earlier : List World) where
  -- keeps the cause of a refusal that is to come
  pub want_cause_stays : (m : ℕ) (s : WantStep) → asks (next.views t).phase ≡ want_asks s → WantCause c t w earlier m s →
      WantCause c t next (w ∷ earlier) m s
  want_cause_stays m s e h = grind arith

-- whether what comes after a step of a want asks the read-only question
abbrev pub next_asks : Next Want → Bool
next_asks (Next.Go x) = want_asks x.step
next_asks (Next.Wait x) = want_asks x.step
next_asks (Next.Done answer) = false

pub next_asked : (n : Next Want) → asks (phase_after (map_next Phase.Mounts (map_next MountPhase.Want n))) ≡ next_asks n
next_asked n = grind arith

module _ (c : Config) (t : ℕ) (w : World) (earlier : List World) (m : ℕ) where
  -- what comes after a step of a want has its cause, and so has its refusal, where it ends with one
  abbrev pub NextCause : Next Want → Type 0
  NextCause (Next.Go x) = (x.mount ≡ m) × WantCause c t w earlier m x.step
  NextCause (Next.Wait x) = (x.mount ≡ m) × WantCause c t w earlier m x.step
  NextCause (Next.Done (Ok reply)) = Unit {0}
  NextCause (Next.Done (Err refusal)) = WantCause c t w earlier m (WantStep.CountsDown refusal)

  pub next_cause : (n : Next Want) → NextCause n → CauseOf c t w earlier (phase_after (map_next Phase.Mounts (map_next MountPhase.Want n)))
  next_cause n h = grind arith

-- the task that steps: what comes after its step says, in the state after the step
module _ (c : Config) (t : ℕ) (lt : t < c.tasks) (w next : World) (earlier : List World) (good : IsGood c w) where
  -- the question was asked in the state before the step, and not again
  asked : (m : ℕ) (refusal : GateError) → asks (w.views t).phase ≡ true → asks (next.views t).phase ≡ false →
      WantRefused c t m (Some w) refusal → WantCause c t next (w ∷ earlier) m (WantStep.CountsDown refusal)
  asked m refusal a e h =
      subst (λ q. WantRefused c t m q refusal) (sym (question_skips t next (w ∷ earlier) e ∙ question_stands t w earlier a)) h

  -- a want that found HOLD set asks again, or is refused: another task had it set
  hold_own : (x : Want) (b : Bool) → asks (w.views t).phase ≡ true → asks (next.views t).phase ≡ next_asks (hold_found x b) →
      WasHeld c t x.mount (Some w) → NextCause c t next (w ∷ earlier) x.mount (hold_found x b)
  hold_own x true a e held = (refl, tt)
  hold_own x false a e held = (refl, asked x.mount GateError.Again a e held)

  -- what comes after a step of a want has its cause, whatever operation the want stands in
  pub want_own : (x : Want) (s : WantStep) → x.mount < c.mounts → asks (w.views t).phase ≡ want_asks s →
      role_of x.mount (w.views t).phase ≡ want_role x.cpu s →
      let found : ℕ = found_by (want_next x s).1 (read w.words (want_next x s).0) in
      asks (next.views t).phase ≡ next_asks (want_after x s found).0 → WantCause c t w earlier x.mount s →
      NextCause c t next (w ∷ earlier) x.mount (want_after x s found).0
  want_own x WantStep.CountsUp lm e is e' h = (refl, tt)
  want_own x WantStep.LoadsHold lm e is e' h =
      elim (cases_Bool (has_flag (w.words.flags x.mount) 2)) [
        | inl f ↦
            let held : WasHeld c t x.mount (Some w) =
            who_holds c w good t lt x.mount lm (hold_set (w.words.flags x.mount) (good (AtMount x.mount) lm).bits f) (ap has_hold is) in
            rw f (hold_own x x.wait e (rw f at e') held)
        | inr f ↦ rw f (refl, tt)
      ]
  want_own x WantStep.LoadsRemount lm e is e' h =
      elim (eqb_tells w.words.remount 0) [
        | inl f ↦ rw f.0 (refl, tt)
        | inr f ↦
            let one : w.words.remount ≡ 1 = omega (arith, f.1, (good Owner).bit) in
            rw f.0 (
              refl,
              asked x.mount GateError.ReadOnly e (rw f.0 at e')
                  (rw (eq-eqb w.words.remount 1 one, or_true (ro_bit (w.words.flags x.mount) == 1)) refl),
            )
      ]
  want_own x WantStep.LoadsReadOnly lm e is e' h =
      elim (cases_Bool (has_flag (w.words.flags x.mount) 1)) [
        | inl f ↦
            let set : ro_bit (w.words.flags x.mount) ≡ 1 = read_only_set (w.words.flags x.mount) (good (AtMount x.mount) lm).bits f in
            rw f (refl, asked x.mount GateError.ReadOnly e (rw f at e') (rw (eq-eqb (ro_bit (w.words.flags x.mount)) 1 set) refl))
        | inr f ↦ rw f (refl, tt)
      ]
  want_own x WantStep.LoadsSuperblock lm e is e' h =
      elim (eqb_tells w.words.sb 0) [
        | inl f ↦ rw f.0 tt
        | inr f ↦
            let one : w.words.sb ≡ 1 = omega (arith, f.1, (good Stages).superblock) in
            rw f.0 (
              refl,
              asked x.mount GateError.ReadOnly e (rw f.0 at e')
                  (rw (eq-eqb w.words.sb 1 one, or_true (w.words.remount == 1), or_true (ro_bit (w.words.flags x.mount) == 1)) refl),
            )
      ]
  want_own x (WantStep.CountsDown refusal) lm e is e' h =
      subst (λ q. WantRefused c t x.mount q refusal) (sym (question_skips t next (w ∷ earlier) e')) h
