-- The causes of a change's refusals, along an execution.
use Rattle.gate_schedules.proofs.Prelude.{Bool, CauseOf, ChangeStep, Config, Err, GateError, HookAnswer, IsGood, List, None, Phase, Reply, Result}
use Rattle.gate_schedules.proofs.Prelude.{Some, Sum, World, after_of, ap, arith, cases_Bool, eqb_tells, found_at, holds_level, inl, inr, ltb-false}
use Rattle.gate_schedules.proofs.Prelude.{nat_lt, phase_after, suc, true, words_after, wrap_add, ℕ, ◌+◌, ◌<◌, ◌∷◌, ◌≡◌}
use Rattle.mount_counts.specs.Phases.{step_between}
use Rattle.gate_world.specs.{Fits.SumFits, Operations.holds_none, refusals.{Causes.{all_counted, words_read}, KeptCauses.{AnswerCause, ChangeCause}}}
use Rattle.gate_schedules.proofs.{frames.Words.load_same, mounts.{Loads.fits_now, SumCauses.{counted_stays, sum_ends, sum_starts, sum_stays}}}
use Rattle.gate_schedules.proofs.{mounts.SumCauses.sum_takes, operations.change.Loads.change}

-- a task whose view another transition leaves alone
module _ (c : Config) (t : ℕ) (w next : World) (earlier : List World) where
  -- the cause of an answer stays where no word of a sum is to be loaded
  answer_stays : (m : ℕ) (answer : Result Reply GateError) → words_read (next.views t).phase ≡ None → AnswerCause c t w earlier m answer →
      AnswerCause c t next (w ∷ earlier) m answer
  answer_stays m answer e h = grind arith

module _ (c : Config) (t : ℕ) (w next : World) (earlier : List World) (good : IsGood c next) where
  -- the cause of each step stays
  pub change_cause_stays : (m : ℕ) (ro wait : Bool) (task processors : ℕ) (s : ChangeStep) → m < c.mounts →
      (next.views t).phase ≡ Some (Phase.Mounts (change m ro wait task processors s)) →
      (w.views t).phase ≡ Some (Phase.Mounts (change m ro wait task processors s)) →
      (all_counted c m w ≡ 0 → all_counted c m next ≡ 0 → next.words.count m ≡ w.words.count m) → ChangeCause c t w earlier m s →
      ChangeCause c t next (w ∷ earlier) m s
  change_cause_stays m ro wait task processors s lm e was quiet h = grind (arith, sum_stays, answer_stays)

-- the task that steps: what its next phase says, in the state after the step
module _ (c : Config) (t : ℕ) (lt : t < c.tasks) (w next : World) (earlier : List World) (good : IsGood c w) (after : IsGood c next)
    (hook : HookAnswer) where
  between_own : (m : ℕ) (ro b : Bool) → ChangeCause c t next (w ∷ earlier) m (step_between ro b)
  between_own m ro b = grind arith

  -- a sum with one word more: it goes on, it was 0, or somebody was counted
  sum_own : (m : ℕ) (ro wait : Bool) (task processors : ℕ) (sum : Sum) →
      (w.views t).phase ≡ Some (Phase.Mounts (change m ro wait task processors (ChangeStep.Sums sum))) →
      next.words.count m ≡ w.words.count m → ChangeCause c t w earlier m (ChangeStep.Sums sum) →
      (next.views t).phase ≡ phase_after (after_of (Phase.Mounts (change m ro wait task processors (ChangeStep.Sums sum)))
      (w.words.count m sum.words) hook).0 →
      CauseOf c t next (w ∷ earlier) (phase_after (after_of (Phase.Mounts (change m ro wait task processors (ChangeStep.Sums sum)))
      (w.words.count m sum.words) hook).0)
  sum_own m ro wait task processors sum e same h e' =
      let f : (m < c.mounts) × (task ≡ t) × (processors ≡ c.processors) × (holds_none (holds_level (w.views t)) ≡ true) ×
      SumFits c (ChangeStep.Sums sum) = fits_now c w good t lt (change m ro wait task processors (ChangeStep.Sums sum)) e in
      let k : ℕ = sum.words in
      let total : ℕ = wrap_add sum.total (w.words.count m k) in
      elim (cases_Bool (nat_lt (k + 1) processors)) [
        | inl more ↦
            let e2 : (next.views t).phase ≡ Some (Phase.Mounts (change m ro wait task processors
            (ChangeStep.Sums record { words = k + 1; total = total }))) = rw more at e' in
            rw more (sum_takes c t m w next earlier sum h f.4 same (ap words_read e2))
        | inr less ↦
            elim (eqb_tells total 0) [
              | inl z ↦ rw (less, z.0) tt
              | inr z ↦
                  let e2 : (next.views t).phase ≡ Some (Phase.Mounts (change m ro wait task processors (ChangeStep.ClearsHold (Err GateError.Busy)))) =
                  rw (less, z.0) at e' in
                  let last : suc k ≡ c.processors = omega (arith, f.4, ltb-false (k + 1) processors less, f.2) in
                  rw (less, z.0) (counted_stays c t m next (w ∷ earlier) (ap words_read e2)
                  (sum_ends c t m w next earlier sum h f.4 last z.1))
            ]
      ]

  -- what comes after a step has its cause
  pub change_own : (m : ℕ) (ro wait : Bool) (task processors : ℕ) (s : ChangeStep) → m < c.mounts →
      (w.views t).phase ≡ Some (Phase.Mounts (change m ro wait task processors s)) →
      next.words ≡ words_after w.words (Phase.Mounts (change m ro wait task processors s)) hook → ChangeCause c t w earlier m s →
      (next.views t).phase ≡ phase_after (after_of (Phase.Mounts (change m ro wait task processors s))
      (found_at w.words (Phase.Mounts (change m ro wait task processors s)) hook) hook).0 →
      CauseOf c t next (w ∷ earlier) (phase_after (after_of (Phase.Mounts (change m ro wait task processors s))
      (found_at w.words (Phase.Mounts (change m ro wait task processors s)) hook) hook).0)
  change_own m ro wait task processors s lm e same h e' = grind (arith, between_own, sum_starts, sum_own, load_same, answer_stays)
