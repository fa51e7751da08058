-- Moments of an execution: the last question, the last look at the stage, the moments of a sum, and what was counted.
use Rattle.gate_schedules.proofs.Prelude.{AtMount, Bool, Config, IsGood, List, MountHoldsIn, None, Some, World, [], all_counted, arith, false, ne_eqb}
use Rattle.gate_schedules.proofs.Prelude.{refl, total, true, ℕ, ◌%◌, ◌<◌, ◌||◌, ◌∷◌, ◌≡◌}
use Rattle.cpu_words.{proofs.gate_counts.{Events.words_sum, Numbers.ahead_none}, specs.Sums.{ahead, lead}}
use Rattle.gate_world.specs.refusals.Causes.{asks, last_look, last_question, looks_at_stage, moments_of_sum, was_counted, words_read}

pub or_true : (b : Bool) → (b || true) ≡ true
or_true true = refl
or_true false = refl

-- the last question, the last look at the stage and the moments of a sum, one state on
module _ (t : ℕ) (w : World) (earlier : List World) where
  pub question_skips : asks (w.views t).phase ≡ false → last_question t (w ∷ earlier) ≡ last_question t earlier
  question_skips h = rw h refl

  pub question_stands : asks (w.views t).phase ≡ true → last_question t (w ∷ earlier) ≡ Some w
  question_stands h = rw h refl

  pub look_skips : looks_at_stage (w.views t).phase ≡ false → last_look t (w ∷ earlier) ≡ last_look t earlier
  look_skips h = rw h refl

  pub sum_skips : words_read (w.views t).phase ≡ None → moments_of_sum t (w ∷ earlier) ≡ moments_of_sum t earlier
  sum_skips h = rw h refl

  pub sum_begins : words_read (w.views t).phase ≡ Some 0 → moments_of_sum t (w ∷ earlier) ≡ w ∷ []
  sum_begins h = rw h refl

  pub sum_goes : (k : ℕ) → words_read (w.views t).phase ≡ Some k → (k ≡ 0 → ⊥) →
      moments_of_sum t (w ∷ earlier) ≡ w ∷ moments_of_sum t earlier
  sum_goes k h ne = rw (h, ne_eqb k 0 ne) refl

-- where nothing is counted, a sum that begins leads by 0
pub fresh_lead : (c : Config) (w : World) → IsGood c w → (m : ℕ) → m < c.mounts → all_counted c m w ≡ 0 →
    lead c.processors (w.words.count m) 0 0 ≡ 0
fresh_lead c w good m lm none =
    let g : MountHoldsIn c w m = good (AtMount m) lm in
    let s : total c.processors (w.words.count m) % 18446744073709551616 ≡ all_counted c m w % 18446744073709551616 =
    words_sum g.gate.counts in
    let a : ahead c.processors (w.words.count m) 0 ≡ total c.processors (w.words.count m) = ahead_none c.processors (w.words.count m) in
    omega (arith, s, a, none)

-- nothing was counted in any of these states
pub none_counted : (c : Config) (m : ℕ) (w : World) (earlier : List World) → was_counted c m (w ∷ earlier) ≡ false →
    (all_counted c m w ≡ 0) × (was_counted c m earlier ≡ false)
none_counted c m w earlier h = grind arith
