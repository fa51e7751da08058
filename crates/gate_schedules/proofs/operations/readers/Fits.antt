-- What fits after a step of a down-read, an up-read and a callback.
use Rattle.gate_schedules.proofs.Prelude.{ActionFits, Bool, Callback, Config, Done, DownRead, DownReadStep, DownReads, Err, Fits, Go, Holdings}
use Rattle.gate_schedules.proofs.Prelude.{IsWithin, IsWord, Next, Ok, PhaseFits, Wait, arith, common_steps, down_read_after, down_read_next}
use Rattle.gate_schedules.proofs.Prelude.{extents_of, held_after, map_next, phase_after, true, ℕ, ◌<◌, ◌≡◌, ◌≤◌}
use Rattle.gate_world.specs.{Fits.{GraceFits, ReadFits, ReadStepFits}, Operations.{holds_none_from, is_level_number}}
use Rattle.gate_world.specs.declared.work.Phase.TheVariants.{Callbacks}
use Rattle.percpu_rwsem.specs.{Callbacks.{at_callback, callback_after, callback_next}, declared.callbacks.CallbackStep.CallbackStep}

-- a number that is a level's
pub level_there : (i : ℕ) → is_level_number i ≡ true → (1 ≤ i) × (i ≤ 3)
level_there i h = grind arith

module _ (h k : ℕ → Bool) (levels : (i : ℕ) → 1 ≤ i → i ≤ 3 → h i ≡ k i) where
  -- accesses that agree at each level hold none from a level up alike
  pub none_from_agree : (i : ℕ) → holds_none_from i h ≡ holds_none_from i k
  none_from_agree i = rw (levels 1 (omega arith) (omega arith), levels 2 (omega arith) (omega arith), levels 3 (omega arith) (omega arith))

  -- and a step of a down-read fits them alike
  pub read_step_agrees : (i : ℕ) (s : DownReadStep) → 1 ≤ i → i ≤ 3 → ReadStepFits i h s → ReadStepFits i k s
  read_step_agrees i s l1 l3 f = grind arith

-- the word of each step of a down-read is there
pub read_there : (c : Config) (t : ℕ) → t < c.tasks → (r : DownRead) (s : DownReadStep) → 1 ≤ r.level → r.level ≤ 3 →
    r.cpu < c.processors → r.task ≡ t → IsWord (extents_of c) (down_read_next r s).0
read_there c t lt r s l1 l3 p same = grind arith

-- its action can be done
pub read_acts : (held : Holdings) (r : DownRead) (s : DownReadStep) (found : ℕ) → 1 ≤ r.level → r.level ≤ 3 →
    ActionFits held (down_read_after r s found).1
read_acts held r s found l1 l3 = grind arith

-- What comes after a step of a down-read at this level, on this processor, fits these accesses; and where it ends well, the level is
-- held. So an operation that goes on inside the level knows that it is.
abbrev pub ReadGoes : Config → ℕ → ℕ → ℕ → Holdings → Next DownRead → Type 0
ReadGoes c t i p held (Go r) = ReadFits c t held r × (r.level ≡ i) × (r.cpu ≡ p)
ReadGoes c t i p held (Wait r) = ReadFits c t held r × (r.level ≡ i) × (r.cpu ≡ p)
ReadGoes c t i p held (Done (Ok reply)) = held.levels i ≡ true
ReadGoes c t i p held (Done (Err refusal)) = Unit {0}

module _ (c : Config) (t : ℕ) (r : DownRead) (l1 : 1 ≤ r.level) (l3 : r.level ≤ 3) (p : r.cpu < c.processors) (same : r.task ≡ t) where
  -- so it is after each step
  pub read_goes : (held : Holdings) (s : DownReadStep) (found : ℕ) → ReadStepFits r.level held.levels s →
      ReadGoes c t r.level r.cpu (held_after (down_read_after r s found).1 held) (down_read_after r s found).0
  read_goes held s found h = grind (arith, common_steps)

-- what comes after a step of a down-read that stands alone fits
pub read_fits : (c : Config) (t i p : ℕ) (held : Holdings) (n : Next DownRead) → ReadGoes c t i p held n →
    Fits c t held (phase_after (map_next DownReads n))
read_fits c t i p held n h = grind arith

-- the word of each step of a callback is there
pub callback_there : (c : Config) (b : Callback) (s : CallbackStep) → 1 ≤ b.level → b.level ≤ 3 → GraceFits c.tasks s →
    IsWord (extents_of c) (callback_next b s).0
callback_there c b s l1 l3 f = grind arith

module _ (c : Config) (within : IsWithin c) (t : ℕ) (held : Holdings) (b : Callback) where
  -- what comes after each step of a callback fits
  pub callback_goes : (s : CallbackStep) (found : ℕ) → PhaseFits c t held (Callbacks (at_callback b s)) →
      Fits c t held (phase_after (map_next Callbacks (callback_after b s found).0))
  callback_goes s found f = grind arith
