-- A phase that fits: the word of its next step is there and has a place, the action of the step can be done, and the phase that comes
-- fits.
use Rattle.gate_schedules.proofs.Prelude.{ActionFits, Agree, Config, Fits, Holdings, HookAnswer, IsWithin, IsWord, None, Option, Phase, PhaseFits}
use Rattle.gate_schedules.proofs.Prelude.{Some, after_of, arith, held_after, next_of, phase_after, ℕ, ◌<◌}
use Rattle.{cpu_words.{proofs.Places.place_small, specs.Names.{place, words_in_all}}, gate_world.specs.Configs.{extents_among, extents_kept}}
use Rattle.gate_schedules.proofs.{frames.{OperationLaws.word_kept, Places.few_among}, operations.AllOperations.phase_keeps}

module _ (c : Config) (within : IsWithin c) (t : ℕ) (held : Holdings) where
  -- the word of its next step is there
  pub word_there : t < c.tasks → (phase : Phase) (hook : HookAnswer) → PhaseFits c t held phase →
      IsWord (extents_kept c) (next_of phase hook).0
  word_there lt phase hook f = word_kept c within c.tasks _ ((phase_keeps c phase).word c.tasks (omega arith) t lt held hook f)

  -- and has a place, whatever number within the limits the task has
  pub word_placed : t < 64 → (phase : Phase) (hook : HookAnswer) → PhaseFits c t held phase →
      place (next_of phase hook).0 < words_in_all
  word_placed lt phase hook f =
      place_small (extents_among 64 c) (few_among c within) (next_of phase hook).0
      (word_kept c within 64 _ ((phase_keeps c phase).word 64 within.tasks t lt held hook f))

  -- the action of the step can be done
  pub action_fits : (phase : Phase) (found : ℕ) (hook : HookAnswer) → PhaseFits c t held phase →
      ActionFits held (after_of phase found hook).1
  action_fits phase found hook f = (phase_keeps c phase).acts within t held found hook f

  -- and the phase that comes fits what it leaves
  pub fits_after : (phase : Phase) (found : ℕ) (hook : HookAnswer) → PhaseFits c t held phase →
      Fits c t (held_after (after_of phase found hook).1 held) (phase_after (after_of phase found hook).0)
  fits_after phase found hook f = (phase_keeps c phase).goes within t held found hook f

-- whatever the phase, holdings that agree fit alike
pub fits_agree : (c : Config) (t : ℕ) (held seen : Holdings) → Agree c held seen → (phase : Option Phase) → Fits c t held phase → Fits c t seen phase
fits_agree c t held seen same None fits = tt
fits_agree c t held seen same (Some phase) fits = (phase_keeps c phase).agrees t held seen same fits
