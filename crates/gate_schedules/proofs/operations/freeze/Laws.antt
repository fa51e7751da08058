-- All that is proved of a freeze, from the law of its steps and from what its trace tells.
use Rattle.gate_schedules.proofs.Prelude.{Config, Fits, Fitting, Freeze, FreezeStep, Holder, IsGood, KnowsStage, Op, Phase, PhaseFits, Some, Stages}
use Rattle.gate_schedules.proofs.Prelude.{World, after_step, freeze_stage_role, held_of, refl, stage_role_of, subst, ℕ, ◌<◌, ◌≡◌}
use Rattle.gate_schedules.proofs.frames.{Agreeing.none_agree, OperationLaws.{OpLaws, PhaseLaws, word_among}, Snapshots.completes_none}
use Rattle.gate_schedules.proofs.operations.freeze.{Causes.{freeze_own, freeze_stays}, Events.freeze_keeps, Fits.{freeze_acts, freeze_goes}}
use Rattle.gate_schedules.proofs.operations.freeze.{Fits.freeze_word, Runs.freeze_runs, Trace.{freeze_restores, freeze_traces}, Waits.freeze_waits}

-- what a freeze says of its task's accesses, in a good state
fits_here : (c : Config) (x : Freeze) (w : World) → IsGood c w → (t : ℕ) → t < c.tasks → (w.views t).phase ≡ Some (Phase.Freezes x) →
    PhaseFits c t (held_of (w.views t)) (Phase.Freezes x)
fits_here c x w good t lt e = subst (Fits c t (held_of (w.views t))) e (good Fitting t lt)

stage_here : (c : Config) (x : Freeze) (w : World) → IsGood c w → (t : ℕ) → t < c.tasks → (w.views t).phase ≡ Some (Phase.Freezes x) →
    x.step ≡ FreezeStep.LoadsHolders → w.words.stage ≡ 4
stage_here c x w good t lt e is =
    (subst (λ s. KnowsStage w.words.stage w.words.sb (freeze_stage_role x.nodes s)) is
    (subst (λ p. KnowsStage w.words.stage w.words.sb (stage_role_of p)) e ((good Stages).knows t lt))).0

pub freeze_phase : (c : Config) (x : Freeze) → PhaseLaws c (Phase.Freezes x)
freeze_phase c x = record {
  step = λ within w good t lt hook e. freeze_keeps c within w good t lt hook x e;
  runs = λ within w good t lt hook e. freeze_runs c within w good t lt hook x e;
  completes = λ within w good t lt hook e. completes_none c w t hook (Phase.Freezes x) (λ trace found. refl);
  word = λ n le t lt held hook f. word_among c n le _ (freeze_word c x x.step hook f.5);
  acts = λ within t held found hook f. freeze_acts x x.step held found hook;
  goes = λ within t held found hook f. freeze_goes c within t held x x.step found hook f;
  agrees = λ t held seen same fits.
      (fits.0, fits.1, fits.2, fits.3, rw (← none_agree held.levels seen.levels same.levels) fits.4, fits.5);
  stays = λ w next earlier after t f e was quiet h. freeze_stays c t w next earlier after x x.step f.5 e was quiet h;
  causes = λ w earlier good t lt hook e after is h.
      freeze_own c t w (after_step w t (Phase.Freezes x) hook) earlier after x hook x.step (fits_here c x w good t lt e).5
      (λ is_load. (stage_here c x w good t lt e is_load)) e refl h is;
  reasons = λ within w earlier good t lt hook e cause.
      freeze_waits c w earlier good t lt x hook x.step e (fits_here c x w good t lt e).5 cause;
}

pub freeze_op : (c : Config) (holder : Holder) → OpLaws c (Op.Freeze holder)
freeze_op c holder = record {
  fits = λ t held there order room. (refl, refl, refl, refl, order, tt);
  starts_aside = λ t. refl;
  cause = λ t w earlier. tt;
  order_agrees = λ held seen same there. none_agree held.levels seen.levels same.levels;
  room_agrees = λ held seen same there. refl;
  restores = λ refusal trace before order. freeze_restores holder refusal trace before;
  file = λ t held order room. tt;
  traces = freeze_traces c holder;
  most_small = λ within. tt;
}
