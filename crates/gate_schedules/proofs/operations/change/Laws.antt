-- All that is proved of a change.
use Rattle.gate_schedules.proofs.Prelude.{Bool, Config, Fits, Fitting, MountPhase, Op, Phase, Some, after_step, arith, held_of, ltb-true, most_events}
use Rattle.gate_schedules.proofs.Prelude.{no_roles, refl, subst, ℕ}
use Rattle.mount_counts.specs.declared.phases.Change.{Change}
use Rattle.gate_schedules.proofs.frames.{Agreeing.none_agree, Frames.role_none, OperationLaws.{IsSmall, OpLaws, PhaseLaws, by_bool, word_among}}
use Rattle.gate_schedules.proofs.{frames.Snapshots.completes_none, mounts.Runs.mounts_run, operations.change.Causes.{change_cause_stays, change_own}}
use Rattle.gate_schedules.proofs.operations.change.{Events.change_keeps, Fits.{change_acts, change_goes, change_there}, Trace.ChangeAt}
use Rattle.gate_schedules.proofs.{operations.change.{Trace.change_inductive as change_traced, Waits.change_waits}, traces.TraceInvariant.traces_tell}

pub change_phase : (c : Config) (x : Change) → PhaseLaws c (Phase.Mounts (MountPhase.Change x))
change_phase c x = record {
  step = λ lim w good t lt hook e. change_keeps c lim w good t lt hook x.mount x.read_only x.wait x.task x.processors x.step e;
  runs = λ lim w good t lt hook e i l1 l3. mounts_run c.tasks w t lt hook (MountPhase.Change x) e i;
  completes = λ lim w good t lt hook e. completes_none c w t hook (Phase.Mounts (MountPhase.Change x)) (λ trace found. refl);
  word = λ n le t lt held hook f. word_among c n le _ (change_there c x x.step f.0 f.4);
  acts = λ lim t held found hook f. change_acts c lim t held x x.step found;
  goes = λ lim t held found hook f. change_goes c lim t held x x.step found f;
  agrees = λ t held seen same fits. (fits.0, fits.1, fits.2, rw (← none_agree held.levels seen.levels same.levels) fits.3, fits.4);
  stays = λ w next earlier after t f e was quiet h. change_cause_stays c t w next earlier after x.mount x.read_only x.wait x.task x.processors
      x.step f.0 e was (quiet.mounts x.mount) h;
  causes = λ w earlier good t lt hook e after is h.
      let f : Fits c t (held_of (w.views t)) (Some (Phase.Mounts (MountPhase.Change x))) =
      subst (Fits c t (held_of (w.views t))) e (good Fitting t lt) in
      change_own c t lt w (after_step w t (Phase.Mounts (MountPhase.Change x)) hook) earlier good after hook x.mount x.read_only x.wait x.task
      x.processors x.step f.0 e refl h is;
  reasons = λ lim w earlier good t lt hook e cause.
      change_waits c w earlier good t lt x.mount x.read_only x.task x.processors hook x.wait x.step e cause;
}

pub change_op : (c : Config) (m : ℕ) (ro wait : Bool) → OpLaws c (Op.ChangeMount m ro wait)
change_op c m ro wait = record {
  fits = λ t held there order room. (ltb-true m c.mounts there, refl, refl, order, tt);
  starts_aside = λ t k. record no_roles { mount = λ y. role_none y m k };
  cause = λ t w earlier. tt;
  order_agrees = λ held seen same there. none_agree held.levels seen.levels same.levels;
  room_agrees = λ held seen same there. refl;
  restores = λ refusal trace before order. refl;
  file = λ t held order room. tt;
  traces = λ lim. traces_tell (λ t. ChangeAt c t m ro wait) c (Op.ChangeMount m ro wait) (λ t. change_traced c lim t m ro wait);
  most_small = λ lim. by_bool wait (λ w. IsSmall (most_events c (Op.ChangeMount m ro w))) tt (omega (arith, lim.processors));
}
