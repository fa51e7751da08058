-- All that is proved of a remount.
use Rattle.gate_schedules.proofs.Prelude.{Bool, Config, Fits, Fitting, IsWithin, Op, Phase, Remount, Some, after_step, arith, held_of, refl, subst}
use Rattle.gate_schedules.proofs.frames.{Agreeing.none_agree, OperationLaws.{OpLaws, PhaseLaws, word_among}, Snapshots.completes_none}
use Rattle.gate_schedules.proofs.operations.remount.{Causes.{remount_own, remount_stays}, Events.remount_keeps, Fits.{remount_acts, remount_goes}}
use Rattle.gate_schedules.proofs.operations.remount.{Fits.remount_there, Runs.remount_runs, Trace.{RemountAt, remount_inductive, remount_restores}}
use Rattle.gate_schedules.proofs.{operations.remount.Waits.remount_waits, traces.TraceInvariant.{TraceLaws, traces_tell}}

pub remount_phase : (c : Config) (x : Remount) → PhaseLaws c (Phase.Remounts x)
remount_phase c x = record {
  step = λ lim w good t lt hook e. remount_keeps c lim w good t lt hook x e;
  runs = λ lim w good t lt hook e i l1 l3. remount_runs c w good t lt hook x e i;
  completes = λ lim w good t lt hook e. completes_none c w t hook (Phase.Remounts x) (λ trace found. refl);
  word = λ n le t lt held hook f. word_among c n le _ (remount_there c x x.step hook f.5);
  acts = λ lim t held found hook f. remount_acts c lim t held x x.step found hook;
  goes = λ lim t held found hook f. remount_goes c lim t held x x.step found hook f;
  agrees = λ t held seen same fits.
      (fits.0, fits.1, fits.2, fits.3, rw (← none_agree held.levels seen.levels same.levels) fits.4, fits.5);
  stays = λ w next earlier after t f e was quiet h. remount_stays c t w next earlier after x x.step f.5 e was quiet.mounts h;
  causes = λ w earlier good t lt hook e after is h.
      let f : Fits c t (held_of (w.views t)) (Some (Phase.Remounts x)) =
      subst (Fits c t (held_of (w.views t))) e (good Fitting t lt) in
      remount_own c t w (after_step w t (Phase.Remounts x) hook) earlier after x hook x.step f.1 f.5 e refl h is;
  reasons = λ lim w earlier good t lt hook e cause. remount_waits c w earlier good t lt x hook x.step e cause;
}

remount_traces : (c : Config) (ro : Bool) → IsWithin c → TraceLaws c (Op.RemountSb ro)
remount_traces c ro lim = traces_tell (λ t. RemountAt c t ro) c (Op.RemountSb ro) (λ t. remount_inductive c lim t ro)

pub remount_op : (c : Config) (ro : Bool) → OpLaws c (Op.RemountSb ro)
remount_op c ro = grind (arith, none_agree, remount_restores, remount_traces)
