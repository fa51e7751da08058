-- All that is proved of a thaw.
use Rattle.gate_schedules.proofs.Prelude.{Config, Holder, Op, Phase, Thaw, after_step, arith, refl}
use Rattle.gate_schedules.proofs.frames.{Agreeing.none_agree, OperationLaws.{OpLaws, PhaseLaws, word_among}, Snapshots.completes_none}
use Rattle.gate_schedules.proofs.operations.thaw.{Causes.{thaw_own, thaw_stays}, Events.thaw_keeps, Fits.{thaw_acts, thaw_goes, thaw_there}}
use Rattle.gate_schedules.proofs.operations.thaw.{Runs.thaw_runs, Trace.{ThawAt, thaw_inductive}, Waits.thaw_waits}
use Rattle.gate_schedules.proofs.traces.TraceInvariant.{TraceLaws, traces_tell}

pub thaw_phase : (c : Config) (x : Thaw) → PhaseLaws c (Phase.Thaws x)
thaw_phase c x = record {
  step = λ lim w good t lt hook e. thaw_keeps c lim w good t lt hook x e;
  runs = λ lim w good t lt hook e. thaw_runs c lim w good t lt hook x e;
  completes = λ lim w good t lt hook e. completes_none c w t hook (Phase.Thaws x) (λ trace found. refl);
  word = λ n le t lt held hook f. word_among c n le _ (thaw_there c x x.step hook f.2);
  acts = λ lim t held found hook f. thaw_acts held x x.step found hook;
  goes = λ lim t held found hook f. thaw_goes c t held x x.step found hook f;
  agrees = λ t held seen same fits. (fits.0, rw (← none_agree held.levels seen.levels same.levels) fits.1, fits.2);
  stays = λ w next earlier after t f e was quiet h. thaw_stays c t w next earlier x x.step e h;
  causes = λ w earlier good t lt hook e after is h. thaw_own c t w (after_step w t (Phase.Thaws x) hook) earlier x hook x.step e is;
  reasons = λ lim w earlier good t lt hook e cause. thaw_waits c w earlier t good lt x hook x.step e cause;
}

thaw_traces : (c : Config) (holder : Holder) → TraceLaws c (Op.Thaw holder)
thaw_traces c holder = traces_tell (λ t. ThawAt c t holder) c (Op.Thaw holder) (λ t. thaw_inductive c t holder)

pub thaw_op : (c : Config) (holder : Holder) → OpLaws c (Op.Thaw holder)
thaw_op c holder = grind (arith, none_agree, thaw_traces)
