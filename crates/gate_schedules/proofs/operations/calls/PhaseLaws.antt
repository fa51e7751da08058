-- All that is proved of each step of a call at the tree.
use Rattle.gate_schedules.proofs.Prelude.{Config, Fits, Fitting, Phase, TreePhase, after_step, held_of, subst}
use Rattle.gate_schedules.proofs.{frames.{Agreeing.access_agrees, OperationLaws.PhaseLaws}, operations.calls.Causes.{tree_own, tree_stays}}
use Rattle.gate_schedules.proofs.operations.calls.{Events.{call_completes, call_step}, Fits.tree_acts, Waits.tree_waits, Words.tree_there}
use Rattle.gate_schedules.proofs.trees.worlds.{Events.tree_run, Parts.{call_at, call_goes}}

pub tree_phase_keeps : (c : Config) (x : TreePhase) → PhaseLaws c (Phase.Trees x)
tree_phase_keeps c x = record {
  step = λ within w good t lt hook e. call_step c within w good t lt hook x e;
  runs = λ within w good t lt hook e i one three. tree_run c.tasks w t lt (Phase.Trees x) hook e (call_at w x hook) i;
  completes = λ within w good t lt hook e. call_completes c within w good t lt hook x e;
  word = λ n le t lt held hook f. tree_there c n t x hook f.0;
  acts = λ within t held found hook f. tree_acts held c within t x found hook f;
  goes = λ within t held found hook f. call_goes c held within t x found hook f;
  agrees = λ t held seen same fits. (fits.0, access_agrees c held seen same.mounts same.levels x fits.1);
  stays = λ w next earlier good t fits e was quiet h. tree_stays c t w next earlier x e h;
  causes = λ w earlier good t lt hook e after is h. tree_own c t w (after_step w t (Phase.Trees x) hook) earlier hook x e is;
  reasons = λ within w earlier good t lt hook e cause.
      tree_waits c w earlier t good lt hook x e (subst (Fits c t (held_of (w.views t))) e (good Fitting t lt)) cause;
}
