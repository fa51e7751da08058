-- All that is proved of a callback.
use Rattle.gate_schedules.proofs.Prelude.{Action, ActionFits, Callback, CauseOf, Config, Fits, Fitting, List, Next, Op, Option, Phase, Some, World}
use Rattle.gate_schedules.proofs.Prelude.{after_step, arith, found_at, held_after, held_of, map_next, no_roles, phase_after, refl, subst, sym, ℕ, ◌∷◌}
use Rattle.gate_schedules.proofs.Prelude.{◌≤◌}
use Rattle.percpu_rwsem.specs.Callbacks.{callback_after}
use Rattle.gate_schedules.proofs.frames.{Frames.sync_none, OperationLaws.{OpLaws, PhaseLaws, word_among}, Snapshots.completes_none}
use Rattle.gate_schedules.proofs.operations.callback.{Events.{callback_keeps, no_action}, Trace.{CallbackAt, callback_inductive}}
use Rattle.gate_schedules.proofs.operations.readers.{Fits.{callback_goes, callback_there, level_there}, Runs.callback_runs, Waits.callback_waits}
use Rattle.gate_schedules.proofs.traces.TraceInvariant.{traces_tell}

-- what comes after a step of a callback has no cause
callback_cause : (c : Config) (t : ℕ) (w : World) (earlier : List World) (n : Next Callback) →
    CauseOf c t w earlier (phase_after (map_next Phase.Callbacks n))
callback_cause c t w earlier n = grind arith

pub callback_phase : (c : Config) (b : Callback) → PhaseLaws c (Phase.Callbacks b)
callback_phase c b = record {
  step = λ within w good t lt hook e. callback_keeps c within w good t lt hook b e;
  runs = λ within w good t lt hook e i one three. callback_runs c w good t lt hook b e i;
  completes = λ within w good t lt hook e. completes_none c w t hook (Phase.Callbacks b) (λ trace found. refl);
  word = λ n le t lt held hook f. word_among c n le _ (callback_there c b b.step f.0 f.1 f.3);
  acts = λ within t held found hook f.
      subst (ActionFits held) (sym (no_action b b.step found)) tt;
  goes = λ within t held found hook f.
      subst (λ (a : Option Action). Fits c t (held_after a held)
      (phase_after (map_next Phase.Callbacks (callback_after b b.step found).0)))
      (sym (no_action b b.step found)) (callback_goes c within t held b b.step found f);
  agrees = λ t held seen same fits. fits;
  stays = λ w next earlier good t f e was quiet h. tt;
  causes = λ w earlier good t lt hook e after is h.
      callback_cause c t (after_step w t (Phase.Callbacks b) hook) (w ∷ earlier)
      (callback_after b b.step (found_at w.words (Phase.Callbacks b) hook)).0;
  reasons = λ within w earlier good t lt hook e cause.
      let f : Fits c t (held_of (w.views t)) (Some (Phase.Callbacks b)) =
      subst (Fits c t (held_of (w.views t))) e (good Fitting t lt) in
      callback_waits c w earlier t good b hook b.step e f.3;
}

pub callback_op : (c : Config) (i : ℕ) → OpLaws c (Op.Callback i)
callback_op c i = record {
  fits = λ t held there order room.
      let l : (1 ≤ i) × (i ≤ 3) = level_there i there in
      (l.0, l.1, refl, tt, tt);
  starts_aside = λ t k. record no_roles { sync = λ j. sync_none j i k };
  cause = λ t w earlier. tt;
  order_agrees = λ held seen same there. refl;
  room_agrees = λ held seen same there. refl;
  restores = λ refusal trace before order. refl;
  file = λ t held order room. tt;
  traces = λ within. traces_tell (λ t. CallbackAt i c.tasks) c (Op.Callback i) (λ t. callback_inductive c t i);
  most_small = λ within. tt;
}
