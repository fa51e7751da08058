-- All that is proved of a want and of a drop.
use Rattle.gate_schedules.proofs.Prelude.{Bool, Config, Fits, Fitting, MountPhase, Next, Op, Phase, Some, Want, World, after_step, ap, arith}
use Rattle.gate_schedules.proofs.Prelude.{found_at, held_of, ltb-true, most_events, nat_lt, no_roles, refl, subst, true, want_after, ℕ, ◌∙◌, ◌∷◌, ◌≡◌}
use Rattle.std.proofs.lemmas.Bool.{and_parts}
use Rattle.gate_world.specs.refusals.Causes.{asks}
use Rattle.gate_schedules.proofs.frames.{Frames.role_none, OperationLaws.{IsSmall, OpLaws, PhaseLaws, by_bool, word_among}, Snapshots.completes_none}
use Rattle.gate_schedules.proofs.{mounts.Runs.mounts_run, operations.want.Causes.{next_asked, next_cause, want_cause_stays, want_own}}
use Rattle.gate_schedules.proofs.operations.want.{Events.{drop_keeps, want_keeps}, Fits.{want_acts, want_goes, want_there}, Loads.want_here}
use Rattle.gate_schedules.proofs.operations.want.Trace.{DropAt, WantAt, drop_inductive, want_inductive as want_traced}
use Rattle.gate_schedules.proofs.{operations.want.Waits.{next_waits, want_waits}, traces.TraceInvariant.{TraceLaws, traces_tell}}

pub want_phase : (c : Config) (x : Want) → PhaseLaws c (Phase.Mounts (MountPhase.Want x))
want_phase c x = record {
  step = λ lim w good t lt hook e. want_keeps c lim w good t lt hook x.mount x.cpu x.wait x.step e;
  runs = λ lim w good t lt hook e i l1 l3. mounts_run c.tasks w t lt hook (MountPhase.Want x) e i;
  completes = λ lim w good t lt hook e. completes_none c w t hook (Phase.Mounts (MountPhase.Want x)) (λ trace found. refl);
  word = λ n le t lt held hook f. word_among c n le _ (want_there c x x.step f.0 f.1);
  acts = λ lim t held found hook f. want_acts c lim t held x x.step found (omega (arith, f.0, lim.mounts)) f.2;
  goes = λ lim t held found hook f. want_goes c lim t held x x.step found f;
  agrees = λ t held seen same fits. (fits.0, fits.1, omega (arith, fits.2, same.mounts x.mount fits.0));
  stays = λ w next earlier after t f e was quiet h. want_cause_stays c t w next earlier x.mount x.step (ap asks e) h;
  causes = λ w earlier good t lt hook e after is h.
      let f : Fits c t (held_of (w.views t)) (Some (Phase.Mounts (MountPhase.Want x))) =
      subst (Fits c t (held_of (w.views t))) e (good Fitting t lt) in
      let next : World = after_step w t (Phase.Mounts (MountPhase.Want x)) hook in
      let coming : Next Want = (want_after x x.step (found_at w.words (Phase.Mounts (MountPhase.Want x)) hook)).0 in
      next_cause c t next (w ∷ earlier) x.mount coming
      (want_own c t lt w next earlier good x x.step f.0 (ap asks e) (want_here x.mount x.cpu x.wait x.step e) (ap asks is ∙ next_asked coming) h);
  reasons = λ lim w earlier good t lt hook e cause.
      let f : Fits c t (held_of (w.views t)) (Some (Phase.Mounts (MountPhase.Want x))) =
      subst (Fits c t (held_of (w.views t))) e (good Fitting t lt) in
      next_waits c w earlier good t lt x (want_after x x.step (found_at w.words (Phase.Mounts (MountPhase.Want x)) hook)).0
      (want_waits c w earlier good t lt x x.step f.0 (want_here x.mount x.cpu x.wait x.step e) cause);
}

pub drop_phase : (c : Config) (m p : ℕ) → PhaseLaws c (Phase.Mounts (MountPhase.Drop m p))
drop_phase c m p = record {
  step = λ lim w good t lt hook e. drop_keeps c lim w good t lt hook m p e;
  runs = λ lim w good t lt hook e i l1 l3. mounts_run c.tasks w t lt hook (MountPhase.Drop m p) e i;
  completes = λ lim w good t lt hook e. completes_none c w t hook (Phase.Mounts (MountPhase.Drop m p)) (λ trace found. refl);
  word = λ n le t lt held hook f. (f.0, f.1);
  acts = λ lim t held found hook f. (omega (arith, f.0, lim.mounts), f.2);
  goes = λ lim t held found hook f. tt;
  agrees = λ t held seen same fits. (fits.0, fits.1, omega (arith, fits.2, same.mounts m fits.0));
  stays = λ w next earlier after t f e was quiet h. tt;
  causes = λ w earlier good t lt hook e after is h. tt;
  reasons = λ lim w earlier good t lt hook e cause. tt;
}

pub want_op : (c : Config) (m p : ℕ) (wait : Bool) → OpLaws c (Op.Want m p wait)
want_op c m p wait = record {
  fits = λ t held there order room.
      let at : (nat_lt m c.mounts ≡ true) × (nat_lt p c.processors ≡ true) = and_parts (nat_lt m c.mounts) (nat_lt p c.processors) there in
      (ltb-true m c.mounts at.0, ltb-true p c.processors at.1, ltb-true (held.mounts m) 1024 room);
  starts_aside = λ t k. record no_roles { mount = λ y. role_none y m k };
  cause = λ t w earlier. tt;
  order_agrees = λ held seen same there. refl;
  room_agrees = λ held seen same there. ap (λ y. nat_lt y 1024) (same.mounts m
      (ltb-true m c.mounts (and_parts (nat_lt m c.mounts) (nat_lt p c.processors) there).0));
  restores = λ refusal trace before order. refl;
  file = λ t held order room. tt;
  traces = λ lim. traces_tell (λ t. WantAt c m p wait) c (Op.Want m p wait) (λ t. want_traced c t m p wait);
  most_small = λ lim. by_bool wait (λ w. IsSmall (most_events c (Op.Want m p w))) tt (omega arith);
}

drop_traces : (c : Config) (m p : ℕ) → TraceLaws c (Op.DropMount m p)
drop_traces c m p = traces_tell (λ t. DropAt m p) c (Op.DropMount m p) (λ t. drop_inductive c t m p)

pub drop_op : (c : Config) (m p : ℕ) → OpLaws c (Op.DropMount m p)
drop_op c m p = grind (arith, and_parts, ltb-true, drop_traces)
