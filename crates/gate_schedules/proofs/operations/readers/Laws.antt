-- All that is proved of a start and of an end.
use Rattle.gate_schedules.proofs.Prelude.{Bool, Config, DownRead, DownReads, Fits, Fitting, Some, World, after_step, ap, arith, closed}
use Rattle.gate_schedules.proofs.Prelude.{down_read_after, found_at, held_after, held_of, most_events, nat_lt, no_roles, refl, subst, sym}
use Rattle.gate_schedules.proofs.Prelude.{sync_role_of, true, ℕ, ◌&&◌, ◌+◌, ◌-◌, ◌<◌, ◌∙◌, ◌≡◌, ◌≤◌}
use Rattle.gate_world.specs.{Operations.is_level_number, declared.{operations.Op.TheVariants.{End, Start}, work.Phase.TheVariants.UpReads}}
use Rattle.gate_world.specs.refusals.Causes.{asks_level}
use Rattle.percpu_rwsem.specs.declared.readers.UpRead.{UpRead}
use Rattle.gate_schedules.proofs.frames.{Frames.{count_none, sync_none}, OperationLaws.{IsSmall, OpLaws, PhaseLaws, by_bool}}
use Rattle.gate_schedules.proofs.{frames.Snapshots.completes_none, operations.readers.Causes.{asks_next, next_cause, read_not_closed, read_own}}
use Rattle.gate_schedules.proofs.operations.readers.{Causes.read_stays, EndEvents.end_keeps, Events.read_keeps, Fits.{none_from_agree, read_acts}}
use Rattle.gate_schedules.proofs.operations.readers.{Fits.{read_fits, read_goes, read_step_agrees, read_there}, Runs.{end_runs, read_runs}}
use Rattle.gate_schedules.proofs.operations.readers.{Trace.{EndAt, StartAt, end_inductive, start_inductive}, Waits.{read_waits, start_waits}}
use Rattle.gate_schedules.proofs.traces.TraceInvariant.{TraceLaws, traces_given_reads, traces_tell}

-- of each phase of a start
pub read_phase : (c : Config) (r : DownRead) → PhaseLaws c (DownReads r)
read_phase c r = record {
  step = λ within w good t lt hook e. read_keeps c within w good t lt hook r e;
  runs = λ within w good t lt hook e i one three. read_runs c w good t lt hook r e i;
  completes = λ within w good t lt hook e. completes_none c w t hook (DownReads r) (λ trace found. refl);
  word = λ n le t lt held hook f. read_there (record c { tasks = n; nodes = 64 + (c.nodes - 64) }) t lt r r.step f.0 f.1 f.2 f.3;
  acts = λ within t held found hook f. read_acts held r r.step found f.0 f.1;
  goes = λ within t held found hook f.
      read_fits c t r.level r.cpu (held_after (down_read_after r r.step found).1 held) (down_read_after r r.step found).0
      (read_goes c t r f.0 f.1 f.2 f.3 held r.step found f.4);
  agrees = λ t held seen same fits.
      (fits.0, fits.1, fits.2, fits.3, read_step_agrees held.levels seen.levels same.levels r.level r.step fits.0 fits.1 fits.4);
  stays = λ w next earlier good t f e was quiet h. read_stays c t w next earlier r.level r.step (ap asks_level e) h;
  causes = λ w earlier good t lt hook e after is h.
      let f : Fits c t (held_of (w.views t)) (Some (DownReads r)) =
      subst (Fits c t (held_of (w.views t))) e (good Fitting t lt) in
      let next : World = after_step w t (DownReads r) hook in
      next_cause c t w next earlier (down_read_after r r.step (found_at w.words (DownReads r) hook)).0
      (read_own c t w next earlier good r f.0 f.1 hook r.step (ap asks_level e)
      (ap (λ p. closed (sync_role_of r.level p)) e ∙ read_not_closed r.level r.level r.step) h
      (asks_next c t w next earlier (down_read_after r r.step (found_at w.words (DownReads r) hook)).0 is));
  reasons = λ within w earlier good t lt hook e cause.
      start_waits c w earlier t r (down_read_after r r.step (found_at w.words (DownReads r) hook)).0
      (read_waits c w earlier t r r.step (found_at w.words (DownReads r) hook) cause);
}

-- of the one phase of an end
pub end_phase : (c : Config) (u : UpRead) → PhaseLaws c (UpReads u)
end_phase c u = record {
  step = λ within w good t lt hook e. end_keeps c within w good t lt hook u e;
  runs = λ within w good t lt hook e i one three. end_runs c w t lt hook u e i;
  completes = λ within w good t lt hook e. completes_none c w t hook (UpReads u) (λ trace found. refl);
  word = λ n le t lt held hook f. (f.0, f.1, f.2);
  acts = λ within t held found hook f. (f.0, f.1);
  goes = λ within t held found hook f. tt;
  agrees = λ t held seen same fits. (fits.0, fits.1, fits.2, sym (same.levels u.level fits.0 fits.1) ∙ fits.3);
  stays = λ w next earlier good t f e was quiet h. tt;
  causes = λ w earlier good t lt hook e after is h. tt;
  reasons = λ within w earlier good t lt hook e cause. tt;
}

-- a level and a processor that are in range
in_level : (c : Config) (i p : ℕ) → (is_level_number i && nat_lt p c.processors) ≡ true → (1 ≤ i) × (i ≤ 3) × (p < c.processors)
in_level c i p there = grind arith

-- of the beginning and the trace of a start
pub start_op : (c : Config) (i p : ℕ) (wait : Bool) → OpLaws c (Start i p wait)
start_op c i p wait = record {
  fits = λ t held there order room.
      let l : (1 ≤ i) × (i ≤ 3) × (p < c.processors) = in_level c i p there in
      (l.0, l.1, l.2, refl, order);
  starts_aside = λ t k. record no_roles { count = λ j. count_none j i k; sync = λ j. sync_none j i k };
  cause = λ t w earlier. tt;
  order_agrees = λ held seen same there. none_from_agree held.levels seen.levels same.levels i;
  room_agrees = λ held seen same there. refl;
  restores = λ refusal trace before order. refl;
  file = λ t held order room. tt;
  traces = λ within. traces_given_reads (λ t. StartAt i p t wait) c (Start i p wait) (λ t. start_inductive c t i p wait);
  most_small = λ within. by_bool wait (λ b. IsSmall (most_events c (Start i p b))) tt (omega arith);
}

end_traces : (c : Config) (i p : ℕ) → TraceLaws c (End i p)
end_traces c i p = traces_tell (λ t. EndAt i p) c (End i p) (λ t. end_inductive c t i p)

-- of those of an end
pub end_op : (c : Config) (i p : ℕ) → OpLaws c (End i p)
end_op c i p = grind (arith, in_level, end_traces)
