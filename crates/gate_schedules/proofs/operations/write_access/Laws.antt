-- All that is proved of a taking and of a return of write access, each from what is proved of its gates.
use Rattle.gate_schedules.proofs.Prelude.{Bool, Config, DownRead, Err, Fits, GateError, Holdings, HookAnswer, IsGood, IsWithin, MountPhase, Next, Ok}
use Rattle.gate_schedules.proofs.Prelude.{Op, Phase, Reply, Some, StepKeeps, SyncStep, Want, WantStep, World, WritePhase, after_step, ap, arith}
use Rattle.gate_schedules.proofs.Prelude.{closed, down_read_after, false, found_at, held_after, held_of, holdings_of, level_in, ltb-true, map_next}
use Rattle.gate_schedules.proofs.Prelude.{nat_lt, no_roles, not, phase_after, refl, role_of, sym, sync_role_of, true, true≢false, update, update_same}
use Rattle.gate_schedules.proofs.Prelude.{want_after, ℕ, ◌&&◌, ◌<◌, ◌∙◌, ◌∷◌, ◌≡◌, ◌≤◌}
use Rattle.std.proofs.lemmas.Bool.{and_parts}
use Rattle.{access_model.specs.Histories.levels_of, composite_ops.specs.write_access.Phases.{leaves_on, then_gives_back, then_wants}}
use Rattle.gate_world.specs.{Fits.WriteFits, refusals.Causes.{asks, asks_level}}
use Rattle.gate_schedules.proofs.frames.{Agreeing.none_agree, Frames.{count_none, role_on, sync_none}, OperationLaws.{OpLaws, PhaseLaws}}
use Rattle.gate_schedules.proofs.frames.{SameRolesOffTree.update_twice, Snapshots.completes_none}
use Rattle.gate_schedules.proofs.operations.readers.{Causes.{read_not_closed, read_own, read_stays}, Laws.{end_phase, read_phase}, Waits.read_waits}
use Rattle.gate_schedules.proofs.operations.want.{Causes.{want_cause_stays, want_own}, Laws.{drop_phase, want_phase}, Waits.want_waits}
use Rattle.gate_schedules.proofs.operations.write_access.{Alike.{alike_takes, alike_wants}, Causes.{takes_asks, takes_cause, takes_waits}}
use Rattle.gate_schedules.proofs.operations.write_access.{Causes.{wants_asked, wants_cause, wants_waits}, Events.{first_world, write_fits_now}}
use Rattle.gate_schedules.proofs.operations.write_access.{Events.{write_runs, write_step}, Trace.{DropAt, WriteAt, drop_inductive, write_inductive}}
use Rattle.gate_schedules.proofs.traces.TraceInvariant.{TraceLaws, traces_given_reads, traces_tell}

-- what fits after a step at level 1, with the mount to come
takes_fits : (c : Config) (t : ℕ) (held : Holdings) (m : ℕ) (r : DownRead) (found : ℕ) →
    WriteFits c t held (WritePhase.Takes m r) → Fits c t (held_after (down_read_after r r.step found).1 held)
    (phase_after (map_next Phase.Writes (then_wants m r.cpu (down_read_after r r.step found).0)))
takes_fits c t held m r found f = grind arith

wants_fits : (c : Config) → IsWithin c → (t : ℕ) (held : Holdings) (x : Want) (found : ℕ) (hook : HookAnswer) →
    WriteFits c t held (WritePhase.Wants x) → Fits c t (held_after (want_after x x.step found).1 held)
    (phase_after (map_next Phase.Writes (then_gives_back x.mount x.cpu (want_after x x.step found).0)))
wants_fits c lim t held x found hook f = grind arith

-- each step keeps the invariant, and moves the shown state by its action or not at all, as its gate's does
pub write_keeps : (c : Config) → IsWithin c → (w : World) → IsGood c w → (t : ℕ) → t < c.tasks → (hook : HookAnswer) → (x : WritePhase) →
    (w.views t).phase ≡ Some (Phase.Writes x) → StepKeeps c w t hook (Phase.Writes x)
write_keeps c lim w good t lt hook (WritePhase.Takes m r) e =
    let n : Next DownRead = (down_read_after r r.step (found_at w.words (Phase.DownReads r) hook)).0 in
    let f : WriteFits c t (held_of (w.views t)) (WritePhase.Takes m r) =
    write_fits_now c w good t lt hook (WritePhase.Takes m r) e in
    write_step c w good t lt hook (WritePhase.Takes m r) e
    (λ g at. (read_phase c r).step lim (first_world c w good t lt hook (WritePhase.Takes m r) e) g t lt hook at)
    (map_next Phase.Writes (then_wants m r.cpu n)) (alike_takes m r.cpu n)
    (takes_fits c t (held_of (w.views t)) m r (found_at w.words (Phase.DownReads r) hook) f)
write_keeps c lim w good t lt hook (WritePhase.Wants x) e =
    let n : Next Want = (want_after x x.step (found_at w.words (Phase.Mounts (MountPhase.Want x)) hook)).0 in
    let f : WriteFits c t (held_of (w.views t)) (WritePhase.Wants x) = write_fits_now c w good t lt hook (WritePhase.Wants x) e in
    write_step c w good t lt hook (WritePhase.Wants x) e
    (λ g at. (want_phase c x).step lim (first_world c w good t lt hook (WritePhase.Wants x) e) g t lt hook at)
    (map_next Phase.Writes (then_gives_back x.mount x.cpu n)) (alike_wants x.mount x.cpu n)
    (wants_fits c lim t (held_of (w.views t)) x (found_at w.words (Phase.Mounts (MountPhase.Want x)) hook) hook f)
write_keeps c lim w good t lt hook (WritePhase.GivesBack m p refusal) e =
    write_step c w good t lt hook (WritePhase.GivesBack m p refusal) e
    (λ g at. (end_phase c (leaves_on p)).step lim (first_world c w good t lt hook (WritePhase.GivesBack m p refusal) e) g t lt hook at)
    (Next.Done (Err refusal)) refl tt
write_keeps c lim w good t lt hook (WritePhase.Drops m p) e =
    let f : WriteFits c t (held_of (w.views t)) (WritePhase.Drops m p) =
    write_fits_now c w good t lt hook (WritePhase.Drops m p) e in
    write_step c w good t lt hook (WritePhase.Drops m p) e
    (λ g at. (drop_phase c m p).step lim (first_world c w good t lt hook (WritePhase.Drops m p) e) g t lt hook at)
    (Next.Go (Phase.Writes (WritePhase.Ends p))) refl (f.0.1, f.1)
write_keeps c lim w good t lt hook (WritePhase.Ends p) e =
    write_step c w good t lt hook (WritePhase.Ends p) e
    (λ g at. (end_phase c (leaves_on p)).step lim (first_world c w good t lt hook (WritePhase.Ends p) e) g t lt hook at)
    (Next.Done (Ok Reply.Unit)) refl tt

-- each step is one of each level's kinds of step, as its gate's is
write_phase_runs : (c : Config) → IsWithin c → (w : World) → IsGood c w → (t : ℕ) → t < c.tasks → (hook : HookAnswer) → (x : WritePhase) →
    (w.views t).phase ≡ Some (Phase.Writes x) → (i : ℕ) → 1 ≤ i → i ≤ 3 →
    SyncStep c.tasks (level_in w i) (level_in (after_step w t (Phase.Writes x) hook) i)
write_phase_runs c lim w good t lt hook (WritePhase.Takes m r) e i one three =
    let n : Next DownRead = (down_read_after r r.step (found_at w.words (Phase.DownReads r) hook)).0 in
    write_runs c w good t lt hook (WritePhase.Takes m r) e (map_next Phase.Writes (then_wants m r.cpu n)) (alike_takes m r.cpu n) i
    (λ g at. (read_phase c r).runs lim (first_world c w good t lt hook (WritePhase.Takes m r) e) g t lt hook at i one three)
write_phase_runs c lim w good t lt hook (WritePhase.Wants x) e i one three =
    let n : Next Want = (want_after x x.step (found_at w.words (Phase.Mounts (MountPhase.Want x)) hook)).0 in
    write_runs c w good t lt hook (WritePhase.Wants x) e (map_next Phase.Writes (then_gives_back x.mount x.cpu n)) (alike_wants x.mount x.cpu n) i
    (λ g at. (want_phase c x).runs lim (first_world c w good t lt hook (WritePhase.Wants x) e) g t lt hook at i one three)
write_phase_runs c lim w good t lt hook (WritePhase.GivesBack m p refusal) e i one three =
    write_runs c w good t lt hook (WritePhase.GivesBack m p refusal) e (Next.Done (Err refusal)) refl i
    (λ g at.
    (end_phase c (leaves_on p)).runs lim (first_world c w good t lt hook (WritePhase.GivesBack m p refusal) e) g t lt hook at i one three)
write_phase_runs c lim w good t lt hook (WritePhase.Drops m p) e i one three =
    write_runs c w good t lt hook (WritePhase.Drops m p) e (Next.Go (Phase.Writes (WritePhase.Ends p))) refl i
    (λ g at. (drop_phase c m p).runs lim (first_world c w good t lt hook (WritePhase.Drops m p) e) g t lt hook at i one three)
write_phase_runs c lim w good t lt hook (WritePhase.Ends p) e i one three =
    write_runs c w good t lt hook (WritePhase.Ends p) e (Next.Done (Ok Reply.Unit)) refl i
    (λ g at. (end_phase c (leaves_on p)).runs lim (first_world c w good t lt hook (WritePhase.Ends p) e) g t lt hook at i one three)

takes_phase : (c : Config) (m : ℕ) (r : DownRead) → PhaseLaws c (Phase.Writes (WritePhase.Takes m r))
takes_phase c m r = record {
  step = λ lim w good t lt hook e. write_keeps c lim w good t lt hook (WritePhase.Takes m r) e;
  runs = λ lim w good t lt hook e i one three. write_phase_runs c lim w good t lt hook (WritePhase.Takes m r) e i one three;
  completes = λ lim w good t lt hook e. completes_none c w t hook (Phase.Writes (WritePhase.Takes m r)) (λ trace found. refl);
  word = λ n le t lt held hook f. (read_phase c r).word n le t lt held hook f.0;
  acts = λ lim t held found hook f. (read_phase c r).acts lim t held found hook f.0;
  goes = λ lim t held found hook f. takes_fits c t held m r found f;
  agrees = λ t held seen same fits.
      ((read_phase c r).agrees t held seen same fits.0, fits.1, fits.2, omega (arith, fits.3, same.mounts m fits.2));
  stays = λ w next earlier good t f e was quiet h. read_stays c t w next earlier r.level r.step (ap asks_level e) h;
  causes = λ w earlier good t lt hook e after is h.
      let f : WriteFits c t (held_of (w.views t)) (WritePhase.Takes m r) =
      write_fits_now c w good t lt hook (WritePhase.Takes m r) e in
      let next : World = after_step w t (Phase.Writes (WritePhase.Takes m r)) hook in
      let n : Next DownRead = (down_read_after r r.step (found_at w.words (Phase.DownReads r) hook)).0 in
      takes_cause c t w next earlier m r.cpu n
      (read_own c t w next earlier good r f.0.0 f.0.1 hook r.step (ap asks_level e)
      (ap (λ q. closed (sync_role_of r.level q)) e ∙ read_not_closed r.level r.level r.step) h
      (takes_asks c t w next earlier m r.cpu n is));
  reasons = λ lim w earlier good t lt hook e cause.
      takes_waits c t w earlier m r.cpu r (down_read_after r r.step (found_at w.words (Phase.DownReads r) hook)).0
      (read_waits c w earlier t r r.step (found_at w.words (Phase.DownReads r) hook) cause);
}

wants_phase : (c : Config) (x : Want) → PhaseLaws c (Phase.Writes (WritePhase.Wants x))
wants_phase c x = record {
  step = λ lim w good t lt hook e. write_keeps c lim w good t lt hook (WritePhase.Wants x) e;
  runs = λ lim w good t lt hook e i one three. write_phase_runs c lim w good t lt hook (WritePhase.Wants x) e i one three;
  completes = λ lim w good t lt hook e. completes_none c w t hook (Phase.Writes (WritePhase.Wants x)) (λ trace found. refl);
  word = λ n le t lt held hook f. (want_phase c x).word n le t lt held hook f.0;
  acts = λ lim t held found hook f. (want_phase c x).acts lim t held found hook f.0;
  goes = λ lim t held found hook f. wants_fits c lim t held x found hook f;
  agrees = λ t held seen same fits.
      ((want_phase c x).agrees t held seen same fits.0, sym (same.levels 1 (omega arith) (omega arith)) ∙ fits.1);
  stays = λ w next earlier good t f e was quiet h. want_cause_stays c t w next earlier x.mount x.step (ap asks e) h;
  causes = λ w earlier good t lt hook e after is h.
      let f : WriteFits c t (held_of (w.views t)) (WritePhase.Wants x) = write_fits_now c w good t lt hook (WritePhase.Wants x) e in
      let next : World = after_step w t (Phase.Writes (WritePhase.Wants x)) hook in
      let n : Next Want = (want_after x x.step (found_at w.words (Phase.Mounts (MountPhase.Want x)) hook)).0 in
      wants_cause c t next (w ∷ earlier) x.mount x.cpu n
      (want_own c t lt w next earlier good x x.step f.0.0 (ap asks e) (ap (role_of x.mount) e ∙ role_on x.mount _)
      (ap asks is ∙ wants_asked c t next earlier x.mount x.cpu n) h);
  reasons = λ lim w earlier good t lt hook e cause.
      let f : WriteFits c t (held_of (w.views t)) (WritePhase.Wants x) = write_fits_now c w good t lt hook (WritePhase.Wants x) e in
      wants_waits c t w earlier x.mount x.cpu good lt x (want_after x x.step (found_at w.words (Phase.Mounts (MountPhase.Want x)) hook)).0
      (want_waits c w earlier good t lt x x.step f.0.0 (ap (role_of x.mount) e ∙ role_on x.mount _) cause);
}

gives_back_phase : (c : Config) (m p : ℕ) (refusal : GateError) → PhaseLaws c (Phase.Writes (WritePhase.GivesBack m p refusal))
gives_back_phase c m p refusal = record {
  step = λ lim w good t lt hook e. write_keeps c lim w good t lt hook (WritePhase.GivesBack m p refusal) e;
  runs = λ lim w good t lt hook e i one three. write_phase_runs c lim w good t lt hook (WritePhase.GivesBack m p refusal) e i one three;
  completes = λ lim w good t lt hook e. completes_none c w t hook (Phase.Writes (WritePhase.GivesBack m p refusal)) (λ trace found. refl);
  word = λ n le t lt held hook f.
      (end_phase c (leaves_on p)).word n le t lt held hook (omega arith, omega arith, f.1, f.2);
  acts = λ lim t held found hook f. (omega arith, omega arith);
  goes = λ lim t held found hook f. tt;
  agrees = λ t held seen same fits. (fits.0, fits.1, sym (same.levels 1 (omega arith) (omega arith)) ∙ fits.2);
  stays = λ w next earlier good t f e was quiet h. want_cause_stays c t w next earlier m (WantStep.CountsDown refusal) (ap asks e) h;
  causes = λ w earlier good t lt hook e after is h. tt;
  reasons = λ lim w earlier good t lt hook e cause. cause;
}

drops_phase : (c : Config) (m p : ℕ) → PhaseLaws c (Phase.Writes (WritePhase.Drops m p))
drops_phase c m p = record {
  step = λ lim w good t lt hook e. write_keeps c lim w good t lt hook (WritePhase.Drops m p) e;
  runs = λ lim w good t lt hook e i one three. write_phase_runs c lim w good t lt hook (WritePhase.Drops m p) e i one three;
  completes = λ lim w good t lt hook e. completes_none c w t hook (Phase.Writes (WritePhase.Drops m p)) (λ trace found. refl);
  word = λ n le t lt held hook f. (drop_phase c m p).word n le t lt held hook f.0;
  acts = λ lim t held found hook f. (drop_phase c m p).acts lim t held found hook f.0;
  goes = λ lim t held found hook f. (f.0.1, f.1);
  agrees = λ t held seen same fits.
      ((drop_phase c m p).agrees t held seen same fits.0, sym (same.levels 1 (omega arith) (omega arith)) ∙ fits.1);
  stays = λ w next earlier good t f e was quiet h. tt;
  causes = λ w earlier good t lt hook e after is h. tt;
  reasons = λ lim w earlier good t lt hook e cause. tt;
}

ends_phase : (c : Config) (p : ℕ) → PhaseLaws c (Phase.Writes (WritePhase.Ends p))
ends_phase c p = record {
  step = λ lim w good t lt hook e. write_keeps c lim w good t lt hook (WritePhase.Ends p) e;
  runs = λ lim w good t lt hook e i one three. write_phase_runs c lim w good t lt hook (WritePhase.Ends p) e i one three;
  completes = λ lim w good t lt hook e. completes_none c w t hook (Phase.Writes (WritePhase.Ends p)) (λ trace found. refl);
  word = λ n le t lt held hook f.
      (end_phase c (leaves_on p)).word n le t lt held hook (omega arith, omega arith, f.0, f.1);
  acts = λ lim t held found hook f. (omega arith, omega arith);
  goes = λ lim t held found hook f. tt;
  agrees = λ t held seen same fits. (fits.0, sym (same.levels 1 (omega arith) (omega arith)) ∙ fits.1);
  stays = λ w next earlier good t f e was quiet h. tt;
  causes = λ w earlier good t lt hook e after is h. tt;
  reasons = λ lim w earlier good t lt hook e cause. tt;
}

pub write_phase : (c : Config) (x : WritePhase) → PhaseLaws c (Phase.Writes x)
write_phase c (WritePhase.Takes m r) = takes_phase c m r
write_phase c (WritePhase.Wants x) = wants_phase c x
write_phase c (WritePhase.GivesBack m p refusal) = gives_back_phase c m p refusal
write_phase c (WritePhase.Drops m p) = drops_phase c m p
write_phase c (WritePhase.Ends p) = ends_phase c p

is_false : (b : Bool) → not b ≡ true → b ≡ false
is_false true h = absurd (true≢false (sym h))
is_false false h = refl

level_restored : (levels : ℕ → Bool) → levels 1 ≡ false → update (update levels 1 true) 1 false ≡ levels
level_restored levels free = update_twice levels 1 true false ∙ (ap (update levels 1) (sym free) ∙ update_same levels 1)

in_mount : (c : Config) (m p : ℕ) → (nat_lt m c.mounts && nat_lt p c.processors) ≡ true → (m < c.mounts) × (p < c.processors)
in_mount c m p there = grind arith

pub want_write_op : (c : Config) (m p : ℕ) → OpLaws c (Op.WantWrite m p)
want_write_op c m p = record {
  fits = λ t held there order room.
      let at : (m < c.mounts) × (p < c.processors) = in_mount c m p there in
      ((omega arith, omega arith, at.1, refl, order), refl, at.0, ltb-true (held.mounts m) 1024 room);
  starts_aside = λ t k. record no_roles { count = λ j. count_none j 1 k; sync = λ j. sync_none j 1 k };
  cause = λ t w earlier. tt;
  order_agrees = λ held seen same there. none_agree held.levels seen.levels same.levels;
  room_agrees = λ held seen same there. ap (λ y. nat_lt y 1024) (same.mounts m (in_mount c m p there).0);
  restores = λ refusal trace before order.
      let none : (not (levels_of before 1) ≡ true) × ((not (levels_of before 2) && not (levels_of before 3)) ≡ true) =
      and_parts (not (levels_of before 1)) (not (levels_of before 2) && not (levels_of before 3)) order in
      λ j. record (holdings_of before) { levels = level_restored (levels_of before) (is_false (levels_of before 1) none.0) j };
  file = λ t held order room. tt;
  traces = λ lim. traces_given_reads (λ t. WriteAt c m p t) c (Op.WantWrite m p) (λ t. write_inductive c t m p);
  most_small = λ lim. tt;
}

drop_write_traces : (c : Config) (m p : ℕ) → TraceLaws c (Op.DropWrite m p)
drop_write_traces c m p = traces_tell (λ t. DropAt m p) c (Op.DropWrite m p) (λ t. drop_inductive c t m p)

pub drop_write_op : (c : Config) (m p : ℕ) → OpLaws c (Op.DropWrite m p)
drop_write_op c m p = grind (arith, in_mount, and_parts, ltb-true, drop_write_traces)
