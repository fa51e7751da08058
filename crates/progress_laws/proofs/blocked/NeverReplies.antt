-- An operation that meets what a lost task has left never has its reply.
use Rattle.progress_laws.proofs.Prelude.{AtLevel, Begins, Bool, Callback, CallbackStep, ChangeStep, ClosePhase, Config, DownRead, DownWrite}
use Rattle.progress_laws.proofs.Prelude.{DownWriteStep, DownWriteStepFits, Entry, Err, Freeze, FreezeFits, FreezeStep, GateError, Grace, GraceNext}
use Rattle.progress_laws.proofs.Prelude.{Holdings, HookAnswer, IsGood, IsWithin, KeepWaiting, List, MountPhase, Next, None, Ok, Op, Option, Phase}
use Rattle.progress_laws.proofs.Prelude.{PhaseFits, RemountStep, SnapshotStep, Some, Steps, SyncAt, SyncHoldsIn, ThawStep, TreePhase, View, Want}
use Rattle.progress_laws.proofs.Prelude.{WantStep, Words, World, WritePhase, [], after_closing, after_of, after_step, ap, arith, at_level}
use Rattle.progress_laws.proofs.Prelude.{callback_after, callback_next, cases_Bool, closed, down_read_after, down_read_next, down_write_after}
use Rattle.progress_laws.proofs.Prelude.{down_write_next, eq-eqb, eqb_tells, false, fits_at, found_at, found_by, freeze_after, freeze_next, happens}
use Rattle.progress_laws.proofs.Prelude.{happens_is, has_flag, held_of, hook_of, if◌then◌else◌, inl, inr, is_frozen_whole, level_as_gate, looked}
use Rattle.progress_laws.proofs.Prelude.{nat_lt, owns, phase_after, read, refl, run, sections_awaited, stands_after, subst, suc, sym, sync_role_of}
use Rattle.progress_laws.proofs.Prelude.{thaw_after, total, total_at, true, true≢false, words_after, ℕ, ◌&&◌, ◌+◌, ◌<◌, ◌==◌, ◌∙◌, ◌∷◌, ◌≡◌, ◌≤◌, ◌⊎◌}
use Rattle.std.proofs.{Common.{is_some, ◌%◌}, lemmas.Bool.{cases_lt, ltb-false, ne_eqb}}
use Rattle.composite_ops.specs.{file_closes.Phases.then_frees, write_access.Phases.{then_gives_back, then_wants}}
use Rattle.cpu_words.specs.{Sums.lead, Touches.wrap_add, gate_counts.{Gates.{Barring, BarringHolds, admitted, unread}, Levels.barring_of}}
use Rattle.freeze_levels.specs.{Freezes.freeze_hook, Thaws.thaw_next, declared.thaws.Thaw.Thaw}
use Rattle.gate_schedules.proofs.{levels.{Counts.held_bit, Facts.blocked_slow}, operations.deadlocks.BlockedStarts.{StaysKept, start_stays}}
use Rattle.gate_schedules.proofs.{operations.freeze.Closes.by_wait, schedules.Schedule.happens_keeps, writers.Progress.lead_last}
use Rattle.gate_schedules.specs.operations.Progress.{is_admitted}
use Rattle.gate_world.specs.{Beginnings.refusal, Levels.{inside, level_role_of}}
use Rattle.gate_world.specs.{Roles.{count_beside, down_count_role, freeze_position, position_count}, Rules.{LevelHoldsIn, Sections, role_of}}
use Rattle.gate_world.specs.{Views.holds_level, Worlds.{begin_of, begin_refusal, task_of}}
use Rattle.gated_tree.specs.{Phases.{snapshot_after, snapshot_locked_out, snapshot_next}, declared.snapshots.Snapshot.Snapshot}
use Rattle.mount_counts.specs.Phases.{change_after, change_next, hold_found, lock_failed, want_after, want_next}
use Rattle.mount_counts.specs.{Remounts.{remount_after, remount_next}, Roles.has_hold, declared.{phases.Change.Change, remounts.Remount.Remount}}
use Rattle.percpu_rwsem.specs.{Callbacks.callback_looked, Graces.{is_first, passed_on}, Readers.step_found}
use Rattle.progress_laws.proofs.blocked.{BarredStarts.start_section, LostStays.{same_entry, words_tell}, NobodyReplies.{GoesOnKept, goes_as}}
use Rattle.progress_laws.{proofs.{blocked.NobodyReplies.not_patient, rounds.Measured.{absent_is, idle_is}}, specs.Answers.{AllAnswerSo, AnswersSo}}
use Rattle.progress_laws.specs.{Answers.IsPatientWith, LostForEver.{AreOfOthers, LevelIsLost, LockIsLost, MeetsAtCallback, MeetsAtClosing}}
use Rattle.progress_laws.specs.{LostForEver.{MeetsAtFreeze, MeetsHold, MeetsLevel, MeetsLost, MeetsSection, NeverReplies}, LostTasks.HoldIsLost}

abbrev is_start : Phase → Bool
is_start (Phase.DownReads r) = true
is_start (Phase.Writes (WritePhase.Takes m r)) = true
is_start (Phase.Closes (ClosePhase.Enters f node r)) = true
is_start p = false

-- what comes after a step that meets it
hold_goes : (w : Words) (x : Want) (s : WantStep) → s ≡ WantStep.LoadsHold → x.wait ≡ true → has_flag (w.flags x.mount) 2 ≡ true →
    GoesOnKept (λ (y : Want). (y.step ≡ WantStep.LoadsHold) × (y.wait ≡ true) × (y.mount ≡ x.mount))
    (want_after x s (found_by (want_next x s).1 (read w (want_next x s).0))).0
hold_goes w x s at wait set = subst (λ s. GoesOnKept (λ (y : Want). (y.step ≡ WantStep.LoadsHold) × (y.wait ≡ true) × (y.mount ≡ x.mount))
    (want_after x s (found_by (want_next x s).1 (read w (want_next x s).0))).0) (sym at) here
  where
    here : GoesOnKept (λ (y : Want). (y.step ≡ WantStep.LoadsHold) × (y.wait ≡ true) × (y.mount ≡ x.mount))
        (want_after x WantStep.LoadsHold (w.flags x.mount)).0
    here = rw set (held x.wait wait)
      where
        held : (b : Bool) → b ≡ true → GoesOnKept (λ (y : Want). (y.step ≡ WantStep.LoadsHold) × (y.wait ≡ true) × (y.mount ≡ x.mount)) (hold_found x b)
        held b e = rw e (refl, wait, refl)

taken : (w : Words) (y : ℕ) → w.umount ≡ suc y → (w.umount == 0) ≡ false
taken w y is = ne_eqb w.umount 0 (λ e. omega (arith, e, is))

change_goes : (w : Words) (x : Change) (s : ChangeStep) → s ≡ ChangeStep.Locks → x.wait ≡ true → (w.umount == 0) ≡ false →
    GoesOnKept (λ (y : Change). (y.step ≡ ChangeStep.Locks) × (y.wait ≡ true))
    (change_after x s (found_by (change_next x s).1 (read w (change_next x s).0))).0
change_goes w x s at wait z =
    subst (λ s. GoesOnKept (λ (y : Change). (y.step ≡ ChangeStep.Locks) × (y.wait ≡ true))
    (change_after x s (found_by (change_next x s).1 (read w (change_next x s).0))).0) (sym at) (rw z (failed x.wait wait))
  where
    failed : (b : Bool) → b ≡ true → GoesOnKept (λ (y : Change). (y.step ≡ ChangeStep.Locks) × (y.wait ≡ true)) (lock_failed x b)
    failed b e = rw e (refl, wait)

remount_goes : (w : Words) (x : Remount) (s : RemountStep) (hook : HookAnswer) → s ≡ RemountStep.Locks → (w.umount == 0) ≡ false →
    GoesOnKept (λ (y : Remount). y.step ≡ RemountStep.Locks)
    (remount_after x s (found_by (remount_next x s hook).1 (read w (remount_next x s hook).0)) hook).0
remount_goes w x s hook at z =
    subst (λ s. GoesOnKept (λ (y : Remount). y.step ≡ RemountStep.Locks)
    (remount_after x s (found_by (remount_next x s hook).1 (read w (remount_next x s hook).0)) hook).0) (sym at) (rw z refl)

thaw_goes : (w : Words) (x : Thaw) (s : ThawStep) (hook : HookAnswer) → s ≡ ThawStep.Locks → (w.umount == 0) ≡ false →
    GoesOnKept (λ (y : Thaw). y.step ≡ ThawStep.Locks) (thaw_after x s (found_by (thaw_next x s hook).1 (read w (thaw_next x s hook).0)) hook).0
thaw_goes w x s hook at z =
    subst (λ s. GoesOnKept (λ (y : Thaw). y.step ≡ ThawStep.Locks)
    (thaw_after x s (found_by (thaw_next x s hook).1 (read w (thaw_next x s hook).0)) hook).0) (sym at) (rw z refl)

snapshot_goes : (w : Words) (x : Snapshot) (s : SnapshotStep) → s ≡ SnapshotStep.Locks → x.wait ≡ true → (w.umount == 0) ≡ false →
    GoesOnKept (λ (y : Snapshot). (y.step ≡ SnapshotStep.Locks) × (y.wait ≡ true))
    (snapshot_after x s (found_by (snapshot_next x s).1 (read w (snapshot_next x s).0))).0
snapshot_goes w x s at wait z =
    subst (λ s. GoesOnKept (λ (y : Snapshot). (y.step ≡ SnapshotStep.Locks) × (y.wait ≡ true))
    (snapshot_after x s (found_by (snapshot_next x s).1 (read w (snapshot_next x s).0))).0) (sym at) (rw z (failed x.wait wait))
  where
    failed : (b : Bool) → b ≡ true → GoesOnKept (λ (y : Snapshot). (y.step ≡ SnapshotStep.Locks) × (y.wait ≡ true)) (snapshot_locked_out x b)
    failed b e = rw e (refl, wait)

-- a step of another task leaves a section word, but its own
plain_section : (w : Words) (p : Phase) (hook : HookAnswer) → is_start p ≡ false → (words_after w p hook).section ≡ w.section
plain_section w p hook out = grind arith

section_still : (c : Config) (w : Words) (t : ℕ) (held : Holdings) (p : Phase) (hook : HookAnswer) → PhaseFits c t held p → (y : ℕ) → (y ≡ t → ⊥) →
    (words_after w p hook).section y ≡ w.section y
section_still c w t held p hook f y ne = grind (arith, start_section, plain_section)

-- one that is kept so goes on, in whatever phases it stands
kept_more : {P : Type 0} (A B : P → Type 0) → ((x : P) → A x → B x) → (next : Next P) → GoesOnKept A next → GoesOnKept B next
kept_more A B f next h = grind arith

start_more : (r : DownRead) (B : DownRead → Type 0) →
    ((x : DownRead) → (x.wait ≡ true) × (is_admitted x.step ≡ false) × (x.level ≡ r.level) → B x) → (next : Next DownRead) → StaysKept r next →
    GoesOnKept B next
start_more r B f next h = grind arith

-- a look that finds the task in its section again
abbrev LooksOn : World → Grace → GraceNext → Type 0
LooksOn w g (GraceNext.Wait q) = q ≡ record { tasks = g.tasks; task = g.task; first = Some (w.words.section g.task) }
LooksOn w g other = ⊥

module _ (c : Config) (lim : IsWithin c) (lost : ℕ → Bool) where
  -- what is lost in a state is lost in a later one with the same views of lost tasks
  abbrev SameLost : World → World → Type 0
  SameLost w next = (y : ℕ) → lost y ≡ true → (next.views y ≡ w.views y) × (next.words.section y ≡ w.words.section y)

  lock_later : (w next : World) → SameLost w next → LockIsLost c lost w → LockIsLost c lost next
  lock_later w next same (y, ly, dead, own) = (y, ly, dead, ap (λ (v : View). owns v.phase) (same y dead).0 ∙ own)

  hold_later : (w next : World) → SameLost w next → (m : ℕ) → HoldIsLost c lost w m → HoldIsLost c lost next m
  hold_later w next same m (y, ly, dead, has) = (y, ly, dead, ap (λ (v : View). has_hold (role_of m v.phase)) (same y dead).0 ∙ has)

  level_later : (w next : World) → SameLost w next → (i : ℕ) → LevelIsLost c lost w i → LevelIsLost c lost next i
  level_later w next same i (y, ly, dead, shut) = (y, ly, dead, ap (λ (v : View). closed (sync_role_of i v.phase)) (same y dead).0 ∙ shut)

  section_later : (w next : World) → SameLost w next → (g : Grace) → MeetsSection c lost w g → MeetsSection c lost next g
  section_later w next same g ((ly, dead, in_), first) = (
    (ly, dead, ap (λ (v : View). inside v.phase) (same g.task dead).0 ∙ in_),
    elim first [
      | inl none ↦ inl none
      | inr some ↦ inr (some ∙ ap Some (sym (same g.task dead).1))
    ],
  )

  closing_later : (w next : World) → SameLost w next → (d : DownWrite) (s : DownWriteStep) → MeetsAtClosing c lost w d s → MeetsAtClosing c lost next d s
  closing_later w next same d s h = grind (arith, section_later)

  freeze_later : (w next : World) → SameLost w next → (s : FreezeStep) → MeetsAtFreeze c lost w s → MeetsAtFreeze c lost next s
  freeze_later w next same s h = grind (arith, lock_later, closing_later)

  callback_later : (w next : World) → SameLost w next → (s : CallbackStep) → MeetsAtCallback c lost w s → MeetsAtCallback c lost next s
  callback_later w next same (CallbackStep.AwaitsSections g) h = section_later w next same g h
  callback_later w next same s h = absurd h

  meets_later : (w next : World) → SameLost w next → (p : Phase) → MeetsLost c lost w p → MeetsLost c lost next p
  meets_later w next same p h = grind (arith, hold_later, lock_later, level_later, freeze_later, callback_later)

  module _ (w : World) (good : IsGood c w) where
    lock_there : LockIsLost c lost w → (w.words.umount == 0) ≡ false
    lock_there (y, ly, dead, own) = taken w.words y ((words_tell c lim w good y ly).lock own)

    hold_there : (m : ℕ) → m < c.mounts → HoldIsLost c lost w m → has_flag (w.words.flags m) 2 ≡ true
    hold_there m lm (y, ly, dead, has) = (words_tell c lim w good y ly).hold m lm has

    start_there : (r : DownRead) → 1 ≤ r.level → r.level ≤ 3 → MeetsLevel c lost w r →
        GoesOnKept (MeetsLevel c lost w) (down_read_after r r.step (found_by (down_read_next r r.step).1 (read w.words (down_read_next r r.step).0))).0
    start_there r one three (wait, out, (y, ly, dead, shut)) =
        let set : w.words.block r.level ≡ 1 = (words_tell c lim w good y ly).level r.level one three shut in
        let s : SyncHoldsIn c w r.level = good (SyncAt r.level) one three in
        start_more r (MeetsLevel c lost w)
        (λ x h. (h.0, h.1, (y, ly, dead, ap (λ i. closed (sync_role_of i (w.views y).phase)) h.2 ∙ shut)))
        (down_read_after r r.step (found_by (down_read_next r r.step).1 (read w.words (down_read_next r r.step).0))).0
        (start_stays w.words r wait set (ap step_found s.packed ∙
        blocked_slow c.tasks s.word (w.words.block r.level) (is_frozen_whole w.words) w.words.section
        (λ u. sync_role_of r.level (w.views u).phase) s.holds set) r.step out)

    hold_at : (x : Want) → x.mount < c.mounts → MeetsHold c lost w x →
        GoesOnKept (MeetsHold c lost w) (want_after x x.step (found_by (want_next x x.step).1 (read w.words (want_next x x.step).0))).0
    hold_at x lm (at, wait, by) =
        kept_more (λ (y : Want). (y.step ≡ WantStep.LoadsHold) × (y.wait ≡ true) × (y.mount ≡ x.mount)) (MeetsHold c lost w)
        (λ y h. (h.0, h.1, subst (HoldIsLost c lost w) (sym h.2) by)) _ (hold_goes w.words x x.step at wait (hold_there x.mount lm by))

    -- a look at a lost task's section
    look_there : (g : Grace) → MeetsSection c lost w g → LooksOn w g (looked g (w.words.section g.task))
    look_there g ((ly, dead, in_), first) =
        let odd : (w.words.section g.task % 2 == 1) ≡ true = eq-eqb (w.words.section g.task % 2) 1 (good Sections g.task ly ∙ in_) in
        rw odd (by_first g.first first)
      where
        by_first : (o : Option ℕ) → (o ≡ None) ⊎ (o ≡ Some (w.words.section g.task)) →
            LooksOn w g (if true && is_first o (w.words.section g.task)
            then GraceNext.Wait (record { tasks = g.tasks; task = g.task; first = Some (w.words.section g.task) }) else passed_on g)
        by_first o (inl none) = rw none refl
        by_first o (inr some) = rw (some, eq-eqb (w.words.section g.task) (w.words.section g.task) refl) refl

    seen : (g : Grace) → MeetsSection c lost w g → MeetsSection c lost w (record { tasks = g.tasks; task = g.task; first = Some (w.words.section g.task) })
    seen g h = (h.0, inr refl)

    callback_there : (b : Callback) (s : CallbackStep) → MeetsAtCallback c lost w s →
        GoesOnKept (λ (y : Callback). MeetsAtCallback c lost w y.step)
        (callback_after b s (found_by (callback_next b s).1 (read w.words (callback_next b s).0))).0
    callback_there b (CallbackStep.AwaitsSections g) h = looks (looked g (w.words.section g.task)) (look_there g h)
      where
        looks : (next : GraceNext) → LooksOn w g next → GoesOnKept (λ (y : Callback). MeetsAtCallback c lost w y.step) (callback_looked b next)
        looks (GraceNext.Wait q) is = subst (λ (q : Grace). MeetsSection c lost w q) (sym is) (seen g h)
        looks other is = absurd is
    callback_there b s h = absurd h

    closing_there : (t : ℕ) → t < c.tasks → (d : DownWrite) (s : DownWriteStep) → 1 ≤ d.level → d.level ≤ 3 → d.processors ≡ c.processors →
        DownWriteStepFits c s → level_role_of d.level (w.views t).phase ≡ down_count_role s → MeetsAtClosing c lost w d s →
        GoesOnKept (λ (y : DownWrite). MeetsAtClosing c lost w y y.step)
        (down_write_after d s (found_by (down_write_next d s).1 (read w.words (down_write_next d s).0))).0
    closing_there t lt d (DownWriteStep.AwaitsSections g) one three processors fits role h =
        looks (looked g (w.words.section g.task)) (look_there g h)
      where
        looks : (next : GraceNext) → LooksOn w g next → GoesOnKept (λ (y : DownWrite). MeetsAtClosing c lost w y y.step) (sections_awaited d next)
        looks (GraceNext.Wait q) is = subst (λ (q : Grace). MeetsSection c lost w q) (sym is) (seen g h)
        looks other is = absurd is
    closing_there t lt d (DownWriteStep.Sums sum) one three processors fits role (y, ly, dead, is) =
        let l : LevelHoldsIn c w d.level = good (AtLevel d.level) one three in
        let b : BarringHolds c.processors (w.words.level d.level) (total c.tasks (λ x. admitted (level_as_gate (at_level d.level (w.views x)))))
        (λ n. total c.tasks (λ x. unread n (level_as_gate (at_level d.level (w.views x))))) (Barring.Reading sum.words sum.total) =
        subst (λ r. BarringHolds c.processors (w.words.level d.level) (total c.tasks (λ x. admitted (level_as_gate (at_level d.level (w.views x)))))
        (λ n. total c.tasks (λ x. unread n (level_as_gate (at_level d.level (w.views x))))) (barring_of r)) role (l.gate.sums t lt) in
        let e : held_bit (holds_level (w.views y) d.level) ≡ held_bit true = ap held_bit is in
        let some : 1 ≤ total c.tasks (λ x. admitted (level_as_gate (at_level d.level (w.views x)))) =
        omega (arith, e, total_at c.tasks y (λ x. admitted (level_as_gate (at_level d.level (w.views x)))) ly) in
        elim (cases_Bool (nat_lt (sum.words + 1) d.processors)) [
          | inl h ↦ rw h (y, ly, dead, is)
          | inr h ↦
              let last : wrap_add sum.total (w.words.level d.level sum.words) ≡ lead d.processors (w.words.level d.level) sum.words sum.total =
              lead_last d.processors (w.words.level d.level) sum.words sum.total (omega (arith, fits, processors))
              (ltb-false (sum.words + 1) d.processors h) in
              let z : (wrap_add sum.total (w.words.level d.level sum.words) == 0) ≡ false =
              ne_eqb _ 0 (λ q. omega (arith, q, last, ap (λ p. lead p (w.words.level d.level) sum.words sum.total) processors, b, some)) in
              rw (h, z) (y, ly, dead, is)
        ]
    closing_there t lt d s one three processors fits role h = absurd h

    closes_there : (x : Freeze) (level : ℕ) (next : Next DownWrite) → GoesOnKept (λ (y : DownWrite). MeetsAtClosing c lost w y y.step) next →
        GoesOnKept (λ (y : Freeze). MeetsAtFreeze c lost w y.step) (after_closing x level next)
    closes_there x level next k = grind (arith, by_wait)

    freeze_there : (t : ℕ) → t < c.tasks → (x : Freeze) (hook : HookAnswer) (s : FreezeStep) → FreezeFits c x.holder s →
        (freeze_hook s ≡ Some KeepWaiting → hook ≡ Ok tt) → ((i : ℕ) → level_role_of i (w.views t).phase ≡ position_count i (freeze_position s)) → MeetsAtFreeze c lost w s →
        GoesOnKept (λ (y : Freeze). MeetsAtFreeze c lost w y.step)
        (freeze_after x s (found_by (freeze_next x s hook).1 (read w.words (freeze_next x s hook).0)) hook).0
    freeze_there t lt x hook FreezeStep.Locks fits patient role h = rw (lock_there h) h
    freeze_there t lt x hook FreezeStep.LocksAgain fits patient role h = rw (lock_there h) h
    freeze_there t lt x hook (FreezeStep.LocksToUndo code) fits patient role h = rw (lock_there h) h
    freeze_there t lt x hook (FreezeStep.Closes d) fits patient role h =
        closes_there x d.level (down_write_after d d.step (found_by (down_write_next d d.step).1 (read w.words (down_write_next d d.step).0))).0
        (closing_there t lt d d.step fits.0 fits.1 fits.3 fits.4
        (role d.level ∙ ap (λ b. count_beside b (nat_lt d.level d.level) (down_count_role d.step)) (eq-eqb d.level d.level refl)) h)
    freeze_there t lt x (Ok answer) (FreezeStep.Waits d) fits patient role h =
        closes_there x d.level (down_write_after d d.step (found_by (down_write_next d d.step).1 (read w.words (down_write_next d d.step).0))).0
        (closing_there t lt d d.step fits.0.0 fits.0.1 fits.0.3 fits.0.4
        (role d.level ∙ ap (λ b. count_beside b (nat_lt d.level d.level) (down_count_role d.step)) (eq-eqb d.level d.level refl)) h)
    freeze_there t lt x (Err code) (FreezeStep.Waits d) fits patient role h = not_patient (Err code) refl (patient refl)
    freeze_there t lt x hook s fits patient role h = absurd h

    -- its own step leaves it where it meets the same
    step_meets : (t : ℕ) → t < c.tasks → (hook : HookAnswer) (p : Phase) → (w.views t).phase ≡ Some p → PhaseFits c t (held_of (w.views t)) p →
        (hook_of p ≡ Some KeepWaiting → hook ≡ Ok tt) → MeetsLost c lost w p → GoesOnKept (MeetsLost c lost w) (after_of p (found_at w.words p hook) hook).0
    step_meets t lt hook (Phase.Mounts (MountPhase.Want x)) at f patient h =
        goes_as Phase.Mounts (MeetsLost c lost w) _ (goes_as MountPhase.Want (λ y. MeetsLost c lost w (Phase.Mounts y)) _ (hold_at x f.0 h))
    step_meets t lt hook (Phase.Mounts (MountPhase.Change x)) at f patient h =
        goes_as Phase.Mounts (MeetsLost c lost w) _ (goes_as MountPhase.Change (λ y. MeetsLost c lost w (Phase.Mounts y)) _
        (kept_more (λ (y : Change). (y.step ≡ ChangeStep.Locks) × (y.wait ≡ true)) (λ (y : Change). MeetsLost c lost w (Phase.Mounts (MountPhase.Change y)))
        (λ y k. (k.0, k.1, h.2)) _ (change_goes w.words x x.step h.0 h.1 (lock_there h.2))))
    step_meets t lt hook (Phase.Remounts x) at f patient h =
        goes_as Phase.Remounts (MeetsLost c lost w) _
        (kept_more (λ (y : Remount). y.step ≡ RemountStep.Locks) (λ (y : Remount). MeetsLost c lost w (Phase.Remounts y)) (λ y k. (k, h.1)) _
        (remount_goes w.words x x.step hook h.0 (lock_there h.1)))
    step_meets t lt hook (Phase.DownReads r) at f patient h = goes_as Phase.DownReads (MeetsLost c lost w) _ (start_there r f.0 f.1 h)
    step_meets t lt hook (Phase.Writes (WritePhase.Takes m r)) at f patient h =
        goes_as Phase.Writes (MeetsLost c lost w) _ (takes _ (start_there r f.0.0 f.0.1 h))
      where
        takes : (next : Next DownRead) → GoesOnKept (MeetsLevel c lost w) next →
            GoesOnKept (λ (y : WritePhase). MeetsLost c lost w (Phase.Writes y)) (then_wants m r.cpu next)
        takes (Next.Go x) k = k
        takes (Next.Wait x) k = k
        takes (Next.Done answer) k = absurd k
    step_meets t lt hook (Phase.Writes (WritePhase.Wants x)) at f patient h = goes_as Phase.Writes (MeetsLost c lost w) _ (wants _ (hold_at x f.0.0 h))
      where
        wants : (next : Next Want) → GoesOnKept (MeetsHold c lost w) next →
            GoesOnKept (λ (y : WritePhase). MeetsLost c lost w (Phase.Writes y)) (then_gives_back x.mount x.cpu next)
        wants (Next.Go y) k = k
        wants (Next.Wait y) k = k
        wants (Next.Done answer) k = absurd k
    step_meets t lt hook (Phase.Freezes x) at f patient h =
        goes_as Phase.Freezes (MeetsLost c lost w) _ (freeze_there t lt x hook x.step f.5 patient (λ i. ap (level_role_of i) at) h)
    step_meets t lt hook (Phase.Callbacks b) at f patient h = goes_as Phase.Callbacks (MeetsLost c lost w) _ (callback_there b b.step h)
    step_meets t lt hook (Phase.Thaws x) at f patient h =
        goes_as Phase.Thaws (MeetsLost c lost w) _
        (kept_more (λ (y : Thaw). y.step ≡ ThawStep.Locks) (λ (y : Thaw). MeetsLost c lost w (Phase.Thaws y)) (λ y k. (k, h.1)) _
        (thaw_goes w.words x x.step hook h.0 (lock_there h.1)))
    step_meets t lt hook (Phase.Trees (TreePhase.Snapshot x)) at f patient h =
        goes_as Phase.Trees (MeetsLost c lost w) _ (goes_as TreePhase.Snapshot (λ y. MeetsLost c lost w (Phase.Trees y)) _
        (kept_more (λ (y : Snapshot). (y.step ≡ SnapshotStep.Locks) × (y.wait ≡ true))
        (λ (y : Snapshot). MeetsLost c lost w (Phase.Trees (TreePhase.Snapshot y)))
        (λ y k. (k.0, k.1, h.2)) _ (snapshot_goes w.words x x.step h.0 h.1 (lock_there h.2))))
    step_meets t lt hook (Phase.Closes (ClosePhase.Enters n node r)) at f patient h =
        goes_as Phase.Closes (MeetsLost c lost w) _ (enters _ (start_there r f.2.0 f.2.1 h))
      where
        enters : (next : Next DownRead) → GoesOnKept (MeetsLevel c lost w) next →
            GoesOnKept (λ (y : ClosePhase). MeetsLost c lost w (Phase.Closes y)) (then_frees n node r.cpu next)
        enters (Next.Go x) k = k
        enters (Next.Wait x) k = k
        enters (Next.Done answer) k = absurd k
    step_meets t lt hook p at f patient h = absurd h

  not_begun : (w : World) (u : ℕ) (op : Op) (p : Phase) → (w.views u).phase ≡ Some p → happens c w (Begins u op) ≡ w
  not_begun w u op p at =
      elim (cases_Bool (nat_lt u c.tasks)) [
        | inl h ↦ rw h (ap (λ o. begin_of c w u op (refusal c (is_some o) (held_of (w.views u)) op)) at)
        | inr h ↦ rw h refl
      ]

  -- where an operation stands after a transition, and that it meets the same there
  abbrev MeetsAt : World → ℕ → Type 0
  MeetsAt w t = (p : Phase) × ((w.views t).phase ≡ Some p) × MeetsLost c lost w p

  own_step : (w : World) → IsGood c w → (t : ℕ) → t < c.tasks → (p : Phase) → (w.views t).phase ≡ Some p → (hook : HookAnswer) →
      SameLost w (after_step w t p hook) → (coming : Next Phase) → ((after_step w t p hook).views t).phase ≡ phase_after coming →
      GoesOnKept (MeetsLost c lost w) coming → MeetsAt (after_step w t p hook) t
  own_step w good t lt p at hook same (Next.Go q) here k = (q, here, meets_later w (after_step w t p hook) same q k)
  own_step w good t lt p at hook same (Next.Wait q) here k = (q, here, meets_later w (after_step w t p hook) same q k)
  own_step w good t lt p at hook same (Next.Done answer) here k = absurd k

  -- a transition of another task leaves a lost one's view, and its section
  section_entry : (w : World) → IsGood c w → (e : Entry) (y : ℕ) → (y ≡ task_of e → ⊥) → (happens c w e).words.section y ≡ w.words.section y
  section_entry w good (Begins u op) y ne = begun (begin_refusal c w u op)
    where
      begun : (refused : Option GateError) → (begin_of c w u op refused).words.section y ≡ w.words.section y
      begun None = refl
      begun (Some refused) = refl
  section_entry w good (Steps u hook) y ne =
      elim (cases_lt u c.tasks) [
        | inl lu ↦ stepped lu (w.views u).phase refl
        | inr ge ↦ ap (λ (v : World). v.words.section y) (absent_is c lim lost w u ge hook)
      ]
    where
      stepped : u < c.tasks → (o : Option Phase) → (w.views u).phase ≡ o → (happens c w (Steps u hook)).words.section y ≡ w.words.section y
      stepped lu None at = ap (λ (v : World). v.words.section y) (idle_is c lim lost w u lu hook at)
      stepped lu (Some p) at =
          ap (λ (v : World). v.words.section y) (happens_is c w u lu hook p at) ∙
          section_still c w.words u (held_of (w.views u)) p hook (fits_at c w good u lu p at) y ne

  same_lost : (w : World) → IsGood c w → (e : Entry) → lost (task_of e) ≡ false → SameLost w (happens c w e)
  same_lost w good e live y dead = (
    same_entry c y w e (λ is. true≢false (sym dead ∙ (ap lost is ∙ live))),
    section_entry w good e y (λ is. true≢false (sym dead ∙ (ap lost is ∙ live))),
  )

  entry_meets : (w : World) → IsGood c w → (t : ℕ) → t < c.tasks → (e : Entry) → lost (task_of e) ≡ false → AnswersSo (IsPatientWith t) w e →
      MeetsAt w t → MeetsAt (happens c w e) t
  entry_meets w good t lt e live patient (p, at, h) =
      elim (eqb_tells t (task_of e)) [
        | inr ne ↦
            let v : (happens c w e).views t ≡ w.views t = same_entry c t w e ne.1 in
            (p, ap (λ (x : View). x.phase) v ∙ at, meets_later w (happens c w e) same p h)
        | inl is ↦ mine e is.1 live patient
      ]
    where
      same : SameLost w (happens c w e)
      same = same_lost w good e live

      mine : (e : Entry) → t ≡ task_of e → lost (task_of e) ≡ false → AnswersSo (IsPatientWith t) w e → MeetsAt (happens c w e) t
      mine (Begins u op) is live patient =
          subst (λ (v : World). MeetsAt v t) (sym (not_begun w u op p (sym (ap (λ x. (w.views x).phase) is) ∙ at))) (p, at, h)
      mine (Steps u hook) is live patient =
          let next : World = after_step w t p hook in
          let there : happens c w (Steps u hook) ≡ next = ap (λ x. happens c w (Steps x hook)) (sym is) ∙ happens_is c w t lt hook p at in
          let keeps : SameLost w next = subst (SameLost w) there (same_lost w good (Steps u hook) live) in
          subst (λ (v : World). MeetsAt v t) (sym there)
          (own_step w good t lt p at hook keeps (after_of p (found_at w.words p hook) hook).0 (stands_after c w t lt hook p at)
          (step_meets w good t lt hook p at (fits_at c w good t lt p at)
          (λ asks. patient p (sym (ap (λ x. (w.views x).phase) is) ∙ at) asks (sym is)) h))

  run_meets : (es : List Entry) (w : World) → IsGood c w → (t : ℕ) → t < c.tasks → AreOfOthers lost es → AllAnswerSo (IsPatientWith t) c w es →
      MeetsAt w t → MeetsAt (run c w es) t
  run_meets [] w good t lt others patient h = h
  run_meets (e ∷ es) w good t lt others patient h =
      run_meets es (happens c w e) (happens_keeps c lim w good e).0 t lt others.1 patient.1 (entry_meets w good t lt e others.0 patient.0 h)

  pub never_replies : (w : World) → IsGood c w → NeverReplies c lost w
  never_replies w good t lt p at h es others patient =
      let m : MeetsAt (run c w es) t = run_meets es w good t lt others patient (p, at, h) in
      (m.0, m.1)
