-- Where all have to wait, no steps of theirs are a reply, not even those of starts that count themselves again at a closed level.
use Rattle.progress_laws.proofs.Prelude.{AllWait, AtLevel, Begins, Bool, Callback, CallbackIsBlockedBy, CallbackStep, ClosePhase, ClosingIsBlockedBy}
use Rattle.progress_laws.proofs.Prelude.{Config, DownRead, DownReadStep, DownWrite, DownWriteStep, DownWriteStepFits, Entry, Err, Freeze, FreezeFits}
use Rattle.progress_laws.proofs.Prelude.{FreezeIsBlockedBy, FreezeStep, Grace, GraceNext, HookAnswer, IsGood, IsWithin, KeepWaiting, List, Next, None}
use Rattle.progress_laws.proofs.Prelude.{Ok, Option, Phase, PhaseFits, Some, Steps, Sum, SyncAt, SyncHoldsIn, View, Words, World, WritePhase, []}
use Rattle.progress_laws.proofs.Prelude.{after_closing, after_event, after_of, after_step, ap, arith, at_level, callback_after, callback_next}
use Rattle.progress_laws.proofs.Prelude.{callback_waits, cases_Bool, closing_waits, down_read_after, down_read_next, down_write_after}
use Rattle.progress_laws.proofs.Prelude.{down_write_next, eq-eqb, eqb_tells, false, fits_at, found_at, found_by, freeze_after, freeze_next}
use Rattle.progress_laws.proofs.Prelude.{freeze_waits, happens, happens_is, held_of, hook_of, if◌then◌else◌, inl, inr, is_frozen_whole, is_outside}
use Rattle.progress_laws.proofs.Prelude.{level_as_gate, looked, map_next, must_wait, nat_lt, not, phase_after, read, refl, run, sections_awaited}
use Rattle.progress_laws.proofs.Prelude.{stands_after, start_steps, steps_left, subst, suc, sym, sync_role_of, thaw_after, total, total_at, total_le}
use Rattle.progress_laws.proofs.Prelude.{tries_left, true, true≢false, update_at, update_off, value_at, view_after, zero, ℕ, ◌&&◌, ◌*◌, ◌+◌, ◌<◌}
use Rattle.progress_laws.proofs.Prelude.{◌==◌, ◌∙◌, ◌∷◌, ◌≡◌, ◌≤◌}
use Rattle.std.proofs.{Common.{add-one, ◌%◌}, Math.Path.fun_ext, lemmas.Bool.{and_parts, cases_lt, ltb-false, ltb-true, ne_eqb}}
use Rattle.access_model.specs.Histories.{levels_of}
use Rattle.composite_ops.specs.{file_closes.Phases.then_frees, write_access.Phases.{after as write_after, then_wants}}
use Rattle.cpu_words.{proofs.gate_counts.{Events.words_sum, Numbers.{below_le, below_step}}, specs.{Sums.lead, Touches.wrap_add}}
use Rattle.cpu_words.specs.gate_counts.Gates.{Barring, BarringHolds, GateView, admitted, below, counted, unread}
use Rattle.cpu_words.specs.gate_counts.Levels.{LevelRole, barring_of, processor_of}
use Rattle.{finite_sums.proofs.Totals.{total_add, total_bound, total_none, total_same}, freeze_levels.specs.Freezes.freeze_hook}
use Rattle.gate_schedules.proofs.{levels.{Counts.held_bit, Facts.blocked_slow}, operations.freeze.Closes.by_wait}
use Rattle.gate_schedules.{proofs.writers.Progress.{lead_last, lead_on}, specs.operations.Progress.{IsUnderWay, is_admitted}}
use Rattle.gate_world.specs.{Fits.ReadFits, Levels.level_role_of, Roles.{count_beside, count_role_if, down_count_role, freeze_position}}
use Rattle.gate_world.specs.{Roles.{position_count, read_count_role, read_level_role}, Rules.LevelHoldsIn, Views.{actions_after, holds_level}}
use Rattle.{gated_tree.specs.Phases.after as tree_after, mount_counts.specs.{Phases.after as mount_after, Remounts.remount_after}}
use Rattle.percpu_rwsem.specs.{Callbacks.callback_looked, Readers.{at_down_read, step_found}, SyncWords.unpack}
use Rattle.progress_laws.proofs.blocked.BarredStarts.{ComesTo, barred_next, sought_by, start_elsewhere, start_lead, start_next, start_out}
use Rattle.progress_laws.proofs.blocked.{BarredStarts.{start_section, start_words}, Blame.{each_is_blocked, nonzero, not_zero}}
use Rattle.progress_laws.proofs.nearer.{AllNearer.phase_comes, Calls.lock_found, Levels.{LookStays, begun_lead, look_stays}}
use Rattle.progress_laws.proofs.{nearer.Nearer.{StaysBy, StaysWaiting, patient_waits}, rounds.FairlyBlocked.{start_wait, waits_out}}
use Rattle.progress_laws.{proofs.rounds.Measured.{absent_is, after_good, idle_is}, specs.Answers.{AllAnswerSo, AnswersSo, IsPatient}}
use Rattle.progress_laws.specs.{LostTasks.{AreLiveSteps, IsBlockedBy, NobodyReplies}, Waiting.{grace_waits, lock_taken, was_found}}

-- a sum with one term changed
total_shift : (n t : ℕ) (f g : ℕ → ℕ) → t < n → ((x : ℕ) → (x ≡ t → ⊥) → g x ≡ f x) → total n g + f t ≡ total n f + g t
total_shift zero t f g lt others = absurd (omega (arith, lt))
total_shift (suc n) t f g lt others =
    elim (eqb_tells n t) [
      | inl e ↦
          let a : total n g ≡ total n f = total_same n g f (λ x lx. others x (λ q. omega (arith, lx, q, e.1))) in
          let p : g n ≡ g t = ap g e.1 in
          let q : f n ≡ f t = ap f e.1 in
          omega (arith, a, p, q)
      | inr e ↦
          let a : total n g + f t ≡ total n f + g t = total_shift n t f g (omega (arith, lt, e.1)) others in
          omega (arith, a, others n e.1)
    ]

-- what a task adds to the words that a sum has still to read, unless it is lost
abbrev seeks : (ℕ → Bool) → (ℕ → ℕ → ℕ) → ℕ → ℕ → ℕ
seeks lost sought k y = if lost y then 0 else sought k y

-- what of its count stays: an access, and what a lost one has added
abbrev fixed : (ℕ → Bool) → (ℕ → ℕ) → (ℕ → ℕ → ℕ) → ℕ → ℕ
fixed lost held sought y = held y + (if lost y then sought 0 y else 0)

-- A sum that doesn't come to 0: it leads by more than those add who may take it back, and something that is counted stays.
record SumIsKept (c : Config) (lost : ℕ → Bool) (level : ℕ → ℕ) (held : ℕ → ℕ) (sought : ℕ → ℕ → ℕ) (sum : Sum) : Type 0 where
  ahead : total c.tasks (seeks lost sought sum.words) + 1 ≤ lead c.processors level sum.words sum.total
  stays : 1 ≤ total c.tasks (fixed lost held sought)

module _ (c : Config) (lost : ℕ → Bool) (v : Words) (held : ℕ → ℕ → ℕ) (sought : ℕ → ℕ → ℕ → ℕ) where
  abbrev StartKept : DownRead → Type 0
  StartKept r = (r.wait ≡ true) × (is_admitted r.step ≡ false) × (v.block r.level ≡ 0 → ⊥)

  abbrev ClosingKept : DownWrite → DownWriteStep → Type 0
  ClosingKept d (DownWriteStep.AwaitsSections g) = (grace_waits v g ≡ true) × (lost g.task ≡ true)
  ClosingKept d (DownWriteStep.Sums sum) = SumIsKept c lost (v.level d.level) (held d.level) (sought d.level) sum
  ClosingKept d s = ⊥

  abbrev FreezeKept : FreezeStep → Type 0
  FreezeKept (FreezeStep.Closes d) = ClosingKept d d.step
  FreezeKept (FreezeStep.Waits d) = ClosingKept d d.step
  FreezeKept s = freeze_waits v s ≡ true

  abbrev CallbackKept : CallbackStep → Type 0
  CallbackKept (CallbackStep.AwaitsSections g) = (grace_waits v g ≡ true) × (lost g.task ≡ true)
  CallbackKept s = ⊥

  abbrev KeptIn : Phase → Type 0
  KeptIn (Phase.DownReads r) = StartKept r
  KeptIn (Phase.Writes (WritePhase.Takes m r)) = StartKept r
  KeptIn (Phase.Closes (ClosePhase.Enters f node r)) = StartKept r
  KeptIn (Phase.Freezes x) = FreezeKept x.step
  KeptIn (Phase.Callbacks b) = CallbackKept b.step
  KeptIn p = must_wait v p ≡ true

-- at a level, of each task: what it holds, and what it seeks
abbrev gate : World → ℕ → ℕ → GateView
gate w i y = level_as_gate (at_level i (w.views y))

abbrev held_in : World → ℕ → ℕ → ℕ
held_in w i y = admitted (gate w i y)

abbrev sought_in : World → ℕ → ℕ → ℕ → ℕ
sought_in w i k y = unread k (gate w i y)

abbrev KeptAt : Config → (ℕ → Bool) → World → Phase → Type 0
KeptAt c lost w p = KeptIn c lost w.words (held_in w) (sought_in w) p

-- each operation under way of a task that isn't lost
abbrev AllKept : Config → (ℕ → Bool) → World → Type 0
AllKept c lost w = (t : ℕ) → t < c.tasks → lost t ≡ false → (p : Phase) → (w.views t).phase ≡ Some p → KeptAt c lost w p

module _ (c : Config) (lim : IsWithin c) (lost : ℕ → Bool) where
  module _ (w : World) (good : IsGood c w) where
    -- a sum's lead is far below 2^64
    lead_small : (u : ℕ) → u < c.tasks → (i k s : ℕ) → 1 ≤ i → i ≤ 3 → level_role_of i (w.views u).phase ≡ LevelRole.Summing k s →
        lead c.processors (w.words.level i) k s ≤ 100000
    lead_small u lu i k s one three role =
        let l : LevelHoldsIn c w i = good (AtLevel i) one three in
        let b : BarringHolds c.processors (w.words.level i) (total c.tasks (λ x. held_in w i x)) (λ n. total c.tasks (λ x. sought_in w i n x))
        (Barring.Reading k s) =
        subst (λ r. BarringHolds c.processors (w.words.level i) (total c.tasks (λ x. held_in w i x)) (λ n. total c.tasks (λ x. sought_in w i n x))
        (barring_of r)) role (l.gate.sums u lu) in
        let few : total c.tasks (λ x. sought_in w i k x) ≤ c.tasks * 1 =
        total_bound c.tasks 1 (λ x. sought_in w i k x) (λ x lx. below_le k (processor_of (level_role_of i (w.views x).phase))) in
        omega (arith, b, few, lim.tasks, lim.processors)

    -- what is counted at a level is what stays and what is sought
    counted_parts : (i : ℕ) → total c.tasks (λ y. counted (gate w i y)) ≡
        total c.tasks (fixed lost (held_in w i) (sought_in w i)) + total c.tasks (seeks lost (sought_in w i) 0)
    counted_parts i =
        total_same c.tasks _ _ (λ y ly. elim (cases_Bool (lost y)) [ inl dead ↦ rw dead (omega arith) | inr live ↦ rw live (omega arith) ]) ∙
        total_add c.tasks (fixed lost (held_in w i) (sought_in w i)) (seeks lost (sought_in w i) 0)

    counted_few : (i : ℕ) → 1 ≤ i → i ≤ 3 → total c.tasks (λ y. counted (gate w i y)) ≤ 65600
    counted_few i one three =
        let l : LevelHoldsIn c w i = good (AtLevel i) one three in
        let b : total c.tasks (λ y. counted (gate w i y)) ≤ c.tasks * 1025 =
        total_bound c.tasks 1025 (λ y. counted (gate w i y))
        (λ y ly. omega (arith, l.gate.room y ly, below_le 0 (processor_of (level_role_of i (w.views y).phase)))) in
        omega (arith, b, lim.tasks)

    -- a new sum of a level at which something stays counted
    begun_kept : (i : ℕ) → 1 ≤ i → i ≤ 3 → 1 ≤ total c.tasks (fixed lost (held_in w i) (sought_in w i)) →
        SumIsKept c lost (w.words.level i) (held_in w i) (sought_in w i) (record { words = 0; total = 0 })
    begun_kept i one three some =
        let l : LevelHoldsIn c w i = good (AtLevel i) one three in
        record {
          ahead = omega (arith, begun_lead c.processors (w.words.level i), words_sum l.gate.counts, counted_parts i, counted_few i one three, some);
          stays = some;
        }

    -- a sum that is kept so takes one word more
    cursor_kept : (i : ℕ) → 1 ≤ i → i ≤ 3 → (sum : Sum) → sum.words + 1 < c.processors →
        SumIsKept c lost (w.words.level i) (held_in w i) (sought_in w i) sum →
        SumIsKept c lost (w.words.level i) (held_in w i) (sought_in w i)
        (record { words = sum.words + 1; total = wrap_add sum.total (w.words.level i sum.words) })
    cursor_kept i one three sum lt kept = record {
      ahead =
          let fewer : total c.tasks (seeks lost (sought_in w i) (sum.words + 1)) ≤ total c.tasks (seeks lost (sought_in w i) sum.words) =
          total_le c.tasks _ _ (λ y ly. elim (cases_Bool (lost y)) [
            | inl dead ↦ rw dead (omega arith)
            | inr live ↦ rw live (omega (
              arith,
              (below_step sum.words (processor_of (level_role_of i (w.views y).phase))).0,
              ap (λ n. sought_in w i n y) (add-one sum.words),
            ))
          ]) in
          omega (arith, fewer, kept.ahead, lead_on c.processors (w.words.level i) sum.words sum.total (omega (arith, lt)));
      stays = kept.stays;
    }

    -- who is kept has to wait, but for a start
    sum_waiting : (d : DownWrite) (sum : Sum) → 1 ≤ d.level → d.level ≤ 3 → d.processors ≡ c.processors →
        SumIsKept c lost (w.words.level d.level) (held_in w d.level) (sought_in w d.level) sum → closing_waits w.words d (DownWriteStep.Sums sum) ≡ true
    sum_waiting d sum one three processors kept =
        let first : SumIsKept c lost (w.words.level d.level) (held_in w d.level) (sought_in w d.level) (record { words = 0; total = 0 }) =
        begun_kept d.level one three kept.stays in
        let a : (lead c.processors (w.words.level d.level) sum.words sum.total == 0) ≡ false =
        ne_eqb _ 0 (λ e. omega (arith, e, kept.ahead)) in
        let b : (total c.processors (w.words.level d.level) % 18446744073709551616 == 0) ≡ false =
        ne_eqb _ 0 (λ e. omega (arith, e, first.ahead, begun_lead c.processors (w.words.level d.level))) in
        rw (processors, a, b) refl

-- an error doesn't say to wait on
abbrev pub is_error : HookAnswer → Bool
is_error (Ok answer) = false
is_error (Err code) = true

pub not_patient : {A : Type 0} (hook : HookAnswer) → is_error hook ≡ true → hook ≡ Ok tt → A
not_patient hook error e = absurd (true≢false (sym error ∙ ap is_error e))

-- what comes next goes on, and is kept
abbrev pub GoesOnKept : {P : Type 0} → (P → Type 0) → Next P → Type 0
GoesOnKept kept (Next.Go q) = kept q
GoesOnKept kept (Next.Wait q) = kept q
GoesOnKept kept (Next.Done answer) = ⊥

pub goes_as : {A B : Type 0} (to : A → B) (kept : B → Type 0) (next : Next A) → GoesOnKept (λ x. kept (to x)) next → GoesOnKept kept (map_next to next)
goes_as to kept next h = grind arith

-- a step that has to wait, by what has to wait then
goes_waiting : {A : Type 0} (to : A → Phase) (w : Words) (kept : Phase → Type 0) (a b d : ℕ) (next : Next A) →
    ((x : A) → must_wait w (to x) ≡ true → kept (to x)) →
    StaysBy (λ q. must_wait w q ≡ true) steps_left (start_steps w) (tries_left w) a b d (map_next to next) → GoesOnKept kept (map_next to next)
goes_waiting to w kept a b d next is h = grind arith

module _ (c : Config) (lim : IsWithin c) (lost : ℕ → Bool) (w : World) (good : IsGood c w) where
  abbrev ClosingIn : DownWrite → DownWriteStep → Type 0
  ClosingIn = ClosingKept c lost w.words (held_in w) (sought_in w)

  abbrev FreezeIn : FreezeStep → Type 0
  FreezeIn = FreezeKept c lost w.words (held_in w) (sought_in w)

  -- a load of a sum
  sum_goes : (d : DownWrite) (sum : Sum) → 1 ≤ d.level → d.level ≤ 3 → d.processors ≡ c.processors → sum.words < d.processors →
      ClosingIn d (DownWriteStep.Sums sum) →
      GoesOnKept (λ (y : DownWrite). (y.level ≡ d.level) × ClosingIn y y.step)
      (down_write_after d (DownWriteStep.Sums sum) (w.words.level d.level sum.words)).0 ×
      ((down_write_after d (DownWriteStep.Sums sum) (w.words.level d.level sum.words)).1 ≡ None)
  sum_goes d sum one three processors lt kept =
      let count : ℕ → ℕ = w.words.level d.level in
      elim (cases_Bool (nat_lt (sum.words + 1) d.processors)) [
        | inl h ↦ rw h (
          (refl, cursor_kept c lim lost w good d.level one three sum (omega (arith, ltb-true (sum.words + 1) d.processors h, processors)) kept),
          refl,
        )
        | inr h ↦
            let last : wrap_add sum.total (count sum.words) ≡ lead d.processors count sum.words sum.total =
            lead_last d.processors count sum.words sum.total lt (ltb-false (sum.words + 1) d.processors h) in
            let e : (wrap_add sum.total (count sum.words) == 0) ≡ false =
            ne_eqb _ 0 (λ z. omega (arith, z, last, ap (λ p. lead p count sum.words sum.total) processors, kept.ahead)) in
            rw (h, e) ((refl, begun_kept c lim lost w good d.level one three kept.stays), refl)
      ]

  -- a look at a section
  look_goes : (d : DownWrite) (g : Grace) → ClosingIn d (DownWriteStep.AwaitsSections g) →
      GoesOnKept (λ (y : DownWrite). (y.level ≡ d.level) × ClosingIn y y.step)
      (down_write_after d (DownWriteStep.AwaitsSections g) (w.words.section g.task)).0
  look_goes d g kept = looks (looked g (w.words.section g.task)) (look_stays g (w.words.section g.task) kept.0)
    where
      looks : (next : GraceNext) → LookStays g next →
          GoesOnKept (λ (y : DownWrite). (y.level ≡ d.level) × ClosingIn y y.step) (sections_awaited d next)
      looks (GraceNext.Wait next) is =
          subst (λ (q : Grace). (d.level ≡ d.level) × ((grace_waits w.words q ≡ true) × (lost q.task ≡ true))) (sym is) (refl, kept)
      looks other is = absurd is

  closing_goes : (d : DownWrite) (s : DownWriteStep) → 1 ≤ d.level → d.level ≤ 3 → d.processors ≡ c.processors → DownWriteStepFits c s →
      ClosingIn d s →
      GoesOnKept (λ (y : DownWrite). (y.level ≡ d.level) × ClosingIn y y.step)
      (down_write_after d s (found_by (down_write_next d s).1 (read w.words (down_write_next d s).0))).0 ×
      ((down_write_after d s (found_by (down_write_next d s).1 (read w.words (down_write_next d s).0))).1 ≡ None)
  closing_goes d s one three processors fits kept = grind (arith, look_goes, sum_goes)

  freeze_closes_goes : (x : Freeze) (level : ℕ) (d : DownWrite) (next : Next DownWrite) →
      GoesOnKept (λ (y : DownWrite). (y.level ≡ d.level) × ClosingIn y y.step) next →
      GoesOnKept (λ (y : Freeze). FreezeIn y.step) (after_closing x level next)
  freeze_closes_goes x level d next h = grind (arith, by_wait)

  freeze_goes : (x : Freeze) (s : FreezeStep) (hook : HookAnswer) → FreezeFits c x.holder s → (freeze_hook s ≡ Some KeepWaiting → hook ≡ Ok tt) →
      FreezeIn s →
      GoesOnKept (λ (y : Freeze). FreezeIn y.step) (freeze_after x s (found_by (freeze_next x s hook).1 (read w.words (freeze_next x s hook).0)) hook).0 ×
      ((freeze_after x s (found_by (freeze_next x s hook).1 (read w.words (freeze_next x s hook).0)) hook).1 ≡ None)
  freeze_goes x s hook fits patient kept = grind (arith, lock_found, closing_goes, freeze_closes_goes, not_patient)

  closing_waiting : (d : DownWrite) (s : DownWriteStep) → 1 ≤ d.level → d.level ≤ 3 → d.processors ≡ c.processors → ClosingIn d s →
      closing_waits w.words d s ≡ true
  closing_waiting d s one three processors kept = grind (arith, sum_waiting)

  freeze_waiting : (x : Freeze) (s : FreezeStep) → FreezeFits c x.holder s → FreezeIn s → freeze_waits w.words s ≡ true
  freeze_waiting x s fits kept = grind (arith, closing_waiting)

  callback_goes : (b : Callback) (s : CallbackStep) → CallbackKept c lost w.words (held_in w) (sought_in w) s →
      GoesOnKept (λ (y : Callback). CallbackKept c lost w.words (held_in w) (sought_in w) y.step)
      (callback_after b s (found_by (callback_next b s).1 (read w.words (callback_next b s).0))).0
  callback_goes b (CallbackStep.AwaitsSections g) kept = looks (looked g (w.words.section g.task)) (look_stays g (w.words.section g.task) kept.0)
    where
      looks : (next : GraceNext) → LookStays g next →
          GoesOnKept (λ (y : Callback). CallbackKept c lost w.words (held_in w) (sought_in w) y.step) (callback_looked b next)
      looks (GraceNext.Wait next) is =
          subst (λ (q : Grace). (grace_waits w.words q ≡ true) × (lost q.task ≡ true)) (sym is) kept
      looks other is = absurd is
  callback_goes b s kept = absurd kept

  callback_waiting : (s : CallbackStep) → CallbackKept c lost w.words (held_in w) (sought_in w) s → callback_waits w.words s ≡ true
  callback_waiting (CallbackStep.AwaitsSections g) kept = kept.0
  callback_waiting s kept = absurd kept

-- what has to wait by `umount` or a flag does so with other counts and sections
abbrev waits_plainly : Phase → Bool
waits_plainly (Phase.DownReads r) = false
waits_plainly (Phase.Writes (WritePhase.Takes m r)) = false
waits_plainly (Phase.Closes (ClosePhase.Enters f node r)) = false
waits_plainly (Phase.Freezes x) = false
waits_plainly (Phase.Callbacks b) = false
waits_plainly p = true

plainly_same : (v w : Words) → v.umount ≡ w.umount → v.flags ≡ w.flags → (p : Phase) → waits_plainly p ≡ true → must_wait w p ≡ true →
    must_wait v p ≡ true
plainly_same v w umount flags p plain waits = grind arith

module _ (c : Config) (lim : IsWithin c) (lost : ℕ → Bool) (w : World) (good : IsGood c w) (t : ℕ) (lt : t < c.tasks) (live : lost t ≡ false)
    (p : Phase) (at : (w.views t).phase ≡ Some p) (hook : HookAnswer) where
  abbrev next : World
  next = after_step w t p hook

  abbrev stepped : View
  stepped = view_after (w.views t) p (value_at w.words p hook) hook

  own : next.views t ≡ stepped
  own = update_at w.views t stepped

  beside : (y : ℕ) → (y ≡ t → ⊥) → next.views y ≡ w.views y
  beside y ne = update_off w.views t stepped y ne

  -- with no action it holds what it held
  held_still : (after_of p (found_at w.words p hook) hook).1 ≡ None → (i y : ℕ) → held_in next i y ≡ held_in w i y
  held_still silent i y =
      elim (eqb_tells y t) [
        | inl e ↦
            let a : held_bit (holds_level (next.views t) i) ≡ held_bit (holds_level (w.views t) i) =
            ap (λ (v : View). held_bit (holds_level v i)) own ∙
            ap (λ a. held_bit (levels_of (actions_after a (w.views t).actions) i)) silent in
            let b : held_in next i t ≡ held_in w i t = omega (arith, a) in
            ap (held_in next i) e.1 ∙ (b ∙ sym (ap (held_in w i) e.1))
        | inr ne ↦ ap (λ (v : View). admitted (level_as_gate (at_level i v))) (beside y ne.1)
      ]

  -- a step that changes no word
  module _ (same : next.words ≡ w.words) (silent : (after_of p (found_at w.words p hook) hook).1 ≡ None) (q : Phase)
      (here : (next.views t).phase ≡ Some q) (before : (i : ℕ) → processor_of (level_role_of i (Some p)) ≡ 0)
      (then_ : (i : ℕ) → processor_of (level_role_of i (Some q)) ≡ 0) where
    sought_still : (i k y : ℕ) → sought_in next i k y ≡ sought_in w i k y
    sought_still i k y =
        elim (eqb_tells y t) [
          | inl e ↦
              let a : sought_in next i k t ≡ below k 0 = ap (λ o. below k (processor_of (level_role_of i o))) here ∙ ap (below k) (then_ i) in
              let b : sought_in w i k t ≡ below k 0 = ap (λ o. below k (processor_of (level_role_of i o))) at ∙ ap (below k) (before i) in
              ap (sought_in next i k) e.1 ∙ (a ∙ sym (ap (sought_in w i k) e.1 ∙ b))
          | inr ne ↦ ap (λ (v : View). unread k (level_as_gate (at_level i v))) (beside y ne.1)
        ]

    still : (o : Phase) → KeptAt c lost w o → KeptAt c lost next o
    still o kept =
        subst (λ (h : ℕ → ℕ → ℕ). KeptIn c lost next.words h (sought_in next) o) (sym (fun_ext (λ i. fun_ext (λ y. held_still silent i y))))
        (subst (λ (s : ℕ → ℕ → ℕ → ℕ). KeptIn c lost next.words (held_in w) s o)
        (sym (fun_ext (λ i. fun_ext (λ k. fun_ext (λ y. sought_still i k y)))))
        (subst (λ (v : Words). KeptIn c lost v (held_in w) (sought_in w) o) (sym same) kept))

  -- a step of a start
  module _ (r : DownRead) (task : r.task ≡ t) (cpu : r.cpu < c.processors) (out : is_admitted r.step ≡ false)
      (words : next.words ≡ after_event w.words (down_read_next r r.step))
      (silent : (after_of p (found_at w.words p hook) hook).1 ≡ None)
      (role : (i : ℕ) → level_role_of i (Some p) ≡ read_level_role i r)
      (q : Phase) (here : (next.views t).phase ≡ Some q)
      (then_ : (i : ℕ) → level_role_of i (Some q) ≡ read_level_role i (at_down_read r (barred_next r.step))) where
    sought_before : (i k : ℕ) → sought_in w i k t ≡ below k (processor_of (count_role_if (i == r.level) (read_count_role r.cpu r.step)))
    sought_before i k = ap (λ o. below k (processor_of (level_role_of i o))) at ∙ ap (λ l. below k (processor_of l)) (role i)

    sought_then : (i k : ℕ) → sought_in next i k t ≡
        below k (processor_of (count_role_if (i == r.level) (read_count_role r.cpu (barred_next r.step))))
    sought_then i k = ap (λ o. below k (processor_of (level_role_of i o))) here ∙ ap (λ l. below k (processor_of l)) (then_ i)

    lead_moves : (i k s : ℕ) → lead c.processors (w.words.level i) k s ≤ 100000 → sought_in w i k t ≤ lead c.processors (w.words.level i) k s →
        lead c.processors (next.words.level i) k s + sought_in w i k t ≡ lead c.processors (w.words.level i) k s + sought_in next i k t
    lead_moves i k s small some =
        elim (eqb_tells i r.level) [
          | inl e ↦
              let b : sought_in w i k t ≡ below k (sought_by r.cpu r.step) =
              sought_before i k ∙ ap (λ x. below k (processor_of (count_role_if x (read_count_role r.cpu r.step)))) e.0 in
              let a : sought_in next i k t ≡ below k (sought_by r.cpu (barred_next r.step)) =
              sought_then i k ∙ ap (λ x. below k (processor_of (count_role_if x (read_count_role r.cpu (barred_next r.step))))) e.0 in
              let l : lead c.processors (w.words.level i) k s ≡ lead c.processors (w.words.level r.level) k s =
              ap (λ j. lead c.processors (w.words.level j) k s) e.1 in
              let m : lead c.processors (next.words.level i) k s ≡
              lead c.processors ((after_event w.words (down_read_next r r.step)).level r.level) k s =
              ap (λ (v : Words). lead c.processors (v.level i) k s) words ∙
              ap (λ j. lead c.processors ((after_event w.words (down_read_next r r.step)).level j) k s) e.1 in
              omega (arith, start_lead w.words r r.step out c.processors k s cpu (omega (arith, small, l)) (omega (arith, some, b, l)), a, b, l, m)
          | inr ne ↦
              let b : sought_in w i k t ≡ below k 0 =
              sought_before i k ∙ ap (λ x. below k (processor_of (count_role_if x (read_count_role r.cpu r.step)))) ne.0 in
              let a : sought_in next i k t ≡ below k 0 =
              sought_then i k ∙ ap (λ x. below k (processor_of (count_role_if x (read_count_role r.cpu (barred_next r.step))))) ne.0 in
              let m : lead c.processors (next.words.level i) k s ≡ lead c.processors (w.words.level i) k s =
              ap (λ (v : Words). lead c.processors (v.level i) k s) words ∙
              ap (λ f. lead c.processors f k s) (start_elsewhere w.words r r.step i ne.1) in
              omega (arith, a, b, m)
        ]

    sum_moves : (i : ℕ) (sum : Sum) → lead c.processors (w.words.level i) sum.words sum.total ≤ 100000 →
        SumIsKept c lost (w.words.level i) (held_in w i) (sought_in w i) sum →
        SumIsKept c lost (next.words.level i) (held_in next i) (sought_in next i) sum
    sum_moves i sum small kept =
        let k : ℕ = sum.words in
        let mine : seeks lost (sought_in w i) k t ≡ sought_in w i k t = rw live refl in
        let mine' : seeks lost (sought_in next i) k t ≡ sought_in next i k t = rw live refl in
        let shift : total c.tasks (seeks lost (sought_in next i) k) + seeks lost (sought_in w i) k t ≡
        total c.tasks (seeks lost (sought_in w i) k) + seeks lost (sought_in next i) k t =
        total_shift c.tasks t (seeks lost (sought_in w i) k) (seeks lost (sought_in next i) k) lt
        (λ y ne. ap (λ (v : View). if lost y then 0 else unread k (level_as_gate (at_level i v))) (beside y ne)) in
        let some : sought_in w i k t ≤ lead c.processors (w.words.level i) k sum.total =
        omega (arith, kept.ahead, total_at c.tasks t (seeks lost (sought_in w i) k) lt, mine) in
        record {
          ahead = omega (arith, kept.ahead, lead_moves i k sum.total small some, shift, mine, mine');
          stays =
              let e : total c.tasks (fixed lost (held_in next i) (sought_in next i)) ≡ total c.tasks (fixed lost (held_in w i) (sought_in w i)) =
              total_same c.tasks _ _ (λ y ly. elim (eqb_tells y t) [
                | inl is ↦
                    let gone : lost y ≡ false = ap lost is.1 ∙ live in
                    rw gone (omega (arith, held_still silent i y))
                | inr ne ↦ ap (λ (v : View). admitted (level_as_gate (at_level i v)) + (if lost y then unread 0 (level_as_gate (at_level i v)) else 0))
                    (beside y ne.1)
              ]) in
              omega (arith, e, kept.stays);
        }

    block_still : next.words.block ≡ w.words.block
    block_still = ap (λ (v : Words). v.block) words ∙ (start_words w.words r r.step).2

    section_still : (y : ℕ) → lost y ≡ true → next.words.section y ≡ w.words.section y
    section_still y dead =
        ap (λ (v : Words). v.section y) words ∙
        start_section w.words r r.step y (λ e. true≢false (sym dead ∙ (ap lost (e ∙ task) ∙ live)))

    grace_still : (g : Grace) → (grace_waits w.words g ≡ true) × (lost g.task ≡ true) → (grace_waits next.words g ≡ true) × (lost g.task ≡ true)
    grace_still g h =
        (ap (λ n. (n % 2 == 1) && was_found g.first n) (section_still g.task h.1) ∙ h.0, h.1)

    lock_still : lock_taken w.words ≡ true → lock_taken next.words ≡ true
    lock_still h = ap (λ n. not (n == 0)) (ap (λ (v : Words). v.umount) words ∙ (start_words w.words r r.step).0) ∙ h

    closing_still : (u : ℕ) → u < c.tasks → (d : DownWrite) (s : DownWriteStep) → 1 ≤ d.level → d.level ≤ 3 →
        level_role_of d.level (w.views u).phase ≡ down_count_role s → ClosingKept c lost w.words (held_in w) (sought_in w) d s →
        ClosingKept c lost next.words (held_in next) (sought_in next) d s
    closing_still u lu d s one three is kept = grind (arith, grace_still, sum_moves, lead_small)

    freeze_still : (u : ℕ) → u < c.tasks → (x : Freeze) (s : FreezeStep) → FreezeFits c x.holder s →
        ((i : ℕ) → level_role_of i (w.views u).phase ≡ position_count i (freeze_position s)) → FreezeKept c lost w.words (held_in w) (sought_in w) s →
        FreezeKept c lost next.words (held_in next) (sought_in next) s
    freeze_still u lu x (FreezeStep.Closes d) fits is kept =
        closing_still u lu d d.step fits.0 fits.1
        (is d.level ∙ ap (λ b. count_beside b (nat_lt d.level d.level) (down_count_role d.step)) (eq-eqb d.level d.level refl)) kept
    freeze_still u lu x (FreezeStep.Waits d) fits is kept =
        closing_still u lu d d.step fits.0.0 fits.0.1
        (is d.level ∙ ap (λ b. count_beside b (nat_lt d.level d.level) (down_count_role d.step)) (eq-eqb d.level d.level refl)) kept
    freeze_still u lu x (FreezeStep.LocksToUndo code) fits is kept = lock_still kept
    freeze_still u lu x FreezeStep.Locks fits is kept = lock_still kept
    freeze_still u lu x FreezeStep.LocksAgain fits is kept = lock_still kept
    freeze_still u lu x s fits is kept = absurd (true≢false (sym kept))

    callback_still : (s : CallbackStep) → CallbackKept c lost w.words (held_in w) (sought_in w) s →
        CallbackKept c lost next.words (held_in next) (sought_in next) s
    callback_still (CallbackStep.AwaitsSections g) kept = grace_still g kept
    callback_still s kept = absurd kept

    start_still : (x : DownRead) → StartKept c lost w.words (held_in w) (sought_in w) x → StartKept c lost next.words (held_in next) (sought_in next) x
    start_still x h = (h.0, h.1, λ z. h.2 (sym (ap (λ f. f x.level) block_still) ∙ z))

    plain_still : (o : Phase) → waits_plainly o ≡ true → must_wait w.words o ≡ true → must_wait next.words o ≡ true
    plain_still o plain waits =
        plainly_same next.words w.words (ap (λ (v : Words). v.umount) words ∙ (start_words w.words r r.step).0)
        (ap (λ (v : Words). v.flags) words ∙ (start_words w.words r r.step).1) o plain waits

    -- another task is kept still
    other_still : (u : ℕ) → u < c.tasks → (o : Phase) → (w.views u).phase ≡ Some o → PhaseFits c u (held_of (w.views u)) o → KeptAt c lost w o →
        KeptAt c lost next o
    other_still u lu (Phase.DownReads x) is f kept = start_still x kept
    other_still u lu (Phase.Writes (WritePhase.Takes m x)) is f kept = start_still x kept
    other_still u lu (Phase.Closes (ClosePhase.Enters n node x)) is f kept = start_still x kept
    other_still u lu (Phase.Freezes x) is f kept = freeze_still u lu x x.step f.5 (λ i. ap (level_role_of i) is) kept
    other_still u lu (Phase.Callbacks b) is f kept = callback_still b.step kept
    other_still u lu (Phase.Mounts x) is f kept = plain_still (Phase.Mounts x) refl kept
    other_still u lu (Phase.Remounts x) is f kept = plain_still (Phase.Remounts x) refl kept
    other_still u lu (Phase.UpReads x) is f kept = plain_still (Phase.UpReads x) refl kept
    other_still u lu (Phase.Thaws x) is f kept = plain_still (Phase.Thaws x) refl kept
    other_still u lu (Phase.Trees x) is f kept = plain_still (Phase.Trees x) refl kept
    other_still u lu (Phase.Writes (WritePhase.Wants x)) is f kept = plain_still (Phase.Writes (WritePhase.Wants x)) refl kept
    other_still u lu (Phase.Writes x) is f kept = absurd (true≢false (sym kept))
    other_still u lu (Phase.Closes x) is f kept = absurd (true≢false (sym kept))

  -- what a step leaves, of its task and of the others
  record Stepped : Type 0 where
    at_then : Phase
    here : (next.views t).phase ≡ Some at_then
    kept : KeptAt c lost next at_then
    others : (u : ℕ) → u < c.tasks → (u ≡ t → ⊥) → (o : Phase) → (w.views u).phase ≡ Some o → KeptAt c lost w o → KeptAt c lost next o

  -- a start, as it stands in its phases
  module _ (r : DownRead) (fits : ReadFits c t (held_of (w.views t)) r) (kept : StartKept c lost w.words (held_in w) (sought_in w) r)
      (to : DownRead → Phase) (words : next.words ≡ after_event w.words (down_read_next r r.step))
      (role : (i : ℕ) → level_role_of i (Some p) ≡ read_level_role i r)
      (role_to : (i : ℕ) (x : DownRead) → level_role_of i (Some (to x)) ≡ read_level_role i x)
      (kept_to : (x : DownRead) → StartKept c lost next.words (held_in next) (sought_in next) x → KeptAt c lost next (to x)) where
    closed_one : w.words.block r.level ≡ 1
    closed_one = omega (arith, nonzero (w.words.block r.level) kept.2, (good (AtLevel r.level) fits.0 fits.1).known)

    slow_there : step_found (unpack (w.words.sync r.level)) ≡ DownReadStep.CountsUpSlow
    slow_there =
        let s : SyncHoldsIn c w r.level = good (SyncAt r.level) fits.0 fits.1 in
        ap step_found s.packed ∙
        blocked_slow c.tasks s.word (w.words.block r.level) (is_frozen_whole w.words) w.words.section
        (λ y. sync_role_of r.level (w.views y).phase) s.holds closed_one

    start_steps_to : ComesTo (at_down_read r (barred_next r.step))
        (down_read_after r r.step (found_by (down_read_next r r.step).1 (read w.words (down_read_next r r.step).0))).0 ×
        ((down_read_after r r.step (found_by (down_read_next r r.step).1 (read w.words (down_read_next r r.step).0))).1 ≡ None)
    start_steps_to = start_next w.words r kept.0 closed_one slow_there r.step kept.1

    start_stepped : (next.views t).phase ≡ Some (to (at_down_read r (barred_next r.step))) →
        (after_of p (found_at w.words p hook) hook).1 ≡ None → Stepped
    start_stepped here silent = record {
      at_then = to (at_down_read r (barred_next r.step));
      here = here;
      kept = kept_to (at_down_read r (barred_next r.step)) (
        kept.0,
        start_out w.words r kept.0 closed_one slow_there r.step kept.1,
        λ z. kept.2 (sym (ap (λ f. f r.level) (ap (λ (v : Words). v.block) words ∙ (start_words w.words r r.step).2)) ∙ z),
      );
      others = λ u lu ne o is k.
          other_still r fits.3 fits.2 kept.1 words silent role (to (at_down_read r (barred_next r.step))) here
          (λ i. role_to i (at_down_read r (barred_next r.step))) u lu o is (fits_at c w good u lu o is) k;
    }

    -- by what comes next in its phases
    start_by : (outer : Next DownRead → Next Phase) → ((x : DownRead) → phase_after (outer (Next.Go x)) ≡ Some (to x)) →
        ((x : DownRead) → phase_after (outer (Next.Wait x)) ≡ Some (to x)) → (coming : Next DownRead) →
        ComesTo (at_down_read r (barred_next r.step)) coming → (next.views t).phase ≡ phase_after (outer coming) →
        (after_of p (found_at w.words p hook) hook).1 ≡ None → Stepped
    start_by outer go wait (Next.Go x) is here silent = start_stepped (here ∙ (go x ∙ ap (λ y. Some (to y)) is)) silent
    start_by outer go wait (Next.Wait x) is here silent = start_stepped (here ∙ (wait x ∙ ap (λ y. Some (to y)) is)) silent
    start_by outer go wait (Next.Done answer) is here silent = absurd is

  -- a step that has to wait
  module _ (waits : must_wait w.words p ≡ true) (patient : hook_of p ≡ Some KeepWaiting → hook ≡ Ok tt) (out : is_outside w.words p ≡ false)
      (silent : (after_of p (found_at w.words p hook) hook).1 ≡ None) where
    waits_then : (coming : Next Phase) → (next.views t).phase ≡ phase_after coming → StaysWaiting w.words p coming → GoesOnKept (KeptAt c lost w) coming →
        next.words ≡ w.words → Stepped
    waits_then (Next.Go q) here stays kept same = record {
      at_then = q;
      here = here;
      kept = still same silent q here (λ i. waits_out w.words i p waits) (λ i. waits_out w.words i q stays.0) q kept;
      others = λ u lu ne o is k. still same silent q here (λ i. waits_out w.words i p waits) (λ i. waits_out w.words i q stays.0) o k;
    }
    waits_then (Next.Wait q) here stays kept same = record {
      at_then = q;
      here = here;
      kept = still same silent q here (λ i. waits_out w.words i p waits) (λ i. waits_out w.words i q stays.0) q kept;
      others = λ u lu ne o is k. still same silent q here (λ i. waits_out w.words i p waits) (λ i. waits_out w.words i q stays.0) o k;
    }
    waits_then (Next.Done answer) here stays kept same = absurd kept

    wait_stepped : GoesOnKept (KeptAt c lost w) (after_of p (found_at w.words p hook) hook).0 → Stepped
    wait_stepped kept =
        let h = (phase_comes c p).stays lim w good t lt hook at (patient_waits w.words p hook patient waits) out in
        waits_then (after_of p (found_at w.words p hook) hook).0 (stands_after c w t lt hook p at) h.1 kept h.0

-- what has to wait plainly adds no action
plain_silent : (w : Words) (p : Phase) (hook : HookAnswer) → waits_plainly p ≡ true → must_wait w p ≡ true →
    (after_of p (found_at w p hook) hook).1 ≡ None
plain_silent w p hook plain waits = grind arith

module _ (c : Config) (lim : IsWithin c) (lost : ℕ → Bool) (w : World) (good : IsGood c w) (t : ℕ) (lt : t < c.tasks) (live : lost t ≡ false)
    (hook : HookAnswer) where
  write_kept : (y : WritePhase) → must_wait w.words (Phase.Writes y) ≡ true → KeptAt c lost w (Phase.Writes y)
  write_kept y h = grind (arith, start_wait)

  step_kept : (p : Phase) → (at : (w.views t).phase ≡ Some p) → PhaseFits c t (held_of (w.views t)) p → (hook_of p ≡ Some KeepWaiting → hook ≡ Ok tt) →
      KeptAt c lost w p → Stepped c lim lost w good t lt live p at hook
  step_kept (Phase.DownReads r) at f patient kept =
      let p : Phase = Phase.DownReads r in
      let found : ℕ = found_by (down_read_next r r.step).1 (read w.words (down_read_next r r.step).0) in
      let s = start_steps_to c lim lost w good t lt live p at hook r f kept Phase.DownReads refl (λ i. refl) (λ i x. refl) (λ x h. h) in
      start_by c lim lost w good t lt live p at hook r f kept Phase.DownReads refl (λ i. refl) (λ i x. refl) (λ x h. h)
      (λ n. map_next Phase.DownReads n) (λ x. refl) (λ x. refl) (down_read_after r r.step found).0 s.0 (stands_after c w t lt hook p at) s.1
  step_kept (Phase.Writes (WritePhase.Takes m r)) at f patient kept =
      let p : Phase = Phase.Writes (WritePhase.Takes m r) in
      let to : DownRead → Phase = λ x. Phase.Writes (WritePhase.Takes m x) in
      let found : ℕ = found_by (down_read_next r r.step).1 (read w.words (down_read_next r r.step).0) in
      let s = start_steps_to c lim lost w good t lt live p at hook r f.0 kept to refl (λ i. refl) (λ i x. refl) (λ x h. h) in
      start_by c lim lost w good t lt live p at hook r f.0 kept to refl (λ i. refl) (λ i x. refl) (λ x h. h)
      (λ n. map_next Phase.Writes (then_wants m r.cpu n)) (λ x. refl) (λ x. refl) (down_read_after r r.step found).0 s.0
      (stands_after c w t lt hook p at) s.1
  step_kept (Phase.Closes (ClosePhase.Enters f node r)) at fits patient kept =
      let p : Phase = Phase.Closes (ClosePhase.Enters f node r) in
      let to : DownRead → Phase = λ x. Phase.Closes (ClosePhase.Enters f node x) in
      let found : ℕ = found_by (down_read_next r r.step).1 (read w.words (down_read_next r r.step).0) in
      let s = start_steps_to c lim lost w good t lt live p at hook r fits.2 kept to refl (λ i. refl) (λ i x. refl) (λ x h. h) in
      start_by c lim lost w good t lt live p at hook r fits.2 kept to refl (λ i. refl) (λ i x. refl) (λ x h. h)
      (λ n. map_next Phase.Closes (then_frees f node r.cpu n)) (λ x. refl) (λ x. refl) (down_read_after r r.step found).0 s.0
      (stands_after c w t lt hook p at) s.1
  step_kept (Phase.Freezes x) at f patient kept =
      let g = freeze_goes c lim lost w good x x.step hook f.5 patient kept in
      wait_stepped c lim lost w good t lt live (Phase.Freezes x) at hook (freeze_waiting c lim lost w good x x.step f.5 kept) patient refl g.1
      (goes_as Phase.Freezes (KeptAt c lost w) (freeze_after x x.step (found_at w.words (Phase.Freezes x) hook) hook).0 g.0)
  step_kept (Phase.Callbacks b) at f patient kept =
      wait_stepped c lim lost w good t lt live (Phase.Callbacks b) at hook (callback_waiting c lim lost w good b.step kept) patient refl (callback_silent b b.step kept)
      (goes_as Phase.Callbacks (KeptAt c lost w) (callback_after b b.step (found_at w.words (Phase.Callbacks b) hook)).0
      (callback_goes c lim lost w good b b.step kept))
    where
      callback_silent : (b : Callback) (s : CallbackStep) → CallbackKept c lost w.words (held_in w) (sought_in w) s →
          (callback_after b s (found_by (callback_next b s).1 (read w.words (callback_next b s).0))).1 ≡ None
      callback_silent b (CallbackStep.AwaitsSections g) k = refl
      callback_silent b s k = absurd k
  step_kept (Phase.Mounts x) at f patient kept =
      wait_stepped c lim lost w good t lt live (Phase.Mounts x) at hook kept patient refl (plain_silent w.words (Phase.Mounts x) hook refl kept)
      (goes_waiting Phase.Mounts w.words (KeptAt c lost w) _ _ _ (mount_after x (found_at w.words (Phase.Mounts x) hook) hook).0 (λ y h. h)
      ((phase_comes c (Phase.Mounts x)).stays lim w good t lt hook at kept refl).1)
  step_kept (Phase.Remounts x) at f patient kept =
      wait_stepped c lim lost w good t lt live (Phase.Remounts x) at hook kept patient refl (plain_silent w.words (Phase.Remounts x) hook refl kept)
      (goes_waiting Phase.Remounts w.words (KeptAt c lost w) _ _ _ (remount_after x x.step (found_at w.words (Phase.Remounts x) hook) hook).0 (λ y h. h)
      ((phase_comes c (Phase.Remounts x)).stays lim w good t lt hook at kept refl).1)
  step_kept (Phase.Thaws x) at f patient kept =
      wait_stepped c lim lost w good t lt live (Phase.Thaws x) at hook kept patient refl (plain_silent w.words (Phase.Thaws x) hook refl kept)
      (goes_waiting Phase.Thaws w.words (KeptAt c lost w) _ _ _ (thaw_after x x.step (found_at w.words (Phase.Thaws x) hook) hook).0 (λ y h. h)
      ((phase_comes c (Phase.Thaws x)).stays lim w good t lt hook at kept refl).1)
  step_kept (Phase.Trees x) at f patient kept =
      wait_stepped c lim lost w good t lt live (Phase.Trees x) at hook kept patient refl (plain_silent w.words (Phase.Trees x) hook refl kept)
      (goes_waiting Phase.Trees w.words (KeptAt c lost w) _ _ _ (tree_after x (found_at w.words (Phase.Trees x) hook) hook).0 (λ y h. h)
      ((phase_comes c (Phase.Trees x)).stays lim w good t lt hook at kept refl).1)
  step_kept (Phase.Writes (WritePhase.Wants x)) at f patient kept =
      let p : Phase = Phase.Writes (WritePhase.Wants x) in
      wait_stepped c lim lost w good t lt live p at hook kept patient refl (plain_silent w.words p hook refl kept)
      (goes_waiting Phase.Writes w.words (KeptAt c lost w) _ _ _ (write_after (WritePhase.Wants x) (found_at w.words p hook)).0 write_kept
      ((phase_comes c p).stays lim w good t lt hook at kept refl).1)
  step_kept (Phase.UpReads u) at f patient kept = absurd (true≢false (sym kept))
  step_kept (Phase.Writes x) at f patient kept = absurd (true≢false (sym kept))
  step_kept (Phase.Closes x) at f patient kept = absurd (true≢false (sym kept))

module _ (c : Config) (lim : IsWithin c) (lost : ℕ → Bool) where
  same_phase : (a b : Phase) → Some a ≡ Some b → a ≡ b
  same_phase a b e = ap (λ (o : Option Phase). elim o [ None ↦ a | Some x ↦ x ]) e

  -- where all have to wait, all are kept
  seeks_none : (w : World) → AllWait c lost w → (i k : ℕ) → total c.tasks (seeks lost (sought_in w i) k) ≡ 0
  seeks_none w all i k = total_none c.tasks _ (λ y ly. elim (cases_Bool (lost y)) [ inl dead ↦ rw dead refl | inr live ↦ rw live (one y ly live (w.views y).phase refl) ])
    where
      one : (y : ℕ) → y < c.tasks → lost y ≡ false → (o : Option Phase) → (w.views y).phase ≡ o → sought_in w i k y ≡ 0
      one y ly live None is = ap (λ o. below k (processor_of (level_role_of i o))) is
      one y ly live (Some q) is =
          ap (λ o. below k (processor_of (level_role_of i o))) is ∙ ap (below k) (waits_out w.words i q (all y ly live q is))

  begins_kept : (w : World) → IsGood c w → AllWait c lost w → AllKept c lost w
  begins_kept w good all t lt live p at =
      by_phase p (fits_at c w good t lt p at) (all t lt live p at) (each_is_blocked c lost w good all t lt live p at)
    where
      closing : (d : DownWrite) (s : DownWriteStep) → 1 ≤ d.level → d.level ≤ 3 → d.processors ≡ c.processors → closing_waits w.words d s ≡ true →
          ClosingIsBlockedBy c lost w d s → ClosingKept c lost w.words (held_in w) (sought_in w) d s
      closing d (DownWriteStep.AwaitsSections g) one three processors waits by = (waits, by.1)
      closing d (DownWriteStep.Sums sum) one three processors waits by =
          let l : LevelHoldsIn c w d.level = good (AtLevel d.level) one three in
          let b = and_parts _ _ waits in
          let z : lead c.processors (w.words.level d.level) sum.words sum.total ≡ 0 → ⊥ = λ e.
          not_zero _ b.0 (ap (λ n. lead n (w.words.level d.level) sum.words sum.total) processors ∙ e) in
          let n : total c.processors (w.words.level d.level) % 18446744073709551616 ≡ 0 → ⊥ = λ e.
          not_zero _ b.1 (ap (λ n. total n (w.words.level d.level) % 18446744073709551616) processors ∙ e) in
          record {
            ahead = omega (arith, seeks_none w all d.level sum.words, nonzero _ z);
            stays = omega (arith, nonzero _ n, words_sum l.gate.counts, counted_parts c lim lost w good d.level, seeks_none w all d.level 0);
          }
      closing d s one three processors waits by = absurd by

      freeze : (x : Freeze) (s : FreezeStep) → FreezeFits c x.holder s → freeze_waits w.words s ≡ true → FreezeIsBlockedBy c lost w s →
          FreezeKept c lost w.words (held_in w) (sought_in w) s
      freeze x s fits waits by = grind (arith, closing)

      callback : (s : CallbackStep) → callback_waits w.words s ≡ true → CallbackIsBlockedBy c lost w s →
          CallbackKept c lost w.words (held_in w) (sought_in w) s
      callback (CallbackStep.AwaitsSections g) waits by = (waits, by.1)
      callback s waits by = absurd by

      by_phase : (p : Phase) → PhaseFits c t (held_of (w.views t)) p → must_wait w.words p ≡ true → IsBlockedBy c lost w p → KeptAt c lost w p
      by_phase p f waits by = grind (arith, start_wait, freeze, callback)

  -- one step of a task that is there
  abbrev Kept : World → World → Type 0
  Kept w next = AllKept c lost next × ((t : ℕ) → t < c.tasks → IsUnderWay w t → IsUnderWay next t)

  step_keeps : (w : World) → IsGood c w → AllKept c lost w → (t : ℕ) → t < c.tasks → lost t ≡ false → (hook : HookAnswer) →
      AnswersSo IsPatient w (Steps t hook) → (o : Option Phase) → (w.views t).phase ≡ o → Kept w (happens c w (Steps t hook))
  step_keeps w good all t lt live hook patient None at = subst (Kept w) (sym (idle_is c lim lost w t lt hook at)) (all, λ u lu on. on)
  step_keeps w good all t lt live hook patient (Some p) at =
      let s : Stepped c lim lost w good t lt live p at hook = step_kept c lim lost w good t lt live hook p at (fits_at c w good t lt p at) (patient p at) (all t lt live p at) in
      subst (Kept w) (sym (happens_is c w t lt hook p at)) (
        λ u lu lives o is. elim (eqb_tells u t) [
          | inl e ↦
              let same : s.at_then ≡ o =
              same_phase s.at_then o (sym s.here ∙ (sym (ap (λ y. ((after_step w t p hook).views y).phase) e.1) ∙ is)) in
              subst (KeptAt c lost (after_step w t p hook)) same s.kept
          | inr ne ↦
              let was : (w.views u).phase ≡ Some o =
              sym (ap (λ (v : View). v.phase) (beside c lim lost w good t lt live p at hook u ne.1)) ∙ is in
              s.others u lu ne.1 o was (all u lu lives o was)
        ],
        λ u lu on. elim (eqb_tells u t) [
          | inl e ↦ subst (IsUnderWay (after_step w t p hook)) (sym e.1) (s.at_then, s.here)
          | inr ne ↦ (on.0, ap (λ (v : View). v.phase) (beside c lim lost w good t lt live p at hook u ne.1) ∙ on.1)
        ],
      )

  run_keeps : (es : List Entry) (w : World) → IsGood c w → AllKept c lost w → AreLiveSteps lost es → AllAnswerSo IsPatient c w es → Kept w (run c w es)
  run_keeps [] w good all steps patient = (all, λ t lt on. on)
  run_keeps (Begins t op ∷ es) w good all steps patient = absurd steps
  run_keeps (Steps t hook ∷ es) w good all steps patient =
      let first : Kept w (happens c w (Steps t hook)) = elim (cases_lt t c.tasks) [
        | inl l ↦ step_keeps w good all t l steps.0 hook patient.0 (w.views t).phase refl
        | inr ge ↦ subst (Kept w) (sym (absent_is c lim lost w t ge hook)) (all, λ u lu on. on)
      ] in
      let rest : Kept (happens c w (Steps t hook)) (run c (happens c w (Steps t hook)) es) =
      run_keeps es (happens c w (Steps t hook)) (after_good c lim lost w good (Steps t hook)) first.0 steps.1 patient.1 in
      (rest.0, λ u lu on. rest.1 u lu (first.1 u lu on))

pub nobody_replies : (c : Config) → IsWithin c → (lost : ℕ → Bool) (w : World) → IsGood c w → NobodyReplies c lost w
nobody_replies c lim lost w good all es steps patient = (run_keeps c lim lost es w good (begins_kept c lim lost w good all) steps patient).1
