-- A freeze alone: a number of its own falls with each step that it need not wait for.
use Rattle.progress_laws.proofs.Prelude.{Config, DownWrite, DownWriteStep, Err, Freeze, FreezeFits, FreezeStep, Grace, GraceNext, HookAnswer, Next}
use Rattle.progress_laws.proofs.Prelude.{Ok, Option, Sum, Transition, TransitionNext, UpWrite, UpWriteStep, Words, after_closing, ap, arith}
use Rattle.progress_laws.proofs.Prelude.{at_freeze, cases_Bool, closing_left, closing_tries, down_write_after, eqb_tells, exchange_rank, freeze_after}
use Rattle.progress_laws.proofs.Prelude.{freeze_left, freeze_tries, if◌then◌else◌, inl, inr, level_closed, opening_left, opening_tries, refl}
use Rattle.progress_laws.proofs.Prelude.{sections_awaited, transition_after, ℕ, ◌*◌, ◌+◌, ◌-◌, ◌<◌, ◌==◌, ◌≡◌, ◌≤◌}
use Rattle.{access_model.specs.{Holders.held_by, declared.actions.Action.Action}, cpu_words.specs.declared.sums.Taken.Taken}
use Rattle.freeze_laws.proofs.stages.Facts.{at_level}
use Rattle.freeze_levels.specs.{Freezes.{after_clearing, after_reopening, after_undoing, freeze_fails, freeze_undone}, Holders.holders_in}
use Rattle.gate_schedules.proofs.operations.{deadlocks.BlockedCloses.{StaysAtLevel, down_stays}, freeze.Closes.by_wait}
use Rattle.node_words.specs.{Phases.clear_after, declared.marks.ClearMarks.ClearMarks}
use Rattle.percpu_rwsem.specs.{SyncWords.on_exit, Writers.{at_down_write, callback_step, down_write_summed, enter_step, exit_made, passed_awaited}}
use Rattle.percpu_rwsem.specs.{Writers.up_write_after, declared.sync_word.{GpState.GpState, SyncWord.SyncWord}}
use Rattle.progress_laws.{proofs.{alone.WaitKinds.NextIs, nearer.AllNearer.exchange_few}, specs.StepsLeft.closed_left}

-- the loads of a sum, which may begin again once
abbrev sum_tries : ℕ → ℕ
sum_tries processors = 2 * processors + 1

-- The tries that may come after those of a step: each level that is to be closed has two exchanges, of two tries each, and a sum, and each one that
-- is to be opened an exchange; and one more for each step that these begin with.
abbrev closing_ahead : ℕ → DownWriteStep → ℕ
closing_ahead processors (DownWriteStep.Enters x) = sum_tries processors + 3
closing_ahead processors (DownWriteStep.AwaitsSections g) = sum_tries processors + 2
closing_ahead processors (DownWriteStep.CallsBack x) = sum_tries processors + 1
closing_ahead processors (DownWriteStep.Sums sum) = 1
closing_ahead processors step = sum_tries processors

abbrev opening_ahead : ℕ → UpWriteStep → ℕ
opening_ahead level UpWriteStep.ClearsBlock = 3 * level
opening_ahead level (UpWriteStep.Exits x) = 3 * (level - 1) + 1

-- once this level is closed
abbrev closed_ahead : ℕ → ℕ → ℕ
closed_ahead processors level =
    if level == 1 then 2 * sum_tries processors + 17 else
    if level == 2 then sum_tries processors + 13 else
    9

abbrev pub freeze_ahead : ℕ → FreezeStep → ℕ
freeze_ahead processors FreezeStep.LoadsHolders = 0
freeze_ahead processors (FreezeStep.Holds beside) = 0
freeze_ahead processors FreezeStep.CompletesReadOnly = 0
freeze_ahead processors (FreezeStep.Closes d) = closing_ahead processors d.step + closed_ahead processors d.level
freeze_ahead processors (FreezeStep.Waits d) = closing_ahead processors d.step + closed_ahead processors d.level
freeze_ahead processors (FreezeStep.Undoes level transition code) = 3 * (level - 1) + 1
freeze_ahead processors (FreezeStep.LocksToUndo code) = 0
freeze_ahead processors (FreezeStep.GivesUp level code) = 3 * (level - 1)
freeze_ahead processors FreezeStep.LocksAgain = closed_ahead processors 1
freeze_ahead processors FreezeStep.SetsPageFault = closed_ahead processors 1
freeze_ahead processors (FreezeStep.Cleans marks) = closed_ahead processors 2
freeze_ahead processors FreezeStep.SetsFs = closed_ahead processors 2
freeze_ahead processors FreezeStep.SetsComplete = closed_ahead processors 3
freeze_ahead processors (FreezeStep.Reopens u code) = opening_ahead u.level u.step
freeze_ahead processors (FreezeStep.Releases answer) = 0
freeze_ahead processors step = 3 * sum_tries processors + 21

-- the most tries of a step
abbrev closing_room : ℕ → DownWriteStep → ℕ
closing_room processors (DownWriteStep.Enters x) = 2
closing_room processors (DownWriteStep.CallsBack x) = 2
closing_room processors (DownWriteStep.Sums sum) = sum_tries processors
closing_room processors step = 1

abbrev opening_room : UpWriteStep → ℕ
opening_room UpWriteStep.ClearsBlock = 1
opening_room (UpWriteStep.Exits x) = 2

abbrev pub freeze_room : ℕ → FreezeStep → ℕ
freeze_room processors (FreezeStep.Closes d) = closing_room processors d.step
freeze_room processors (FreezeStep.Waits d) = closing_room processors d.step
freeze_room processors (FreezeStep.Undoes level transition code) = 2
freeze_room processors (FreezeStep.Reopens u code) = opening_room u.step
freeze_room processors step = 1

pub tries_in_room : (c : Config) (w : Words) (x : Freeze) (s : FreezeStep) → FreezeFits c x.holder s → freeze_tries w s ≤ freeze_room c.processors s
tries_in_room c w x s f = grind (arith, exchange_few)

closing_small : (p : ℕ) (s : DownWriteStep) → closing_ahead p s + closing_room p s ≤ sum_tries p + 5
closing_small p s = grind arith

closed_small : (p level : ℕ) → closed_ahead p level ≤ 2 * sum_tries p + 17
closed_small p level =
    elim (cases_Bool (level == 1)) [
      | inl h ↦ rw h (omega arith)
      | inr h ↦ elim (cases_Bool (level == 2)) [ inl q ↦ rw (h, q) (omega arith) | inr q ↦ rw (h, q) (omega arith) ]
    ]

opening_small : (level : ℕ) (s : UpWriteStep) → level ≤ 3 → opening_ahead level s + opening_room s ≤ 12
opening_small level UpWriteStep.ClearsBlock three = omega (arith, three)
opening_small level (UpWriteStep.Exits x) three = omega (arith, three)

pub ahead_small : (c : Config) (p : ℕ) (x : Freeze) (s : FreezeStep) → FreezeFits c x.holder s → freeze_ahead p s + freeze_room p s ≤ 6 * p + 25
ahead_small c p x s f = grind (arith, closing_small, closed_small, opening_small)

-- Of what comes next: the tries ahead don't rise, and if fewer steps are left, they and those of its own come out of those that there were.
abbrev Ahead : {P : Type 0} (left ahead room : P → ℕ) (a b tries : ℕ) → P → Type 0
Ahead left ahead room a b tries y = (ahead y ≤ b) × (left y < a → ahead y + room y ≤ b + tries)

abbrev ComesAhead : ℕ → (a b tries : ℕ) → Next Freeze → Type 0
ComesAhead p a b tries next =
    NextIs (Ahead (λ (y : Freeze). freeze_left y y.step) (λ (y : Freeze). freeze_ahead p y.step) (λ (y : Freeze). freeze_room p y.step) a b tries) next

-- the same of the closing of a level
abbrev ClosingAhead : ℕ → Words → DownWrite → DownWriteStep → DownWrite → Type 0
ClosingAhead p w d s y =
    Ahead (λ (z : DownWrite). closing_left z.tasks z.step) (λ (z : DownWrite). closing_ahead p z.step) (λ (z : DownWrite). closing_room p z.step)
    (closing_left d.tasks s) (closing_ahead p s) (closing_tries w d s) y

abbrev LevelAhead : ℕ → Words → DownWrite → DownWriteStep → Next DownWrite → Type 0
LevelAhead p w d s (Next.Go y) = ClosingAhead p w d s y
LevelAhead p w d s (Next.Wait y) = ClosingAhead p w d s y
LevelAhead p w d s (Next.Done answer) = 1 ≤ closing_ahead p s

module _ (p : ℕ) (w : Words) where
  module _ (d : DownWrite) where
    entered_ahead : (x : Transition) (s : GpState) → LevelAhead p w d (DownWriteStep.Enters x) (Next.Go (at_down_write d (enter_step d.tasks (TransitionNext.Made s))))
    entered_ahead x s = grind arith

    enters_ahead : (x : Transition) (next : TransitionNext) → LevelAhead p w d (DownWriteStep.Enters x) (Next.Go (at_down_write d (enter_step d.tasks next)))
    enters_ahead x next = grind (arith, entered_ahead)

    calls_ahead : (x : Transition) (next : TransitionNext) → LevelAhead p w d (DownWriteStep.CallsBack x) (Next.Go (at_down_write d (callback_step next)))
    calls_ahead x next = grind arith

    looks_ahead : (g : Grace) (next : GraceNext) → LevelAhead p w d (DownWriteStep.AwaitsSections g) (sections_awaited d next)
    looks_ahead g next = grind arith

    passed_ahead : (word : Option SyncWord) → LevelAhead p w d DownWriteStep.AwaitsPassed (passed_awaited d word)
    passed_ahead word = grind arith

    sums_ahead : (sum : Sum) (taken : Taken) → LevelAhead p w d (DownWriteStep.Sums sum) (down_write_summed d taken).0
    sums_ahead sum taken = grind arith

    closing_falls : (s : DownWriteStep) (found : ℕ) → LevelAhead p w d s (down_write_after d s found).0
    closing_falls s found = grind (arith, enters_ahead, looks_ahead, calls_ahead, passed_ahead, sums_ahead)

  closed_next : (level nodes : ℕ) → (freeze_ahead p (level_closed level nodes) ≡ closed_ahead p level) × (freeze_room p (level_closed level nodes) ≡ 1)
  closed_next level nodes =
      elim (cases_Bool (level == 1)) [
        | inl h ↦ rw h (refl, refl)
        | inr h ↦ elim (cases_Bool (level == 2)) [ inl q ↦ rw (h, q) (refl, refl) | inr q ↦ rw (h, q) (refl, refl) ]
      ]

  module _ (x : Freeze) where
    closes_on : (d y : DownWrite) → y.level ≡ d.level → ClosingAhead p w d d.step y →
        ComesAhead p (freeze_left x (FreezeStep.Closes d)) (freeze_ahead p (FreezeStep.Closes d)) (freeze_tries w (FreezeStep.Closes d))
        (Next.Go (at_freeze x (FreezeStep.Closes y)))
    closes_on d y level h =
        (omega (arith, h.0, ap (closed_ahead p) level), λ lt. omega (arith, h.1 (omega (arith, lt, ap (closed_left x) level)), ap (closed_ahead p) level))

    closes_ahead : (d : DownWrite) (next : Next DownWrite) (action : Option Action) → StaysAtLevel d next action → LevelAhead p w d d.step next →
        ComesAhead p (freeze_left x (FreezeStep.Closes d)) (freeze_ahead p (FreezeStep.Closes d)) (freeze_tries w (FreezeStep.Closes d))
        (after_closing x d.level next)
    closes_ahead d next action level h = grind (arith, closes_on, by_wait, closed_next)

    fails_next : (level code : ℕ) → (freeze_ahead p (freeze_fails level code) ≤ 3 * level) × (freeze_room p (freeze_fails level code) ≡ 1)
    fails_next level code = elim (eqb_tells level 0) [ inl h ↦ rw h.0 (omega arith, refl) | inr h ↦ rw h.0 (omega arith, refl) ]

    exits_ahead : (u : UpWrite) (code : ℕ) (t : Transition) (next : TransitionNext) →
        ComesAhead p (opening_left u.level (UpWriteStep.Exits t)) (opening_ahead u.level (UpWriteStep.Exits t)) (opening_tries w u (UpWriteStep.Exits t))
        (after_reopening x u.level code (exit_made u next))
    exits_ahead u code t next = grind (arith, fails_next)

    -- a level that is given up: a sum has a try left, at which it is
    gives_up_ahead : (level : ℕ) → 1 ≤ level → level ≤ 3 → 3 * (level - 1) + 3 ≤ closed_ahead p level
    gives_up_ahead level one three = at_level (λ i. 3 * (i - 1) + 3 ≤ closed_ahead p i) (omega arith, omega arith, omega arith) level one three

    undone_next : (level code : ℕ) → (freeze_ahead p (freeze_undone level code) ≤ 3 * (level - 1)) × (freeze_room p (freeze_undone level code) ≡ 1)
    undone_next level code = elim (eqb_tells level 1) [ inl h ↦ rw h.0 (omega arith, refl) | inr h ↦ rw h.0 (omega arith, refl) ]

    undoes_ahead : (level code : ℕ) (t : Transition) (next : TransitionNext) →
        ComesAhead p (2 * level + 2) (3 * (level - 1) + 1) (exchange_rank (w.sync level) t) (after_undoing x level code next)
    undoes_ahead level code t next = grind (arith, undone_next)

    opens_ahead : (u : UpWrite) (code : ℕ) (s : UpWriteStep) (found : ℕ) → 1 ≤ u.level →
        ComesAhead p (opening_left u.level s) (opening_ahead u.level s) (opening_tries w u s) (after_reopening x u.level code (up_write_after u s found).0)
    opens_ahead u code UpWriteStep.ClearsBlock found one = (omega (arith, one), λ lt. omega (arith, one))
    opens_ahead u code (UpWriteStep.Exits t) found one = exits_ahead u code t (transition_after on_exit t found)

    clears_ahead : (marks : ClearMarks) (next : Next ClearMarks) →
        ComesAhead p (freeze_left x (FreezeStep.Cleans marks)) (closed_ahead p 2) 1 (after_clearing x next)
    clears_ahead marks next = grind arith

    pub ahead_falls : (c : Config) (s : FreezeStep) (found : ℕ) (hook : HookAnswer) → FreezeFits c x.holder s →
        NextIs (λ (y : Freeze). (freeze_ahead p y.step ≤ freeze_ahead p s) × (freeze_left y y.step < freeze_left x s →
        freeze_ahead p y.step + freeze_room p y.step ≤ freeze_ahead p s + freeze_tries w s)) (freeze_after x s found hook).0
    ahead_falls c FreezeStep.Locks found hook f =
        elim (eqb_tells found 0) [ inl h ↦ rw h.0 (omega arith, λ lt. omega arith) | inr h ↦ rw h.0 (omega arith, λ lt. omega arith) ]
    ahead_falls c FreezeStep.LoadsStage found hook f =
        elim (eqb_tells found 0) [
          | inl h ↦ rw h.0 (omega arith, λ lt. omega arith)
          | inr h ↦ elim (eqb_tells found 4) [
            | inl q ↦ rw (h.0, q.0) (omega arith, λ lt. omega arith)
            | inr q ↦ rw (h.0, q.0) (omega arith, λ lt. omega arith)
          ]
        ]
    ahead_falls c FreezeStep.LoadsHolders found hook f =
        elim (cases_Bool (held_by (holders_in found) x.holder)) [
          | inl h ↦ rw h (omega arith, λ lt. omega arith)
          | inr h ↦ rw h (omega arith, λ lt. omega arith)
        ]
    ahead_falls c FreezeStep.LoadsSuperblock found hook f =
        elim (eqb_tells found 0) [ inl h ↦ rw h.0 (omega arith, λ lt. omega arith) | inr h ↦ rw h.0 (omega arith, λ lt. omega arith) ]
    ahead_falls c (FreezeStep.Closes d) found hook f =
        closes_ahead d (down_write_after d d.step found).0 (down_write_after d d.step found).1 (down_stays d d.step found) (closing_falls d d.step found)
    ahead_falls c (FreezeStep.Waits d) found (Ok answer) f =
        closes_ahead d (down_write_after d d.step found).0 (down_write_after d d.step found).1 (down_stays d d.step found) (closing_falls d d.step found)
    ahead_falls c (FreezeStep.Waits d) found (Err code) f =
        let h = gives_up_ahead d.level f.0.0 f.0.1 in (omega (arith, h), λ lt. omega (arith, h))
    ahead_falls c (FreezeStep.Undoes level transition code) found hook f = undoes_ahead level code transition (transition_after on_exit transition found)
    ahead_falls c (FreezeStep.LocksToUndo code) found hook f =
        elim (eqb_tells found 0) [ inl h ↦ rw h.0 (omega arith, λ lt. omega arith) | inr h ↦ rw h.0 (omega arith, λ lt. omega arith) ]
    ahead_falls c (FreezeStep.GivesUp level code) found hook f =
        let n = fails_next (level - 1) code in (omega (arith, n.0), λ lt. omega (arith, n.0, n.1))
    ahead_falls c FreezeStep.LocksAgain found hook f =
        elim (eqb_tells found 0) [ inl h ↦ rw h.0 (omega arith, λ lt. omega arith) | inr h ↦ rw h.0 (omega arith, λ lt. omega arith) ]
    ahead_falls c (FreezeStep.Cleans marks) found hook f = clears_ahead marks (clear_after marks found).0
    ahead_falls c FreezeStep.SetsFs found (Ok answer) f = (omega arith, λ lt. omega arith)
    ahead_falls c FreezeStep.SetsFs found (Err code) f = (omega arith, λ lt. omega arith)
    ahead_falls c FreezeStep.SetsComplete found (Ok answer) f = (omega arith, λ lt. omega arith)
    ahead_falls c FreezeStep.SetsComplete found (Err code) f = (omega arith, λ lt. omega arith)
    ahead_falls c (FreezeStep.Reopens u code) found hook f = opens_ahead u code u.step found f.0
    ahead_falls c (FreezeStep.Releases answer) found hook f = tt
    ahead_falls c s found hook f = (omega arith, λ lt. omega arith)
