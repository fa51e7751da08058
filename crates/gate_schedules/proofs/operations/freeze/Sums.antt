-- What the trace of an operation says while it closes a level: which steps are added to it, and why it waits.
use Rattle.gate_schedules.proofs.Prelude.{Action, Config, DownWrite, DownWriteStep, HookAnswer, IsWithin, List, Next, None, Option, Some, Sum}
use Rattle.gate_schedules.proofs.Prelude.{SyncWord, Traced, TransitionNext, add-one, ap, arith, cases_Bool, down_write_after, down_write_next}
use Rattle.gate_schedules.proofs.Prelude.{eqb_tells, event_of, found_by, inl, inr, ltb-false, ltb-true, nat_lt, on_callback, on_enter, refl, subst}
use Rattle.gate_schedules.proofs.Prelude.{suc, transition_after, true, unpack, with_hook, wrap_add, ℕ, ◌+◌, ◌<◌, ◌∙◌, ◌∷◌, ◌≡◌, ◌⊎◌}
use Rattle.gate_world.specs.traces.Found.{FoundInside, IsLevelSum, cleans, finds_readers, found_complete, found_sealed, level_opened, newest}
use Rattle.gate_world.specs.traces.Found.{stored_stage, sum_of_newest}
use Rattle.percpu_rwsem.specs.{Writers.{callback_step, enter_step, passed_awaited, sum_begun}, declared.grace.Grace.Grace}

-- the closing of this level, among the tasks and processors of a configuration, at a step
abbrev pub closing_at : Config → ℕ → DownWriteStep → DownWrite
closing_at c i s = record { level = i; tasks = c.tasks; processors = c.processors; step = s }

-- the sum of a program point under way is what the newest steps found
abbrev pub ClosingSays : Config → ℕ → DownWriteStep → List Traced → Type 0
ClosingSays c i (DownWriteStep.Sums sum) trace =
    (sum.words < c.processors) × IsLevelSum i sum.words trace × (sum.total ≡ sum_of_newest sum.words trace)
ClosingSays c i s trace = Unit {0}

-- a step of the closing comes, and the trace says what it is to say there
abbrev pub ClosingGoes : Config → ℕ → List Traced → DownWrite → Type 0
ClosingGoes c i trace d = (s : DownWriteStep) × (d ≡ closing_at c i s) × ClosingSays c i s trace

-- the newest step found readers or another writer, or the newest steps a sum other than 0
abbrev pub FoundOthers : Config → List Traced → Type 0
FoundOthers c trace = (newest finds_readers trace ≡ true) ⊎ FoundInside c.processors trace

-- What the trace says by what comes after a step of the closing of a level, which added this: only the last step adds an action, the
-- pass of the level.
abbrev pub ClosingNext : Config → ℕ → List Traced → Next DownWrite → Option Action → Type 0
ClosingNext c i trace (Next.Go d) action = ClosingGoes c i trace d × (action ≡ None)
ClosingNext c i trace (Next.Wait d) action = ClosingGoes c i trace d × (action ≡ None) × FoundOthers c trace
ClosingNext c i trace (Next.Done answer) action = action ≡ Some (Action.Pass i)

-- the trace has found the superblock's flag, stored stage 3 and cleared marks as an earlier one had
abbrev pub FoundAsBefore : List Traced → List Traced → Type 0
FoundAsBefore trace earlier =
    (found_sealed trace ≡ found_sealed earlier) × (stored_stage 3 trace ≡ stored_stage 3 earlier) × (cleans trace ≡ cleans earlier) ×
    (found_complete trace ≡ found_complete earlier) × (level_opened trace ≡ level_opened earlier)

module _ (c : Config) (lim : IsWithin c) (i value : ℕ) (hook : HookAnswer) (earlier : List Traced) where
  -- the trace after the step at a program point
  abbrev pub closing_trace : DownWriteStep → List Traced
  closing_trace s =
      with_hook (event_of (down_write_next (closing_at c i s) s).0 (down_write_next (closing_at c i s) s).1 value) hook ∷ earlier

  -- what the step at a program point found
  abbrev pub closing_found : DownWriteStep → ℕ
  closing_found s = found_by (down_write_next (closing_at c i s) s).1 value

  pub closing_leaves : (s : DownWriteStep) → FoundAsBefore (closing_trace s) earlier
  closing_leaves s = grind arith

  -- what the trace says after the step at a program point
  abbrev AfterClosing : DownWriteStep → Type 0
  AfterClosing s =
      ClosingNext c i (closing_trace s) (down_write_after (closing_at c i s) s (closing_found s)).0
      (down_write_after (closing_at c i s) s (closing_found s)).1

  enter_goes : (trace : List Traced) (n : TransitionNext) → ClosingGoes c i trace (closing_at c i (enter_step c.tasks n))
  enter_goes trace n = grind arith

  callback_goes : (trace : List Traced) (n : TransitionNext) → ClosingGoes c i trace (closing_at c i (callback_step n))
  callback_goes trace n = grind arith

  -- a task is passed, or it is still inside its section
  looks_at_section : (g : Grace) → AfterClosing (DownWriteStep.AwaitsSections g)
  looks_at_section g = grind arith

  -- the sync word was found past GP_ENTER, or a writer in its grace period
  looks_at_sync : (o : Option SyncWord) → unpack value ≡ o →
      ClosingNext c i (closing_trace DownWriteStep.AwaitsPassed) (passed_awaited (closing_at c i DownWriteStep.AwaitsPassed) o) None
  looks_at_sync o e = grind arith

  sum_begins : (trace : List Traced) → ClosingGoes c i trace (closing_at c i sum_begun)
  sum_begins trace = (sum_begun, refl, (lim.some_processor, tt, refl))

  sets_block : AfterClosing DownWriteStep.SetsBlock
  sets_block = grind arith

  sums_on : (sum : Sum) → ClosingSays c i (DownWriteStep.Sums sum) earlier → AfterClosing (DownWriteStep.Sums sum)
  sums_on sum h =
      let trace : List Traced = closing_trace (DownWriteStep.Sums sum) in
      let more : IsLevelSum i (suc sum.words) trace = (refl, refl, h.1) in
      let now : wrap_add sum.total value ≡ sum_of_newest (suc sum.words) trace = ap (λ s. wrap_add s value) h.2 in
      elim (cases_Bool (nat_lt (sum.words + 1) c.processors)) [
        | inl f ↦
            rw f (
              (
                DownWriteStep.Sums record { words = sum.words + 1; total = wrap_add sum.total value },
                refl,
                (ltb-true (sum.words + 1) c.processors f, rw (add-one sum.words) more, rw (add-one sum.words) now),
              ),
              refl,
            )
        | inr f ↦
            let last : suc sum.words ≡ c.processors = omega (arith, ltb-false (sum.words + 1) c.processors f, h.0) in
            elim (eqb_tells (wrap_add sum.total value) 0) [
              | inl z ↦ rw (f, z.0) refl
              | inr z ↦ rw (f, z.0) (
                sum_begins trace,
                refl,
                inr (i, subst (λ n. IsLevelSum i n trace) last more, λ q. z.1 (now ∙ ap (λ n. sum_of_newest n trace) last ∙ q)),
              )
            ]
      ]

  pub closing_event : (s : DownWriteStep) → ClosingSays c i s earlier → AfterClosing s
  closing_event (DownWriteStep.Enters transition) h = (
    enter_goes (closing_trace (DownWriteStep.Enters transition))
        (transition_after on_enter transition (closing_found (DownWriteStep.Enters transition))),
    refl,
  )
  closing_event (DownWriteStep.AwaitsSections grace) h = looks_at_section grace
  closing_event (DownWriteStep.CallsBack transition) h =
      let found : ℕ = closing_found (DownWriteStep.CallsBack transition) in
      (callback_goes (closing_trace (DownWriteStep.CallsBack transition)) (transition_after on_callback transition found), refl)
  closing_event DownWriteStep.AwaitsPassed h = looks_at_sync (unpack value) refl
  closing_event DownWriteStep.SetsBlock h = sets_block
  closing_event (DownWriteStep.Sums sum) h = sums_on sum h
