-- Traces of a change of a mount's read-only flag.
use Rattle.gate_schedules.proofs.Prelude.{Action, Bool, ChangeStep, Config, Err, GateError, HookAnswer, IsWithin, List, MountPhase, Op, Phase, Reply}
use Rattle.gate_schedules.proofs.Prelude.{Result, Sum, Traced, [], add-one, arith, cases_Bool, eq-eqb, eqb_tells, false, inl, inr, length, ltb-false}
use Rattle.gate_schedules.proofs.Prelude.{ltb-true, nat_lt, refl, subst, suc, sym, true, with_hook, wrap_add, ℕ, ◌+◌, ◌<◌, ◌∙◌, ◌∷◌, ◌≡◌, ◌≤◌}
use Rattle.gate_world.specs.traces.{Found.{IsEachCount, counts_loaded, each_event, finds_taken, found_read_only, sum_loaded}, Traces.IsHonestAnswer}
use Rattle.gate_world.specs.traces.Traces.{IsShort, actions_of, most_events}
use Rattle.gate_schedules.proofs.{operations.remount.Trace.sum_more, traces.TraceInvariant.{InvariantAfterStep, IsInductive, event_at}}

abbrev pub change : Config → ℕ → ℕ → Bool → Bool → ChangeStep → Phase
change c t m ro wait step = Phase.Mounts (MountPhase.Change (record {
  mount = m;
  read_only = ro;
  wait = wait;
  task = t;
  processors = c.processors;
  step =
      step;
}))

-- how many steps a change that waits for nobody has done before a program point, at most
abbrev events_before : Config → ChangeStep → ℕ
events_before c ChangeStep.Locks = 0
events_before c ChangeStep.LoadsFlags = 1
events_before c ChangeStep.LoadsSuperblock = 2
events_before c ChangeStep.ClearsReadOnly = 3
events_before c ChangeStep.SetsHold = 3
events_before c (ChangeStep.Sums sum) = 4 + sum.words
events_before c ChangeStep.SetsReadOnly = c.processors + 4
events_before c (ChangeStep.ClearsHold answer) = c.processors + 5
events_before c (ChangeStep.Releases answer) = c.processors + 6

-- nothing is found yet, nor added
abbrev FoundNothing : ℕ → List Traced → List Action → Type 0
FoundNothing m trace added = (added ≡ []) × (found_read_only m trace ≡ false) × (counts_loaded m trace ≡ [])

-- what is answered is told already
abbrev Answers : Config → ℕ → Bool → Bool → Result Reply GateError → List Traced → List Action → Type 0
Answers c m ro wait answer trace added = (added ≡ actions_of (Op.ChangeMount m ro wait) answer trace) ×
    IsHonestAnswer c (Op.ChangeMount m ro wait) answer trace

-- the counts loaded are those that the sum has
abbrev IsSumOf : Config → ℕ → Sum → List Traced → Type 0
IsSumOf c m sum trace = (sum.words < c.processors) × IsEachCount sum.words (counts_loaded m trace) ×
    (sum.total ≡ sum_loaded (counts_loaded m trace))

-- what a trace says at a step: what was found, loaded and added
abbrev StepSays : Config → ℕ → Bool → Bool → ChangeStep → List Traced → List Action → Type 0
StepSays c m ro wait ChangeStep.Locks trace added = (each_event finds_taken trace ≡ true) × FoundNothing m trace added
StepSays c m ro wait ChangeStep.LoadsFlags trace added = FoundNothing m trace added
StepSays c m ro wait ChangeStep.LoadsSuperblock trace added = FoundNothing m trace added
StepSays c m ro wait ChangeStep.ClearsReadOnly trace added = (added ≡ []) × (ro ≡ false) × (found_read_only m trace ≡ true)
StepSays c m ro wait ChangeStep.SetsHold trace added = (ro ≡ true) × FoundNothing m trace added
StepSays c m ro wait (ChangeStep.Sums sum) trace added = (added ≡ []) × (ro ≡ true) × (found_read_only m trace ≡ false) × IsSumOf c m sum trace
StepSays c m ro wait ChangeStep.SetsReadOnly trace added = (added ≡ []) × (ro ≡ true) × (found_read_only m trace ≡ false)
StepSays c m ro wait (ChangeStep.ClearsHold answer) trace added = Answers c m ro wait answer trace added
StepSays c m ro wait (ChangeStep.Releases answer) trace added = Answers c m ro wait answer trace added

-- the same, and how long the trace is where the change waits for nobody
abbrev ChangeSays : Config → ℕ → Bool → Bool → ChangeStep → List Traced → List Action → Type 0
ChangeSays c m ro wait step trace added = (wait ≡ false → length trace ≤ events_before c step) × StepSays c m ro wait step trace added

-- what a change's trace says at a phase
abbrev pub ChangeAt : Config → ℕ → ℕ → Bool → Bool → List Traced → Phase → List Action → Type 0
ChangeAt c t m ro wait trace phase added = (step : ChangeStep) × (phase ≡ change c t m ro wait step) ×
    ChangeSays c m ro wait step trace added

change_short : (c : Config) (m : ℕ) (ro wait : Bool) (trace : List Traced) → (wait ≡ false → length trace ≤ c.processors + 7) →
    IsShort (most_events c (Op.ChangeMount m ro wait)) trace
change_short c m ro true trace h = tt
change_short c m ro false trace h = h refl

-- a program point comes after that many steps at most
within_most : (c : Config) (m : ℕ) (ro wait : Bool) (step : ChangeStep) (trace : List Traced) (added : List Action) →
    StepSays c m ro wait step trace added →
    length trace ≤ events_before c step → length trace ≤ c.processors + 7
within_most c m ro wait step trace added h k = grind arith

module _ (c : Config) (lim : IsWithin c) (t m : ℕ) (ro : Bool) (value : ℕ) (hook : HookAnswer) (earlier : List Traced)
    (added : List Action) where
  -- the trace after the step at a program point
  abbrev longer : Bool → ChangeStep → List Traced
  longer wait step = with_hook (event_at (change c t m ro wait step) value hook) hook ∷ earlier

  -- what the trace says after the step at a program point
  abbrev TraceAfterStep : Bool → ChangeStep → Type 0
  TraceAfterStep wait step = InvariantAfterStep (ChangeAt c t m ro wait) c (Op.ChangeMount m ro wait) (change c t m ro wait step) value hook earlier added

  -- a step that clears HOLD leaves what is told
  hold_leaves : (wait : Bool) (answer : Result Reply GateError) → Answers c m ro wait answer earlier added →
      Answers c m ro wait answer (longer wait (ChangeStep.ClearsHold answer)) added
  hold_leaves wait answer h = grind arith

  -- so does one that gives `umount` back
  lock_leaves : (wait : Bool) (answer : Result Reply GateError) → Answers c m ro wait answer earlier added →
      Answers c m ro wait answer (longer wait (ChangeStep.Releases answer)) added
  lock_leaves wait answer h = grind arith

  locks : (wait : Bool) → ChangeSays c m ro wait ChangeStep.Locks earlier added → TraceAfterStep wait ChangeStep.Locks
  locks wait h = grind arith

  loads_flags : (wait : Bool) → ChangeSays c m ro wait ChangeStep.LoadsFlags earlier added → TraceAfterStep wait ChangeStep.LoadsFlags
  loads_flags wait h = grind arith

  loads_superblock : (wait : Bool) → ChangeSays c m ro wait ChangeStep.LoadsSuperblock earlier added → TraceAfterStep wait ChangeStep.LoadsSuperblock
  loads_superblock wait h = grind arith

  -- a change to writable, of a mount that was found read-only, is done
  clears_read_only : (wait : Bool) → ChangeSays c m ro wait ChangeStep.ClearsReadOnly earlier added → TraceAfterStep wait ChangeStep.ClearsReadOnly
  clears_read_only wait h = grind arith

  -- the sum begins with no count loaded
  sets_hold : (wait : Bool) → ChangeSays c m ro wait ChangeStep.SetsHold earlier added → TraceAfterStep wait ChangeStep.SetsHold
  sets_hold wait h = grind arith

  -- one count more is loaded
  count_loaded : (wait : Bool) (sum : Sum) → IsSumOf c m sum earlier →
      IsEachCount (suc sum.words) (counts_loaded m (longer wait (ChangeStep.Sums sum))) ×
      (wrap_add sum.total value ≡ sum_loaded (counts_loaded m (longer wait (ChangeStep.Sums sum))))
  count_loaded wait sum h = rw (eq-eqb m m refl) ((refl, h.1), sum_more sum.words value sum.total (counts_loaded m earlier) h.2)

  sums : (wait : Bool) (sum : Sum) → ChangeSays c m ro wait (ChangeStep.Sums sum) earlier added → TraceAfterStep wait (ChangeStep.Sums sum)
  sums wait sum h =
      let now : IsEachCount (suc sum.words) (counts_loaded m (longer wait (ChangeStep.Sums sum))) ×
      (wrap_add sum.total value ≡ sum_loaded (counts_loaded m (longer wait (ChangeStep.Sums sum)))) = count_loaded wait sum h.1.3 in
      elim (cases_Bool (nat_lt (sum.words + 1) c.processors)) [
        | inl f ↦
            rw f (
              ChangeStep.Sums record { words = sum.words + 1; total = wrap_add sum.total value },
              refl,
              (
                λ q. omega (arith, h.0 q),
                (
                  h.1.0,
                  h.1.1,
                  h.1.2,
                  (
                    ltb-true (sum.words + 1) c.processors f,
                    rw (add-one sum.words) now.0,
                    now.1,
                  ),
                ),
              ),
            )
        | inr f ↦
            let last : suc sum.words ≡ c.processors = omega (arith, ltb-false (sum.words + 1) c.processors f, h.1.3.0) in
            elim (eqb_tells (wrap_add sum.total value) 0) [
              | inl z ↦ rw (f, z.0) (ChangeStep.SetsReadOnly, refl, (λ q. omega (arith, h.0 q), (h.1.0, h.1.1, h.1.2)))
              | inr z ↦ rw (f, z.0) (
                ChangeStep.ClearsHold (Err GateError.Busy),
                refl,
                (
                  λ q. omega (arith, h.0 q),
                  (
                    h.1.0,
                    (
                      subst (λ n. IsEachCount n (counts_loaded m (longer wait (ChangeStep.Sums sum)))) last now.0,
                      λ q. z.1 (now.1 ∙ q),
                    ),
                  ),
                ),
              )
            ]
      ]

  -- a change to read-only, of a mount that was found writable, is done
  sets_read_only : (wait : Bool) → ChangeSays c m ro wait ChangeStep.SetsReadOnly earlier added → TraceAfterStep wait ChangeStep.SetsReadOnly
  sets_read_only wait h = grind arith

  change_event : (wait : Bool) (step : ChangeStep) → ChangeSays c m ro wait step earlier added → TraceAfterStep wait step
  change_event wait ChangeStep.Locks h = locks wait h
  change_event wait ChangeStep.LoadsFlags h = loads_flags wait h
  change_event wait ChangeStep.LoadsSuperblock h = loads_superblock wait h
  change_event wait ChangeStep.ClearsReadOnly h = clears_read_only wait h
  change_event wait ChangeStep.SetsHold h = sets_hold wait h
  change_event wait (ChangeStep.Sums sum) h = sums wait sum h
  change_event wait ChangeStep.SetsReadOnly h = sets_read_only wait h
  change_event wait (ChangeStep.ClearsHold answer) h = (ChangeStep.Releases answer, refl, (λ q. omega (arith, h.0 q), hold_leaves wait answer h.1))
  change_event wait (ChangeStep.Releases answer) h = (
    lock_leaves wait answer h.1,
    change_short c m ro wait (longer wait (ChangeStep.Releases answer)) (λ q. omega (arith, h.0 q)),
  )

pub change_inductive : (c : Config) → IsWithin c → (t m : ℕ) (ro wait : Bool) → IsInductive (ChangeAt c t m ro wait) c t (Op.ChangeMount m ro wait)
change_inductive c lim t m ro wait = record {
  first = (ChangeStep.Locks, refl, (λ q. omega arith, (refl, (refl, refl, refl))));
  more = λ phase value hook earlier added here.
      subst (λ (x : Phase). InvariantAfterStep (ChangeAt c t m ro wait) c (Op.ChangeMount m ro wait) x value hook earlier added) (sym here.1)
      (change_event c lim t m ro value hook earlier added wait here.0 here.2);
  short = λ trace phase added here. change_short c m ro wait trace (λ q. within_most c m ro wait here.0 trace added here.2.1 (here.2.0 q));
}
