-- What a trace says, kept from each step to the next.
use Rattle.gate_schedules.proofs.Prelude.{Action, Config, Event, HookAnswer, List, Next, Op, Phase, ReadIsValid, Traced, [], actions_after, after_of}
use Rattle.gate_schedules.proofs.Prelude.{arith, event_of, first_phase, found_by, most_events, next_of, with_hook, ℕ, ◌∷◌}
use Rattle.gate_world.specs.traces.{TraceStates.{IsEventOf, IsNext, IsTrace, state_of_trace, trace_state_after}, Traces.{IsShort, Tells}}

-- what a trace says by where its operation stands, where `At` is what it says at a phase
abbrev pub InvariantAfter : (List Traced → Phase → List Action → Type 0) → Config → Op → List Traced → Next Phase → List Action → Type 0
InvariantAfter At c op trace (Next.Go phase) added = At trace phase added
InvariantAfter At c op trace (Next.Wait phase) added = At trace phase added × Tells c op trace (Next.Wait phase) added
InvariantAfter At c op trace (Next.Done answer) added = Tells c op trace (Next.Done answer) added × IsShort (most_events c op) trace

-- the step of a phase, on a word that held this value
abbrev pub event_at : Phase → ℕ → HookAnswer → Event
event_at phase value hook = event_of (next_of phase hook).0 (next_of phase hook).1 value

-- what the trace says after the step of a phase
abbrev pub InvariantAfterStep : (List Traced → Phase → List Action → Type 0) → Config → Op → Phase → ℕ → HookAnswer → List Traced → List Action →
    Type 0
InvariantAfterStep At c op phase value hook earlier added =
    InvariantAfter At c op (with_hook (event_at phase value hook) hook ∷ earlier) (after_of phase (found_by (next_of phase hook).1 value) hook).0
    (actions_after (after_of phase (found_by (next_of phase hook).1 value) hook).1 added)

-- What is kept of an operation: it holds at the beginning, each step keeps it, and it bounds the trace. A step is on a word that held
-- what it may.
pub record IsInductiveGivenReads (At : List Traced → Phase → List Action → Type 0) (c : Config) (t : ℕ) (op : Op) : Type 0 where
  pub first : At [] (first_phase c t op) []
  pub more : (phase : Phase) (value : ℕ) (hook : HookAnswer) (earlier : List Traced) (added : List Action) →
      ReadIsValid phase (next_of phase hook).0 value → At earlier phase added → InvariantAfterStep At c op phase value hook earlier added
  pub short : (trace : List Traced) (phase : Phase) (added : List Action) → At trace phase added → IsShort (most_events c op) trace

-- the same, where a step keeps it whatever its word held
pub record IsInductive (At : List Traced → Phase → List Action → Type 0) (c : Config) (t : ℕ) (op : Op) : Type 0 where
  pub first : At [] (first_phase c t op) []
  pub more : (phase : Phase) (value : ℕ) (hook : HookAnswer) (earlier : List Traced) (added : List Action) → At earlier phase added →
      InvariantAfterStep At c op phase value hook earlier added
  pub short : (trace : List Traced) (phase : Phase) (added : List Action) → At trace phase added → IsShort (most_events c op) trace

module _ (At : List Traced → Phase → List Action → Type 0) (c : Config) (t : ℕ) (op : Op) (kept : IsInductiveGivenReads At c t op) where
  -- the step of a phase keeps what the trace says
  event_keeps : (phase : Phase) (added : List Action) (e : Traced) (earlier : List Traced) → IsEventOf phase e → At earlier phase added →
      InvariantAfter At c op (e ∷ earlier) (after_of phase e.event.found e.hook).0 (actions_after (after_of phase e.event.found e.hook).1 added)
  event_keeps phase added e earlier next here = grind arith

  -- one more step of a trace does
  next_keeps : (comes : Next Phase) (added : List Action) (e : Traced) (earlier : List Traced) → IsNext comes e →
      InvariantAfter At c op earlier comes added →
      InvariantAfter At c op (e ∷ earlier) (trace_state_after comes added e).comes (trace_state_after comes added e).added
  next_keeps comes added e earlier next here = grind (arith, event_keeps)

  says : (trace : List Traced) → IsTrace c t op trace → InvariantAfter At c op trace (state_of_trace c t op trace).comes (state_of_trace c t op trace).added
  says [] h = kept.first
  says (e ∷ earlier) h = next_keeps (state_of_trace c t op earlier).comes (state_of_trace c t op earlier).added e earlier h.0 (says earlier h.1)

  -- what is said tells what is to be told
  says_tells : (trace : List Traced) (comes : Next Phase) (added : List Action) → InvariantAfter At c op trace comes added →
      Tells c op trace comes added
  says_tells trace comes added h = grind arith

  -- what is said bounds the trace
  says_short : (trace : List Traced) (comes : Next Phase) (added : List Action) → InvariantAfter At c op trace comes added →
      IsShort (most_events c op) trace
  says_short trace comes added h = grind arith

-- what is kept whatever a word held is kept where it held what it may
module _ (At : List Traced → Phase → List Action → Type 0) (c : Config) (t : ℕ) (op : Op) (kept : IsInductive At c t op) where
  kept_given_reads : IsInductiveGivenReads At c t op
  kept_given_reads = grind arith

-- every trace of an operation tells what is to be told, and is short
pub record TraceLaws (c : Config) (op : Op) : Type 0 where
  pub tells : (t : ℕ) (trace : List Traced) → IsTrace c t op trace →
      Tells c op trace (state_of_trace c t op trace).comes (state_of_trace c t op trace).added
  pub short : (t : ℕ) (trace : List Traced) → IsTrace c t op trace → IsShort (most_events c op) trace

-- so it is where something is kept of it, for each task
module _ (At : ℕ → List Traced → Phase → List Action → Type 0) (c : Config) (op : Op) where
  pub traces_given_reads : ((t : ℕ) → IsInductiveGivenReads (At t) c t op) → TraceLaws c op
  traces_given_reads kept = record {
    tells = λ t trace h. says_tells (At t) c t op (kept t) trace (state_of_trace c t op trace).comes (state_of_trace c t op trace).added
        (says (At t) c t op (kept t) trace h);
    short = λ t trace h. says_short (At t) c t op (kept t) trace (state_of_trace c t op trace).comes (state_of_trace c t op trace).added
        (says (At t) c t op (kept t) trace h);
  }

  pub traces_tell : ((t : ℕ) → IsInductive (At t) c t op) → TraceLaws c op
  traces_tell kept = traces_given_reads (λ t. kept_given_reads (At t) c t op (kept t))
