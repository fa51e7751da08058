-- What an operation has asked, by where it stands: a fact that holds at its first phase, and that each step keeps, holds after each trace.
use Rattle.gate_steps.proofs.Prelude.{Action, Ask, Bool, Called, Config, DealtNumbers, Done, GateError, Go, HookAnswer, List, Next, Op, Phase, Reply}
use Rattle.gate_steps.proofs.Prelude.{Result, SeatedTask, Traced, Wait, [], actions_after, actions_of, after_of, asks_of, asks_with, call_at}
use Rattle.gate_steps.proofs.Prelude.{first_phase, own_number, state_of_trace, subst, ℕ, ◌∷◌}
use Rattle.std.proofs.Common.{false, if◌then◌else◌, true}
use Rattle.gate_world.specs.traces.TraceStates.{trace_state_after}
use Rattle.gate_steps.specs.call_events.{Asking.next_call, Runs.items_at}

-- what comes next, whichever of two it is
pub either_way : {A : Type 0} (P : A → Type 0) (b : Bool) (x y : A) → P x → P y → P (if b then x else y)
either_way P true x y is other = is
either_way P false x y is other = other

-- what was asked, by what comes next: a phase, of which the first says it, or the answer, of which the second does
abbrev pub AskedAt : (Phase → List Action → List Ask → Type 0) → (Result Reply GateError → List Action → List Ask → Type 0) →
    Next Phase → List Action → List Ask → Type 0
AskedAt AtPhase Tells (Go phase) added asks = AtPhase phase added asks
AskedAt AtPhase Tells (Wait phase) added asks = AtPhase phase added asks
AskedAt AtPhase Tells (Done answer) added asks = Tells answer added asks

module _ (AtPhase : Phase → List Action → List Ask → Type 0) (Tells : Result Reply GateError → List Action → List Ask → Type 0)
    (keeps : (p : Phase) (found : ℕ) (hook : HookAnswer) (at : DealtNumbers) (added : List Action) (asks : List Ask) → AtPhase p added asks →
    AskedAt AtPhase Tells (after_of p found hook).0 (actions_after (after_of p found hook).1 added) (asks_with (call_at p) at hook asks)) where
  -- one step more
  one_more : (comes : Next Phase) (added : List Action) (e : Traced) (at : DealtNumbers) (asks : List Ask) → AskedAt AtPhase Tells comes added asks →
      AskedAt AtPhase Tells (trace_state_after comes added e).comes (trace_state_after comes added e).added
      (asks_with (next_call comes) at e.hook asks)
  one_more (Go p) added e at asks is = keeps p e.event.found e.hook at added asks is
  one_more (Wait p) added e at asks is = keeps p e.event.found e.hook at added asks is
  one_more (Done answer) added e at asks is = is

  -- so it is after each trace
  asked_after : (c : Config) (op : Op) (items : DealtNumbers) → AtPhase (first_phase c (own_number items) op) [] [] → (trace : List Traced) →
      AskedAt AtPhase Tells (state_of_trace c (own_number items) op trace).comes (state_of_trace c (own_number items) op trace).added
      (asks_of c op items trace)
  asked_after c op items first [] = first
  asked_after c op items first (e ∷ earlier) =
      one_more (state_of_trace c (own_number items) op earlier).comes (state_of_trace c (own_number items) op earlier).added e
      (items_at c op earlier items) (asks_of c op items earlier) (asked_after c op items first earlier)

  -- and of a whole call
  pub asked_by_call : (op : Op) (old left : SeatedTask) → AtPhase (first_phase old.config (own_number old.items) op) [] [] →
      (answer : Result Reply GateError) (called : Called op old left answer) →
      Tells answer (actions_of op answer called.trace) (asks_of old.config op old.items called.trace)
  asked_by_call op old left first answer called =
      let P : Next Phase × List Action → Type 0 = λ z. AskedAt AtPhase Tells z.0 z.1 (asks_of old.config op old.items called.trace) in
      subst P (λ i. (called.ends i, called.added i)) (asked_after old.config op old.items first called.trace)
