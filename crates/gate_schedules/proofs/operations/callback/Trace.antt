-- Traces of a callback.
use Rattle.gate_schedules.proofs.Prelude.{Action, Callback, Config, List, Op, Phase, Traced, [], arith, common_steps, ℕ, ◌≡◌}
use Rattle.{gate_world.specs.traces.Found.transitions_made, percpu_rwsem.specs.declared.callbacks.CallbackStep.CallbackStep}
use Rattle.gate_schedules.proofs.traces.TraceInvariant.{IsInductive}

-- a callback of this level over so many tasks, at a step
abbrev pub callback_on : ℕ → ℕ → CallbackStep → Callback
callback_on i tasks s = record { level = i; tasks = tasks; step = s }

-- how many transitions it has made before a step
abbrev made_before : CallbackStep → ℕ
made_before (CallbackStep.Claims transition) = 0
made_before (CallbackStep.AwaitsSections grace) = 1
made_before (CallbackStep.CallsBack transition) = 1

-- what a callback's trace says at a phase: it has added nothing, and made as many transitions as its step says
abbrev pub CallbackAt : ℕ → ℕ → List Traced → Phase → List Action → Type 0
CallbackAt i tasks trace phase added =
    (s : CallbackStep) × (phase ≡ Phase.Callbacks (callback_on i tasks s)) × (added ≡ []) × (transitions_made i trace ≡ made_before s)

pub callback_inductive : (c : Config) (t i : ℕ) → IsInductive (CallbackAt i c.tasks) c t (Op.Callback i)
callback_inductive c t i = grind (arith, common_steps)
