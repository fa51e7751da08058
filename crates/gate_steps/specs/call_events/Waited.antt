-- How often an operation comes to a wait: how many of its steps found what it waits for.
use Rattle.std.specs.Prelude.{◌≡◌, ℕ, ◌+◌, Option, Some, None, Result, List, [], ◌∷◌}
use Rattle.access_model.specs.declared.{errors.GateError.{GateError}, replies.{Next.{Next, TheVariants.{Go, Wait, Done}}, Reply.{Reply}}}
use Rattle.gate_steps.specs.Seating.{DealtNumbers}
use Rattle.gate_world.specs.declared.{config.Config.{Config}, operations.Op.{Op}, views.{Traced.{Traced}, View.{View}}, work.Phase.{Phase}}
use Rattle.gate_world.specs.traces.TraceStates.{state_of_trace}
pub use Rattle.gate_world.specs.Counted.{counted}
use Rattle.gate_steps.specs.call_events.{Runs.{Called, OpUnderWay}, SeatedTasks.{SeatedTask, own_number, own_view}}

-- 1 where a step came to a wait
abbrev pub is_wait : Next Phase → ℕ
is_wait (Wait phase) = 1
is_wait next = 0

-- how many steps of a trace did
abbrev pub waits_in : Config → ℕ → Op → List Traced → ℕ
waits_in c t op [] = 0
waits_in c t op (e ∷ earlier) = waits_in c t op earlier + is_wait (state_of_trace c t op (e ∷ earlier)).comes

-- how many of the last operation of a number with this view did
abbrev pub waits_by : Config → ℕ → Option Op → List Traced → ℕ
waits_by c t None trace = 0
waits_by c t (Some op) trace = waits_in c t op trace

abbrev pub waits_of : Config → ℕ → View → ℕ
waits_of c t v = waits_by c t v.op v.trace

-- how often the last operation of a task with these numbers came to a wait
abbrev pub waited_of : Config → DealtNumbers → ℕ
waited_of c items = counted (waits_of c (own_number items) (own_view items))

-- the same of a task that stands so
abbrev pub waited_at : SeatedTask → ℕ
waited_at s = waited_of s.config s.items

-- an operation under way, of whose steps so many came to a wait
abbrev pub OpUnderWayWaiting : ℕ → Op → SeatedTask → SeatedTask → Type 0
OpUnderWayWaiting waits op start now =
    (goes : OpUnderWay op start now) × (waits_in start.config (own_number start.items) op goes.trace ≡ waits)

-- one that was done whole
abbrev pub CalledWaiting : ℕ → Op → SeatedTask → SeatedTask → Result Reply GateError → Type 0
CalledWaiting waits op start left answer =
    (called : Called op start left answer) × (waits_in start.config (own_number start.items) op called.trace ≡ waits)

-- the same by what comes after the last step, before which so many came to one
abbrev pub OpAfterStepWaiting : ℕ → Op → SeatedTask → Next Phase → SeatedTask → Type 0
OpAfterStepWaiting waits op start (Go phase) now = OpUnderWayWaiting waits op start now
OpAfterStepWaiting waits op start (Wait phase) now = OpUnderWayWaiting (waits + 1) op start now
OpAfterStepWaiting waits op start (Done answer) now = CalledWaiting waits op start now answer
