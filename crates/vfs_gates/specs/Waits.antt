-- What a task keeps of its waits.
use Rattle.std.specs.Prelude.{◌≡◌, ℕ, Option, Some, None}
use Rattle.gate_world.specs.{traces.TraceStates.{state_of_trace}, Views.{phase_after}, declared.config.Config.{Config}}
use Rattle.gate_world.specs.declared.{operations.Op.{Op}, views.View.{View}}
pub use Rattle.gate_steps.specs.call_events.Waited.{counted, is_wait, waited_at, waits_of}

-- a view stands where the steps of its operation have led; one with no operation is idle
abbrev pub StandsBy : Config → ℕ → View → Option Op → Type 0
StandsBy c t v None = v.phase ≡ None
StandsBy c t v (Some op) = v.phase ≡ phase_after (state_of_trace c t op v.trace).comes

-- A number with this view stands where its steps have led, and so many of the last operation's that came to a wait are told.
pub record WaitsTell (c : Config) (t : ℕ) (v : View) (waited : ℕ) : Type 0 where
  pub stands : StandsBy c t v v.op
  pub told : waited ≡ counted (waits_of c t v)
