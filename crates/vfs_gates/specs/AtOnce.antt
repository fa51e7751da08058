-- Operations begun and done as far as they go at once.
use Rattle.std.specs.Prelude.{Err, None, Ok, Result, Some, ◌≡◌}
use Rattle.access_model.specs.declared.{errors.GateError.GateError, replies.Reply.Reply}
use Rattle.gate_steps.specs.call_events.{Progress.Progress, Runs.{Called, IsBounded, ProgressMatches, told_as, unit_of}}
use Rattle.gate_world.specs.{declared.operations.Op.Op, traces.Traces.most_events}
use Rattle.vfs_gates.specs.TaskStates.{SeatedTask, refusal_at}

-- An operation whose beginning is refused changes nothing. Any other has done its first step at least, and goes on, or was done whole.
pub record BeginsAtOnce (op : Op) (old left : SeatedTask) (outcome : Result Progress GateError) : Type 0 where
  pub table : left.table ≡ old.table
  pub config : left.config ≡ old.config
  pub refused : (refusal : GateError) → refusal_at op old ≡ Some refusal → (outcome ≡ Err refusal) × (left ≡ old)
  pub begun : refusal_at op old ≡ None → (progress : Progress) × (outcome ≡ Ok progress) × (left.begins ≡ None) × ProgressMatches op old progress left

-- some operation that has a most number of steps was begun so
pub record TriedAtOnce (now : SeatedTask) (begun : Result Progress GateError) : Type 0 where
  pub op : Op
  pub start : SeatedTask
  pub begins : BeginsAtOnce op start now begun
  pub tries : IsBounded (most_events start.config op)

-- an operation that was done whole, of which a call tells only whether it was
abbrev pub PerformedFrom : Op → SeatedTask → SeatedTask → Result (Unit {0}) GateError → Type 0
PerformedFrom op start left outcome = (answer : Result Reply GateError) × (outcome ≡ told_as unit_of answer) × Called op start left answer
