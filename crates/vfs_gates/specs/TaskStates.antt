-- What callers know of a task, and of the gates that it came from.
use Rattle.std.specs.Prelude.{◌≡◌, ℕ, Option, Some, None}
use Rattle.gate_world.specs.declared.work.Phase.{Phase}
use Rattle.gate_steps.specs.call_events.Asking.{level_at}
use Rattle.vfs_gates.specs.declared.gates.Gates.{Gates}
pub use Rattle.gate_steps.specs.call_events.SeatedTasks.{SeatedTask, task_state, own_number, own_view, spare_of, IsIdle, Empty, HoldsNothing, IsNothing, refusal_at}

-- the task came from these gates
abbrev pub IsFrom : SeatedTask → Gates → Type 0
IsFrom s g = (s.table ≡ g.words.table.shared.table_id) × (s.config ≡ g.words.config)

-- the level at which the freeze of a task asks next whether to wait; 0 where its next step reads no such answer
abbrev pub level_asked : Option Phase → ℕ
level_asked None = 0
level_asked (Some phase) = level_at phase
