-- What the tasks of a run meet on their way, counted, as their calls tell it.
use Rattle.std.specs.Prelude.{ℕ, ◌+◌, Option, Some, None}
use Rattle.gate_world.specs.declared.views.Snapshot.{Snapshot}
use Rattle.vfs_gates.specs.TaskStates.{SeatedTask, own_view}
pub use Rattle.run_plans.specs.Counts.{no_writes, with_round, both, all_writes, no_remounts, remounts_of, all_waits, with_ran, sizes_with, no_copies, with_try}
pub use Rattle.run_plans.specs.Counts.{CountsRounds, gave_up_told}
pub use Rattle.vfs_gates.specs.Waits.{counted, waited_at}

-- a call more of a task that stands so then
abbrev pub with_waits : ℕ → SeatedTask → ℕ
with_waits so_far task = counted (so_far + waited_at task)

-- the blocks that a snapshot has loaded
abbrev pub blocks_in : Option Snapshot → ℕ
blocks_in None = 0
blocks_in (Some s) = s.loaded.used

-- those of a task's last snapshot
abbrev pub blocks_of : SeatedTask → ℕ
blocks_of s = blocks_in (own_view s.items).snapshot
