-- What the numbers of a record tell of a configuration.
use Rattle.std.specs.Prelude.{None, ℕ, ◌↔◌, ◌≡◌, ◌≤◌}
use Rattle.{access_model.specs.declared.errors.GateError.{GateError, TheVariants.{NoMemory, Order, TooMany}}, gate_steps.specs.Rules.first_known}
use Rattle.gate_world.specs.declared.config.Config.{Config}
use Rattle.vfs_gates.specs.{Grown.StaySeen, Held.Rests, Parts.GaveAll, Seating.{times, view_in}}
use Rattle.vfs_gates.specs.TaskStates.{SeatedTask, own_number, own_view, task_state}
use Rattle.mntgate_c.specs.declared.openings.ConfigRecord.{ConfigRecord}

abbrev pub config_of : ConfigRecord → Config
config_of r = record { tasks = r.tasks; processors = r.processors; mounts = r.mounts; nodes = r.nodes; capacity = r.capacity }

-- the first task of some gates: it has number 0 and each other number to give, of which none has done anything
abbrev pub IsFirst : SeatedTask → Config → Type 0
IsFirst s c = s ≡ task_state s.table c None None (first_known c)

-- A task that rests, of the same gates, with the same own number and view, the same numbers to give, of which each has done what it had, and all that
-- it had seen.
pub record HasAllStill (before after : SeatedTask) : Type 0 where
  pub table : after.table ≡ before.table
  pub config : after.config ≡ before.config
  pub own : own_number after.items ≡ own_number before.items
  pub view : own_view after.items ≡ own_view before.items
  pub numbers : (n : ℕ) → (1 ≤ times n before.items) ↔ (1 ≤ times n after.items)
  pub done : (n : ℕ) → (view_in n after.items).actions ≡ (view_in n before.items).actions
  pub rests : Rests after
  pub seen : StaySeen before.seen after.seen

-- why a task that is to rest is not split, and how it is left
abbrev pub SplitIsRefused : SeatedTask → SeatedTask → GateError → Type 0
SplitIsRefused old new Order = ¬ Rests old × (new ≡ old)
SplitIsRefused old new TooMany = Rests old × GaveAll old × (new ≡ old)
SplitIsRefused old new NoMemory = Rests old × ¬ GaveAll old × HasAllStill old new
SplitIsRefused old new e = ⊥
