-- Numbers that go from task to task.
use Rattle.std.specs.Prelude.{ℕ, ◌<◌, ◌≡◌, ◌≤◌}
use Rattle.access_model.specs.declared.errors.GateError.{GateError, TheVariants.{NoMemory, Order, TooMany}}
use Rattle.gate_steps.specs.Seating.{given_of, kept_of, times}
use Rattle.vfs_gates.specs.TaskStates.{IsIdle, SeatedTask, spare_of}

-- the lowest number that is left goes to a task of its own, with its view renewed
pub record SplitOf (old left other : SeatedTask) : Type 0 where
  pub number : ℕ
  pub idle : IsIdle old
  pub there : 1 ≤ times number (spare_of old.items)
  pub lowest : (k : ℕ) → k < number → times k (spare_of old.items) ≡ 0
  pub kept : left ≡ record old { items = kept_of number old.items }
  pub given : other ≡ record old { items = given_of number old.items }

-- no number is left to give
abbrev pub GaveAll : SeatedTask → Type 0
GaveAll s = (n : ℕ) → times n (spare_of s.items) ≡ 0

-- why there is no new task
abbrev pub SplitRefused : SeatedTask → GateError → Type 0
SplitRefused s Order = ¬ IsIdle s
SplitRefused s TooMany = IsIdle s × GaveAll s
SplitRefused s NoMemory = IsIdle s × ¬ GaveAll s
SplitRefused s e = ⊥
