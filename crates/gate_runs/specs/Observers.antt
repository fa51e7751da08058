-- What a watch without notes says of a call.
use Rattle.std.specs.Prelude.{ℕ}
use Rattle.vfs_gates.specs.TaskStates.{SeatedTask, own_number}

-- a call of `holding` by a task that stands so is one by its number
abbrev pub was_held : (ℕ → ℕ → Type 0) → SeatedTask → ℕ → Unit {0} → Unit {0} → Type 0
was_held held task round before after = held (own_number task.items) round

-- a call of `frozen` is one at this freeze
abbrev pub was_frozen : (ℕ → Type 0) → SeatedTask → ℕ → Unit {0} → Unit {0} → Type 0
was_frozen seen task freeze before after = seen freeze
