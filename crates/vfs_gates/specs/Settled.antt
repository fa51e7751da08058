-- Callbacks of a level until none is queued.
use Rattle.std.specs.Prelude.{Ok, false, suc, true, zero, ℕ, ◌≡◌}
use Rattle.{gate_steps.specs.call_events.Runs.{Replies, ran_of}, gate_world.specs.declared.operations.Op.TheVariants.Callback}
use Rattle.vfs_gates.specs.TaskStates.{SeatedTask}

-- so many callbacks of a level, each of which ran
abbrev pub CallsBack : ℕ → ℕ → SeatedTask → SeatedTask → Type 0
CallsBack level zero first last = last ≡ first
CallsBack level (suc times) first last =
    (mid : SeatedTask) × CallsBack level times first mid × Replies ran_of (Callback level) mid last (Ok true)

-- A level is settled: callbacks ran, and the last one found none queued.
pub record SettlesLevel (level : ℕ) (first last : SeatedTask) : Type 0 where
  pub times : ℕ
  pub mid : SeatedTask
  pub ran : CallsBack level times first mid
  pub none : Replies ran_of (Callback level) mid last (Ok false)

-- The three levels are, the lowest first.
pub record Settles (first last : SeatedTask) : Type 0 where
  pub one : SeatedTask
  pub two : SeatedTask
  pub lowest : SettlesLevel 1 first one
  pub middle : SettlesLevel 2 one two
  pub highest : SettlesLevel 3 two last
