-- What a run may be asked for, and its gates.
use Rattle.std.specs.Prelude.{ℕ, ◌%◌, ◌*◌, ◌+◌, ◌-◌, ◌≤◌}
use Rattle.gate_world.specs.declared.config.Config.{Config}

-- 3 to 64 tasks, 1 to 64 processors, 1 to 10,000 rounds, and at most 1,000 freezes
pub record MayRun (tasks processors rounds freezes : ℕ) : Type 0 where
  pub tasks_from : 3 ≤ tasks
  pub tasks_to : tasks ≤ 64
  pub processors_from : 1 ≤ processors
  pub processors_to : processors ≤ 64
  pub rounds_from : 1 ≤ rounds
  pub rounds_to : rounds ≤ 10000
  pub freezes_to : freezes ≤ 1000

-- one mount, a file for each writer beside the root, and room for a block of each writer in each round
abbrev pub run_config : ℕ → ℕ → ℕ → Config
run_config tasks processors rounds =
    record { tasks = tasks; processors = processors; mounts = 1; nodes = tasks - 1; capacity = (tasks - 2) * rounds }

-- the processor on which a writer, the first being 0, begins a round; it goes on to the next in each
abbrev pub processor_of : ℕ → ℕ → ℕ → ℕ
processor_of processors writer round = (writer + round) % processors
