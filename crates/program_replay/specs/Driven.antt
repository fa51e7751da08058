-- What a call of the gates that one thread drives does to their tasks, and which state they show.
use Rattle.std.specs.Prelude.{List, slice_index_or, vec_len, ℕ, ◌∷◌, ◌≡◌, ◌≢◌}
use Rattle.{gate_world.specs.{Worlds.World, declared.config.Config.Config}, vfs_gates.specs.TaskStates.SeatedTask}
use Rattle.program_replay.specs.{Shown.TasksShow, declared.gates_driver.GatesDriver.GatesDriver}

-- all tasks, in the order of their numbers
abbrev pub tasks_of : GatesDriver → List SeatedTask
tasks_of driver = driver.first ∷ driver.others.items

-- the task of a number; this one if there is none
abbrev pub task_in : GatesDriver → ℕ → SeatedTask → SeatedTask
task_in driver number t = slice_index_or (tasks_of driver) number t

-- the configuration, the gates, how many tasks there are, and all tasks but that of a number
abbrev pub AreOthersKept : ℕ → GatesDriver → GatesDriver → Type 0
AreOthersKept number old left = (left.config ≡ old.config) × (left.gates ≡ old.gates) × (vec_len left.others ≡ vec_len old.others) ×
    ((k : ℕ) (t : SeatedTask) → k ≢ number → task_in left k t ≡ task_in old k t)

-- the gates of this configuration show the state that their tasks and their list of words show
pub record GatesShow (driver : GatesDriver) (c : Config) (w : World) : Type 0 where
  pub config : driver.config ≡ c
  pub shows : TasksShow (tasks_of driver) driver.words.items c w
