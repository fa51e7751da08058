-- The core in memory: a list of words and one record per task, and the state that they show.
use Rattle.std.specs.Prelude.{◌≡◌, ℕ, ◌<◌, None, List, [], length, slice_index, slice_index_or}
use Rattle.cpu_words.specs.{declared.names.WordName.{WordName}, Names.{IsWord, place, words_in_all}, Words.{read}}
use Rattle.gate_world.specs.{declared.config.Config.{Config}, Configs.{IsWithin, extents_kept}, Holdings.{Agree}, Views.{held_of}}
use Rattle.gate_world.specs.{Worlds.{World, run, opening}, declared.entries.Entry.{Entry}, Fits.{Fits}}
use Rattle.gate_transitions.specs.{declared.task_states.TaskState.{TaskState}, TaskStates.{task_holdings}}

-- the fields of the core
pub record Memory : Type 0 where
  pub config : Config
  pub words : List ℕ
  pub seats : List TaskState

-- past the end of the records there is no task
abbrev pub no_seat : TaskState
no_seat = record { phase = None; accesses = record { mounts = []; levels = []; files = [] } }

-- the record of a task
abbrev pub seat_of : Memory → ℕ → TaskState
seat_of memory t = slice_index_or memory.seats t no_seat

-- The memory shows this state: each word that is kept, and each task's phase and what it holds. Lists of actions and steps stand in
-- no memory.
pub record Represents (memory : Memory) (w : World) : Type 0 where
  pub words : (name : WordName) → IsWord (extents_kept memory.config) name → slice_index memory.words (place name) ≡ read w.words name
  pub phases : (t : ℕ) → t < memory.config.tasks → (seat_of memory t).phase ≡ (w.views t).phase
  pub held : (t : ℕ) → t < memory.config.tasks → Agree memory.config (task_holdings (seat_of memory t)) (held_of (w.views t))

-- The lists have their lengths, each phase fits its task, and the memory is what some execution makes of the opening.
pub record IsSound (memory : Memory) : Type 0 where
  pub within : IsWithin memory.config
  pub words : length memory.words ≡ words_in_all
  pub seats : length memory.seats ≡ memory.config.tasks
  pub mounts : (t : ℕ) → t < memory.config.tasks → length (seat_of memory t).accesses.mounts ≡ 8
  pub levels : (t : ℕ) → t < memory.config.tasks → length (seat_of memory t).accesses.levels ≡ 4
  pub files : (t : ℕ) → t < memory.config.tasks → length (seat_of memory t).accesses.files ≡ 64
  pub fits : (t : ℕ) → t < memory.config.tasks →
      Fits memory.config t (task_holdings (seat_of memory t)) (seat_of memory t).phase
  pub reached : (entries : List Entry) × Represents memory (run memory.config opening entries)
