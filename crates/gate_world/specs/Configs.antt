-- The limits of a configuration.
use Rattle.std.specs.Prelude.{ℕ, ◌<◌, ◌≤◌}
use Rattle.{access_model.specs.States.Limits, cpu_words.specs.Names.Extents}
use Rattle.gate_world.specs.declared.config.Config.{Config}

-- the numbers are within the limits
pub record IsWithin (c : Config) : Type 0 where
  pub some_task : 1 ≤ c.tasks
  pub tasks : c.tasks ≤ 64
  pub some_processor : 1 ≤ c.processors
  pub processors : c.processors ≤ 64
  pub some_mount : 1 ≤ c.mounts
  pub mounts : c.mounts ≤ 8
  pub some_node : 2 ≤ c.nodes
  pub nodes : c.nodes ≤ 64
  pub capacity : c.capacity < 4294967296

-- what the model reads of it
abbrev pub model_limits : Config → Limits
model_limits c = record { tasks = c.tasks; mounts = c.mounts; nodes = c.nodes; capacity = c.capacity }

-- what the words read of it
abbrev pub extents_of : Config → Extents
extents_of c = record { tasks = c.tasks; processors = c.processors; mounts = c.mounts; nodes = c.nodes }

-- the words that are kept, of so many tasks: those of 64 nodes, however many the tree has
abbrev pub extents_among : ℕ → Config → Extents
extents_among n c = record { tasks = n; processors = c.processors; mounts = c.mounts; nodes = 64 }

-- the words that are kept of a configuration's tasks
abbrev pub extents_kept : Config → Extents
extents_kept c = extents_among c.tasks c
