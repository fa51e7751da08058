-- Executions that were written out by hand, on two processors and one mount.
use Rattle.std.specs.Prelude.{List, Ok, replicate, true, ℕ, ◌++◌, ◌∷◌}
use Rattle.gate_world.specs.declared.{config.Config.Config, entries.Entry.{Entry, TheVariants.{Begins, Steps}}}
use Rattle.gate_world.specs.declared.operations.Op.TheVariants.{DropMount, Want}

-- three tasks, two processors, one mount
abbrev pub small : Config
small = record { tasks = 3; processors = 2; mounts = 1; nodes = 2; capacity = 8 }

-- so many steps of a task
abbrev pub steps : ℕ → ℕ → List Entry
steps n t = replicate n (Steps t (Ok tt))

-- an access that is granted on one processor and given back on the other: that one's word wraps
abbrev pub moves : List Entry
moves = Begins 0 (Want 0 0 true) ∷ steps 5 0 ++ (Begins 0 (DropMount 0 1) ∷ steps 1 0)
