-- Wait-freedom: an operation that waits for nobody has its reply within so many steps of its own, whatever all others do or leave undone.
use Rattle.std.specs.Prelude.{List, Some, [], if◌then◌else◌, suc, ℕ, ◌<◌, ◌==◌, ◌∷◌, ◌≡◌, ◌≤◌, ◌⊎◌}
use Rattle.gate_schedules.specs.operations.Progress.{HasReply}
use Rattle.gate_world.specs.{Headline.world_after, Worlds.{World, happens}, declared.{config.Config.Config, entries.Entry.Entry}}
use Rattle.gate_world.specs.{declared.{entries.Entry.TheVariants.{Begins, Steps}, operations.Op.Op}, traces.Traces.most_events}

-- how many steps a task takes among these transitions
abbrev pub steps_by : ℕ → List Entry → ℕ
steps_by t [] = 0
steps_by t (Begins u op ∷ es) = steps_by t es
steps_by t (Steps u hook ∷ es) = if u == t then suc (steps_by t es) else steps_by t es

-- a task has its reply after some first part of these transitions
abbrev pub RepliesDuring : Config → World → ℕ → List Entry → Type 0
RepliesDuring c w t [] = HasReply w t
RepliesDuring c w t (e ∷ es) = HasReply w t ⊎ RepliesDuring c (happens c w e) t es

-- From any point of an operation that has a bound, it has its reply once its task has taken so many steps, whatever else is in between: steps of
-- others, and beginnings, and none of both. So it is if all others are lost.
abbrev pub IsWaitFree : Config → List Entry → Type 0
IsWaitFree c entries =
    (t : ℕ) → t < c.tasks → (op : Op) (most : ℕ) → ((world_after c entries).views t).op ≡ Some op → most_events c op ≡ Some most →
    (more : List Entry) → most ≤ steps_by t more → RepliesDuring c (world_after c entries) t more
