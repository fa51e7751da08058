-- Where the reopening of the levels by a thaw stands after each part of it.
use Rattle.std.specs.Prelude.{Bool, false, true, ℕ, ◌-◌}
use Rattle.access_model.specs.{Replies.map_next, declared.replies.Next.Next}
use Rattle.freeze_levels.specs.{Thaws.{at_thaw, thaw_opens}, declared.thaws.{Thaw.Thaw, ThawStep.{ThawStep, TheVariants.Reopens}}}
use Rattle.gate_world.specs.declared.work.Phase.{Phase, TheVariants.Thaws}
use Rattle.percpu_rwsem.specs.declared.{transitions.Transition.TheVariants.Loads, writers.UpWriteStep.{TheVariants.Exits, UpWriteStep}}

-- a thaw at this step
abbrev pub thaw_at : Thaw → ThawStep → Phase
thaw_at x step = Thaws (at_thaw x step)

-- one that reopens a level, at this step of its up-write
abbrev pub opening_at : Thaw → ℕ → UpWriteStep → Phase
opening_at x level step = thaw_at x (Reopens record { level = level; step = step })

-- what comes next of a thaw, as phases
abbrev pub of_thaw : Next Thaw → Next Phase
of_thaw next = map_next (λ thaw. Thaws thaw) next

-- after the reopening of a level, where its exit was made
abbrev pub reopened : Thaw → ℕ → Bool → Phase
reopened x level false = opening_at x level (Exits Loads)
reopened x level true = thaw_at x (thaw_opens (level - 1))
