-- Where the closing of a level by a freeze stands after each part of it.
use Rattle.std.specs.Prelude.{Bool, None, Option, Some, false, true, ℕ}
use Rattle.access_model.specs.{Replies.map_next, declared.replies.Next.{Next, TheVariants.{Go, Wait}}}
use Rattle.freeze_levels.specs.{Freezes.{at_freeze, level_closed}, Levels.closing, declared.freezes.{Freeze.Freeze, FreezeStep.FreezeStep}}
use Rattle.freeze_levels.specs.declared.freezes.FreezeStep.TheVariants.{Closes, Waits}
use Rattle.gate_world.specs.declared.work.Phase.{Phase, TheVariants.Freezes}
use Rattle.percpu_rwsem.specs.{Writers.{at_down_write, sum_begun}, declared.{grace.Grace.Grace, transitions.Transition.TheVariants.Loads}}
use Rattle.percpu_rwsem.specs.declared.writers.DownWriteStep.{DownWriteStep, TheVariants.{AwaitsSections, CallsBack}}

-- a freeze that closes a level, at this step of its down-write
abbrev pub closing_at : Freeze → ℕ → DownWriteStep → Phase
closing_at x level step = Freezes (at_freeze x (Closes (at_down_write (closing level x.tasks x.processors) step)))

-- a freeze at this step
abbrev pub standing : Freeze → FreezeStep → Phase
standing x step = Freezes (at_freeze x step)

-- what comes next of a freeze, as phases
abbrev pub of_freeze : Next Freeze → Next Phase
of_freeze next = map_next (λ freeze. Freezes freeze) next

-- after its grace period, which has come as far as this, or has ended
abbrev pub awaited : Freeze → ℕ → Option Grace → Next Phase
awaited x level None = Go (closing_at x level (CallsBack Loads))
awaited x level (Some grace) = Wait (closing_at x level (AwaitsSections grace))

-- a freeze whose sum of a level found somebody, before its file system is asked whether to wait
abbrev pub waiting_at : Freeze → ℕ → Phase
waiting_at x level = standing x (Waits (at_down_write (closing level x.tasks x.processors) sum_begun))

-- after a sum, where nobody was counted
abbrev pub summed : Freeze → ℕ → Bool → Next Phase
summed x level false = Wait (waiting_at x level)
summed x level true = Go (standing x (level_closed level x.nodes))

-- after the closing of a level: it is closed, or this comes next
abbrev pub closed_or : Freeze → ℕ → Bool → Next Freeze → Next Phase
closed_or x level true rest = Go (standing x (level_closed level x.nodes))
closed_or x level false rest = of_freeze rest
