-- Where a callback stands after each part of its line.
use Rattle.std.specs.Prelude.{Bool, None, Ok, Option, Some, false, true, ℕ}
use Rattle.access_model.specs.{Replies.map_next, declared.replies.{Next.{Next, TheVariants.{Done, Go, Wait}}, Reply.TheVariants.Ran}}
use Rattle.gate_world.specs.declared.work.Phase.{Phase, TheVariants.Callbacks}
use Rattle.percpu_rwsem.specs.declared.callbacks.{Callback.Callback, CallbackStep.{CallbackStep, TheVariants.{AwaitsSections, CallsBack}}}
use Rattle.percpu_rwsem.specs.declared.{grace.Grace.Grace, transitions.Transition.TheVariants.Loads}

-- a callback of a level, among so many tasks, at this step
abbrev pub calling_at : ℕ → ℕ → CallbackStep → Phase
calling_at level tasks step = Callbacks record { level = level; tasks = tasks; step = step }

-- what comes next of a callback, as phases
abbrev pub of_callback : Next Callback → Next Phase
of_callback next = map_next (λ callback. Callbacks callback) next

-- after its grace period, which has come as far as this, or has ended
abbrev pub sections_ended : ℕ → ℕ → Option Grace → Next Phase
sections_ended level tasks None = Go (calling_at level tasks (CallsBack Loads))
sections_ended level tasks (Some grace) = Wait (calling_at level tasks (AwaitsSections grace))

-- after its transition: it is made, or this comes next
abbrev pub called_or : Bool → Next Callback → Next Phase
called_or true rest = Done (Ok (Ran true))
called_or false rest = of_callback rest
