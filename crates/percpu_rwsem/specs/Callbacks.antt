-- The order of steps of a callback of a level's rcu_sync: which word a step touches and how, and what comes after it.
use Rattle.access_model.specs.declared.{actions.Action.Action, replies.{Next.{Next, TheVariants.{Done, Go, Wait}}, Reply.TheVariants.Ran}}
use Rattle.cpu_words.specs.declared.{events.Touch.{TheVariants.Load, Touch}, names.WordName.{TheVariants.Section, WordName}}
use Rattle.std.specs.Prelude.{None, Ok, Option, false, true, ℕ}
use Rattle.percpu_rwsem.specs.{Graces.{looked, started}, SyncWords.{on_callback, on_claim}, Transitions.{transition_after, transition_next}}
use Rattle.percpu_rwsem.specs.declared.callbacks.{Callback.Callback, CallbackStep.{CallbackStep, TheVariants.{AwaitsSections, CallsBack, Claims}}}
use Rattle.percpu_rwsem.specs.declared.grace.GraceNext.{GraceNext, TheVariants.{Ended, More as MoreSections, Wait as WaitsFor}}
use Rattle.percpu_rwsem.specs.declared.transitions.{Transition.TheVariants.Loads, TransitionNext.TheVariants.{Made, More, Undefined}}
use Rattle.percpu_rwsem.specs.declared.transitions.TransitionNext.{TransitionNext}

-- callback: take the one that is queued, wait for a grace period, and make its transition
abbrev pub callback_next : Callback → CallbackStep → WordName × Touch
callback_next b (Claims transition) = transition_next b.level transition
callback_next b (AwaitsSections grace) = (Section grace.task, Load)
callback_next b (CallsBack transition) = transition_next b.level transition

-- the same callback, with this step to come
abbrev pub at_callback : Callback → CallbackStep → Callback
at_callback b step = record b { step = step }

-- what comes after a step of the claim: where none is queued, no callback ran
abbrev pub claimed : Callback → TransitionNext → Next Callback
claimed b (More transition) = Go (at_callback b (Claims transition))
claimed b Undefined = Done (Ok (Ran false))
claimed b (Made state) = Go (at_callback b (AwaitsSections (started b.tasks)))

-- what comes after a load of a section word
abbrev pub callback_looked : Callback → GraceNext → Next Callback
callback_looked b (MoreSections grace) = Go (at_callback b (AwaitsSections grace))
callback_looked b (WaitsFor grace) = Wait (at_callback b (AwaitsSections grace))
callback_looked b Ended = Go (at_callback b (CallsBack Loads))

-- what comes after a step of its own transition
abbrev pub called_back : Callback → TransitionNext → Next Callback
called_back b (More transition) = Go (at_callback b (CallsBack transition))
called_back b Undefined = Go (at_callback b (CallsBack Loads))
called_back b (Made state) = Done (Ok (Ran true))

-- what comes after each step of a callback, in its own phases, none of which adds an action
abbrev pub callback_after : Callback → CallbackStep → ℕ → Next Callback × Option Action
callback_after b (Claims transition) found = (claimed b (transition_after on_claim transition found), None)
callback_after b (AwaitsSections grace) found = (callback_looked b (looked grace found), None)
callback_after b (CallsBack transition) found = (called_back b (transition_after on_callback transition found), None)
