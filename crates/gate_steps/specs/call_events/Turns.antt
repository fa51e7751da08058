-- What one step leaves of a task's fields, apart from the task.
use Rattle.std.specs.Prelude.{Bool, List, None, Option, Some, ℕ}
use Rattle.{access_model.specs.{declared.{actions.Action.Action, replies.Next.Next}}, cpu_words.specs.declared.events.Event.Event}
use Rattle.gate_transitions.specs.{Answers.progress_of, declared.{steps.Step.Step, task_states.TaskState.TaskState}}
use Rattle.gate_world.specs.declared.{accesses.Accesses.Accesses, config.Config.Config, operations.Op.Op, work.Phase.Phase}
use Rattle.gate_steps.specs.{Seating.DealtNumbers, call_events.GhostAgrees.GhostAgrees}

-- what is kept of a task whose operation stands there
abbrev pub state_at : Option Phase → Accesses → TaskState
state_at phase accesses = record { phase = phase; accesses = accesses }

-- some task's fields are what its seat at the table knows, and its operation stands there
pub record StateAgrees (c : Config) (begins : Option Op) (phase : Option Phase) (accesses : Accesses) (items : DealtNumbers) : Type 0 where
  pub number : ℕ
  pub flags : List Bool
  pub ghost_agrees : GhostAgrees number c begins (state_at phase accesses) flags items

-- the fields of a task that were what its seat knew are so again
abbrev pub AgreesAfter : Config → Option Op → Option Phase → Accesses → DealtNumbers → Option Phase → Accesses → DealtNumbers → Type 0
AgreesAfter c begins phase accesses items left accesses_left items_left =
    (number : ℕ) (flags : List Bool) → GhostAgrees number c begins (state_at phase accesses) flags items →
    GhostAgrees number c None (state_at left accesses_left) flags items_left

-- the step that was done
abbrev pub step_was : Event → Option Action → Next Phase → Step
step_was event action next = record { event = Some event; action = action; progress = progress_of next }
