-- What is printed of a step, and of a run.
use Rattle.std.specs.Prelude.{ℕ, Bool, true, false, List, [], ◌++◌, Option, Some, None}
use Rattle.access_model.specs.declared.actions.Action.{Action}
use Rattle.cpu_words.specs.declared.events.Event.{Event}
use Rattle.gate_transitions.specs.declared.steps.{Progress.{Progress, TheVariants.{Idle, Going, Waiting, Done}}, Step.{Step}}
use Rattle.schedule_lines.specs.Printing.{event_line, idle_line, waiting_line, answer_line}

-- the task has to look or try again
abbrev pub is_waiting : Progress → Bool
is_waiting Idle = false
is_waiting Going = false
is_waiting Waiting = true
is_waiting (Done answer) = false

-- the reply where the operation has ended
abbrev pub reply_after : ℕ → Progress → ℕ → List ℕ
reply_after task Idle used = []
reply_after task Going used = []
reply_after task Waiting used = []
reply_after task (Done answer) used = answer_line task answer used

-- a step with its reply, where there is one; or that there was none, as the task is idle
abbrev pub event_and_reply : ℕ → Option Event → Option Action → Progress → ℕ → List ℕ
event_and_reply task None action progress used = idle_line task
event_and_reply task (Some event) action progress used =
    event_line task event action (is_waiting progress) ++ reply_after task progress used

-- the line of a step, and the reply where there is one
unfoldable pub step_text : ℕ → Step → ℕ → List ℕ
step_text task step used = event_and_reply task step.event step.action step.progress used

-- how a run ended
unfoldable pub ended_text : ℕ → Progress → ℕ → List ℕ
ended_text task Idle used = idle_line task
ended_text task Going used = waiting_line task
ended_text task Waiting used = waiting_line task
ended_text task (Done answer) used = answer_line task answer used
