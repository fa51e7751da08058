-- A state, which is the words and one view per task number, and what a transition does to it.
use Rattle.std.specs.Prelude.{List, None, Option, Some, [], if◌then◌else◌, nat_lt, ℕ, ◌∷◌}
use Rattle.access_model.specs.{Histories.Done, declared.{actions.Action.Action, errors.GateError.{GateError, TheVariants.Invalid}}}
use Rattle.{cpu_words.specs.{Hooks.HookAnswer, Touches.{found_by, left}, Words.{Words, opening_words, put, read}}, finite_sums.specs.Sums.update}
use Rattle.gate_world.specs.{Beginnings.{first_phase, view_refusal}, Views.{begun_view, opening_view, view_after_with_others}}
use Rattle.gate_world.specs.{Work.{after_of, next_of}, declared.{config.Config.Config, entries.Entry.{Entry, TheVariants.{Begins, Steps}}}}
use Rattle.gate_world.specs.declared.{operations.Op.Op, views.View.View, work.Phase.Phase}

-- the words, and what is known of each task number
pub record World : Type 0 where
  pub words : Words
  pub views : ℕ → View

-- no such task, before all else
abbrev pub begin_refusal : Config → World → ℕ → Op → Option GateError
begin_refusal c w t op = if nat_lt t c.tasks then view_refusal c (w.views t) op else Some Invalid

-- the state in which a task has begun an operation: a beginning changes no word
abbrev pub after_begin : Config → World → ℕ → Op → World
after_begin c w t op = record { words = w.words; views = update w.views t (begun_view (w.views t) op (first_phase c t op)) }

-- the words after the next step of a phase
abbrev pub words_after : Words → Phase → HookAnswer → Words
words_after w phase hook = put w (next_of phase hook).0 (left (next_of phase hook).1 (read w (next_of phase hook).0))

-- the value that the next step finds in its word
abbrev pub value_at : Words → Phase → HookAnswer → ℕ
value_at w phase hook = read w (next_of phase hook).0

-- what the next step says that it found
abbrev pub found_at : Words → Phase → HookAnswer → ℕ
found_at w phase hook = found_by (next_of phase hook).1 (value_at w phase hook)

-- the state after the next step of a number that is at this phase, where each other number of its task has done so many actions
abbrev pub after_step_with_others : List (ℕ × ℕ) → World → ℕ → Phase → HookAnswer → World
after_step_with_others others w t phase hook = record {
  words = words_after w.words phase hook;
  views = update w.views t (view_after_with_others others (w.views t) phase (value_at w.words phase hook) hook);
}

-- the same of a task that has no other number, as each task of an execution
abbrev pub after_step : World → ℕ → Phase → HookAnswer → World
after_step w t phase hook = after_step_with_others [] w t phase hook

-- the same of what a task is at: an idle task does nothing
abbrev pub step_of : World → ℕ → HookAnswer → Option Phase → World
step_of w t hook None = w
step_of w t hook (Some phase) = after_step w t phase hook

-- the state after a beginning, which is refused for this reason or not
abbrev pub begin_of : Config → World → ℕ → Op → Option GateError → World
begin_of c w t op None = after_begin c w t op
begin_of c w t op (Some refused) = w

-- what a transition does: a refused beginning does nothing, nor does a step of a task that is idle or isn't there
abbrev pub happens : Config → World → Entry → World
happens c w (Begins t op) = begin_of c w t op (begin_refusal c w t op)
happens c w (Steps t hook) = if nat_lt t c.tasks then step_of w t hook (w.views t).phase else w

-- the state after a list of transitions
abbrev pub run : Config → World → List Entry → World
run c w [] = w
run c w (e ∷ es) = run c (happens c w e) es

-- all words as they begin, and nothing done
abbrev pub opening : World
opening = record { words = opening_words; views = λ t. opening_view }

-- the action that a transition adds
abbrev pub phase_action : World → HookAnswer → Option Phase → Option Action
phase_action w hook None = None
phase_action w hook (Some phase) = (after_of phase (found_at w.words phase hook) hook).1

-- the action that a transition adds: a beginning adds none
abbrev pub action_of : Config → World → Entry → Option Action
action_of c w (Begins t op) = None
action_of c w (Steps t hook) = if nat_lt t c.tasks then phase_action w hook (w.views t).phase else None

-- whose transition it is
abbrev pub task_of : Entry → ℕ
task_of (Begins t op) = t
task_of (Steps t hook) = t

-- a history with one action more, if there is one
abbrev pub with_action : ℕ → Option Action → List Done → List Done
with_action t None earlier = earlier
with_action t (Some a) earlier = (t, a) ∷ earlier

-- the history of an execution that goes on from this state and these earlier actions
abbrev pub history : Config → World → List Done → List Entry → List Done
history c w earlier [] = earlier
history c w earlier (e ∷ es) = history c (happens c w e) (with_action (task_of e) (action_of c w e) earlier) es
