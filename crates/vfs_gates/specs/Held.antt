-- What a task holds between two calls, and what whole calls leave of it.
use Rattle.access_model.specs.declared.{actions.{Action.{Action, TheVariants.{Grant, Return}}, Gate.Gate}, errors.GateError.GateError}
use Rattle.gate_world.specs.{Views.held_of, declared.operations.Op.{Op, TheVariants.{Close, DropMount, DropWrite, End, Open, Start, Want, WantWrite}}}
use Rattle.std.specs.Prelude.{Bool, List, Ok, Result, false, true, ◌∷◌, ◌≡◌}
use Rattle.vfs_gates.specs.TaskStates.{HoldsNothing, IsIdle, SeatedTask, own_number, own_view}

-- no operation is under way, and nothing is held
abbrev pub Rests : SeatedTask → Type 0
Rests s = IsIdle s × HoldsNothing s

-- the actions of a task's own number, the newest first
abbrev pub own_actions : SeatedTask → List Action
own_actions s = (own_view s.items).actions

-- A task that is between two calls as it was: it came from the same gates, has its own number, and holds what it held.
pub record IsAsBefore (before after : SeatedTask) : Type 0 where
  pub table : after.table ≡ before.table
  pub config : after.config ≡ before.config
  pub own : own_number after.items ≡ own_number before.items
  pub idle : IsIdle after
  pub held : held_of (own_view after.items) ≡ held_of (own_view before.items)

-- an operation that takes no access and gives none back, and neither opens nor closes a file
abbrev pub takes_nothing : Op → Bool
takes_nothing (Want m p wait) = false
takes_nothing (DropMount m p) = false
takes_nothing (Start i p wait) = false
takes_nothing (End i p) = false
takes_nothing (WantWrite m p) = false
takes_nothing (DropWrite m p) = false
takes_nothing (Open file) = false
takes_nothing (Close file p wait) = false
takes_nothing op = true

-- A return that was not refused, of an access that was granted just before: both stand in the task's list, and it is as it was.
pub record IsGivenBack (gate : Gate) (before after : SeatedTask) (outcome : Result (Unit {0}) GateError) : Type 0 where
  pub done : outcome ≡ Ok tt
  pub list : own_actions after ≡ Return gate ∷ (Grant gate ∷ own_actions before)
  pub as_before : IsAsBefore before after
