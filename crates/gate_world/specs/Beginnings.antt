-- Beginnings: where an operation starts, and why it can't. A beginning has no step.
use Rattle.std.specs.Prelude.{ℕ, Bool, if◌then◌else◌, Option, Some, None, is_some, Result, Ok, Err}
use Rattle.access_model.specs.declared.errors.GateError.{GateError, TheVariants.{Invalid, Order, TooMany}}
use Rattle.gate_world.specs.{Holdings.Holdings, Operations.row, Views.held_of}
use Rattle.gate_world.specs.declared.{config.Config.Config, operations.Op.Op, views.View.View, work.Phase.Phase}

-- the first phase of an operation
abbrev pub first_phase : Config → ℕ → Op → Phase
first_phase c t op = (row op).first c t

-- its numbers are in range
abbrev pub is_in_range : Config → Op → Bool
is_in_range c op = (row op).in_range c

-- it may be begun by a task that holds this
abbrev pub is_in_order : Config → Holdings → Op → Bool
is_in_order c held op = (row op).in_order c held

-- it would not give the task more than it may hold
abbrev pub is_within_room : Holdings → Op → Bool
is_within_room held op = (row op).within_room held

-- Why an operation can't begin, the first in this order: another is under way; a number of it is out of range; the task holds what
-- it must not find held, or doesn't hold what it gives back; the task would hold too many accesses, or have a file open twice.
abbrev pub refusal : Config → Bool → Holdings → Op → Option GateError
refusal c under_way held op =
    if under_way then Some Order else
    if is_in_range c op then
    (if is_in_order c held op then (if is_within_room held op then None else Some TooMany) else Some Order) else
    Some Invalid

-- the same, of what a view's actions leave
abbrev pub view_refusal : Config → View → Op → Option GateError
view_refusal c v op = refusal c (is_some v.phase) (held_of v) op

-- this, but the refusal where there is one
abbrev pub or_refusal : {A : Type 0} → A → Option GateError → Result A GateError
or_refusal x None = Ok x
or_refusal x (Some refused) = Err refused

-- what a beginning answers: the operation's first phase, or why it can't begin
abbrev pub beginning : Config → ℕ → Bool → Holdings → Op → Result Phase GateError
beginning c t under_way held op = or_refusal (first_phase c t op) (refusal c under_way held op)
