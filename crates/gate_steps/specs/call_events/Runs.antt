-- Whole operations of a task, from the beginning to the reply.
use Rattle.std.specs.Prelude.{Bool, Err, List, None, Ok, Option, Result, Some, [], false, ℕ, ◌++◌, ◌∷◌, ◌≡◌}
use Rattle.access_model.specs.declared.{errors.GateError.GateError, replies.{Next.{Next, TheVariants.{Done, Go, Wait}}, Reply.Reply}}
use Rattle.access_model.specs.declared.replies.Reply.TheVariants.{Node as NodeReply, Ran}
use Rattle.cpu_words.specs.{Touches.event_of, declared.events.Event.Event}
use Rattle.gate_transitions.specs.declared.steps.Progress.{Progress, TheVariants.{Done as Ended, Going, Idle, Waiting}}
use Rattle.gate_world.specs.{Views.{phase_after, with_hook}, Work.next_of, declared.{config.Config.Config, entries.Entry.Entry, operations.Op.Op}}
use Rattle.gate_world.specs.declared.{views.{Snapshot.Snapshot, Traced.Traced, View.View}, work.Phase.Phase}
use Rattle.gate_world.specs.traces.{Snapshots.{completes, last_snapshot}, TraceStates.{IsTrace, state_of_trace}}
use Rattle.gate_world.specs.traces.Traces.{IsHonestAnswer, IsShort, MayWait, actions_of, most_events}
use Rattle.gated_tree.specs.declared.trees.TreeWords.{TreeWords}
use Rattle.gate_steps.specs.{Seating.{DealtNumbers, HasWitness, HaveHistory, done_by, numbered}, call_events.Grown.StaySeen}
use Rattle.gate_steps.specs.call_events.{Refused.{IsUnchangedBy, WaitsHonestly}, SeatedTasks.{SeatedTask, own_number, own_view, refusal_at}}

-- the steps of a trace before earlier ones, the newest first
abbrev pub events_onto : List Traced → List Event → List Event
events_onto [] earlier = earlier
events_onto (e ∷ es) earlier = e.event ∷ events_onto es earlier

-- what the snapshot has loaded that a step completes, of an operation that stood there after these steps
abbrev pub completed_by : Next Phase → List Traced → Traced → Option TreeWords
completed_by (Go phase) earlier e = completes phase earlier e.event.found
completed_by (Wait phase) earlier e = completes phase earlier e.event.found
completed_by (Done answer) earlier e = None

-- the last snapshot of a number that began an operation with this view, after these steps of it, the newest first, where each other
-- number of its task has done so many actions
abbrev pub ran_snapshot : Config → ℕ → Op → List (ℕ × ℕ) → List Traced → View → Option Snapshot
ran_snapshot c t op others [] v = v.snapshot
ran_snapshot c t op others (e ∷ earlier) v =
    last_snapshot (completed_by (state_of_trace c t op earlier).comes earlier e) ((state_of_trace c t op earlier).added ++ v.actions) others
    (ran_snapshot c t op others earlier v)

-- and its view
abbrev pub ran_view : Config → ℕ → Op → List (ℕ × ℕ) → List Traced → View → View
ran_view c t op others trace v = record {
  op = Some op;
  phase = phase_after (state_of_trace c t op trace).comes;
  actions = (state_of_trace c t op trace).added ++ v.actions;
  events = events_onto trace v.events;
  trace = trace;
  before = v.actions;
  snapshot = ran_snapshot c t op others trace v;
}

-- the numbers of a task whose own number did so
abbrev pub ran_items : Config → Op → List Traced → DealtNumbers → DealtNumbers
ran_items c op trace [] = []
ran_items c op trace (x ∷ xs) = numbered x.number (ran_view c x.number op (done_by xs) trace x.view) ∷ xs

-- the operation that begins with the next step
abbrev pub begins_at : Op → List Traced → Option Op
begins_at op [] = Some op
begins_at op (e ∷ earlier) = None

-- the numbers as they stand before the next step
abbrev pub items_at : Config → Op → List Traced → DealtNumbers → DealtNumbers
items_at c op [] items = items
items_at c op (e ∷ earlier) items = ran_items c op (e ∷ earlier) items

-- the step was one of this phase in a state that the invariant holds of, in which the numbers have their views, and it moved the shown state
-- by its action
abbrev pub IsMoveOf : Config → Op → DealtNumbers → List Traced → Traced → List (List Entry) → List (List Entry) → Phase → Type 0
IsMoveOf c op items earlier e seen left phase =
    (found : ℕ) × (e ≡ with_hook (event_of (next_of phase e.hook).0 (next_of phase e.hook).1 found) e.hook)
    × HasWitness c (begins_at op earlier) phase e.hook (items_at c op earlier items) found seen left

-- the step was such a move of the phase that comes next
abbrev pub IsNextMove : Config → Op → DealtNumbers → List Traced → Traced → List (List Entry) → List (List Entry) → Next Phase → Type 0
IsNextMove c op items earlier e seen left (Go phase) = IsMoveOf c op items earlier e seen left phase
IsNextMove c op items earlier e seen left (Wait phase) = IsMoveOf c op items earlier e seen left phase
IsNextMove c op items earlier e seen left (Done answer) = ⊥

-- After a step a task may see more before the next one: it met another task, or took in a receipt. What it had seen stays seen. Before its
-- first step an operation begins from just what was seen.
abbrev pub SeesOn : List Traced → List (List Entry) → List (List Entry) → Type 0
SeesOn [] before now = now ≡ before
SeesOn (e ∷ earlier) before now = StaySeen before now

-- Each step was such a move of the phase that came next before it, from what the task had seen then. That goes on from what the step before
-- left, and the first from what the task had seen: so each one's schedule goes on from that of the one before.
abbrev pub AreMoves : Config → Op → DealtNumbers → List (List Entry) → List Traced → List (List Entry) → Type 0
AreMoves c op items seen [] left = left ≡ seen
AreMoves c op items seen (e ∷ earlier) left = (saw : List (List Entry)) ×
    IsNextMove c op items earlier e saw left (state_of_trace c (own_number items) op earlier).comes ×
    (before : List (List Entry)) × SeesOn earlier before saw × AreMoves c op items seen earlier before

-- the same up to now, when this is seen
abbrev pub AreMovesSoFar : Config → Op → DealtNumbers → List (List Entry) → List Traced → List (List Entry) → Type 0
AreMovesSoFar c op items seen trace now =
    (before : List (List Entry)) × SeesOn trace before now × AreMoves c op items seen trace before

-- an operation that has a most number of steps
abbrev pub IsBounded : Option ℕ → Type 0
IsBounded None = ⊥
IsBounded (Some most) = Unit {0}

-- what a call tells of an answer, where it reads a reply so
abbrev pub told_as : {A : Type 0} → (Reply → A) → Result Reply GateError → Result A GateError
told_as read (Ok reply) = Ok (read reply)
told_as read (Err refusal) = Err refusal

-- a call that tells the whole reply
abbrev pub the_reply : Reply → Reply
the_reply reply = reply

-- a call that tells only whether the operation was done
abbrev pub unit_of : Reply → Unit {0}
unit_of reply = tt

-- a call that tells the node that it took
abbrev pub node_of : Reply → ℕ
node_of (NodeReply node) = node
node_of reply = 0

-- a call that tells whether a callback ran
abbrev pub ran_of : Reply → Bool
ran_of (Ran ran) = ran
ran_of reply = false

-- what a callback replies: whether one ran
abbrev pub IsRanReply : Reply → Type 0
IsRanReply (Ran ran) = Unit {0}
IsRanReply reply = ⊥

-- One whole operation. Its steps are a trace of it that ends in this answer. The own view has done just these steps and their
-- actions, and nothing else of the task changed. Each step was a move in a state that the invariant holds of. So it has added exactly the
-- operation's actions, a refusal has its cause in the trace and leaves all unchanged, it waits only where it may, and where the operation has
-- a most number of steps, they are no more. What it leaves has one history, in which each last snapshot has its moment.
pub record Called (op : Op) (old left : SeatedTask) (answer : Result Reply GateError) : Type 0 where
  pub trace : List Traced
  pub follows : IsTrace old.config (own_number old.items) op trace
  pub ends : (state_of_trace old.config (own_number old.items) op trace).comes ≡ Done answer
  pub after : left ≡ record old { begins = None; phase = None; items = ran_items old.config op trace old.items; seen = left.seen }
  pub moves : AreMoves old.config op old.items old.seen trace left.seen
  pub added : (state_of_trace old.config (own_number old.items) op trace).added ≡ actions_of op answer trace
  pub honest : IsHonestAnswer old.config op answer trace
  pub unchanged : IsUnchangedBy answer (state_of_trace old.config (own_number old.items) op trace).added (own_view old.items) (own_view left.items)
  pub waits : WaitsHonestly old.config (own_number old.items) op trace
  pub short : IsShort (most_events old.config op) trace
  pub history : HaveHistory old.config left.items left.seen

-- An operation whose beginning is refused changes nothing, and any other is done whole. The call tells its answer as it reads replies.
pub record Replies {A : Type 0} (read : Reply → A) (op : Op) (old left : SeatedTask) (outcome : Result A GateError) : Type 0 where
  pub table : left.table ≡ old.table
  pub config : left.config ≡ old.config
  pub refused : (refusal : GateError) → refusal_at op old ≡ Some refusal → (outcome ≡ Err refusal) × (left ≡ old)
  pub done : refusal_at op old ≡ None → (answer : Result Reply GateError) × (outcome ≡ told_as read answer) × Called op old left answer

-- the same of a call that tells only whether the operation was done
abbrev pub Performs : Op → SeatedTask → SeatedTask → Result (Unit {0}) GateError → Type 0
Performs op old left outcome = Replies unit_of op old left outcome

-- an operation under way, after these steps
pub record OpUnderWay (op : Op) (start now : SeatedTask) : Type 0 where
  pub trace : List Traced
  pub admitted : refusal_at op start ≡ None
  pub table : now.table ≡ start.table
  pub config : now.config ≡ start.config
  pub follows : IsTrace start.config (own_number start.items) op trace
  pub phase : now.phase ≡ phase_after (state_of_trace start.config (own_number start.items) op trace).comes
  pub going : (q : Phase) × (now.phase ≡ Some q)
  pub begins : now.begins ≡ begins_at op trace
  pub items : now.items ≡ items_at start.config op trace start.items
  pub moves : AreMovesSoFar start.config op start.items start.seen trace now.seen

-- what comes after the last step: it goes on, or it was done whole
abbrev pub OpAfterStep : Op → SeatedTask → Next Phase → SeatedTask → Type 0
OpAfterStep op start (Go phase) now = OpUnderWay op start now
OpAfterStep op start (Wait phase) now = OpUnderWay op start now
OpAfterStep op start (Done answer) now = Called op start now answer

-- The same as a step tells it: the operation goes on, or waits for others where it may, or was done whole.
abbrev pub ProgressMatches : Op → SeatedTask → Progress → SeatedTask → Type 0
ProgressMatches op start Idle now = ⊥
ProgressMatches op start Going now = OpUnderWay op start now
ProgressMatches op start Waiting now = (goes : OpUnderWay op start now) × MayWait start.config op goes.trace
ProgressMatches op start (Ended answer) now = Called op start now answer

-- some operation that has a most number of steps is under way here
pub record IsTrying (now : SeatedTask) : Type 0 where
  pub op : Op
  pub start : SeatedTask
  pub goes : OpUnderWay op start now
  pub tries : IsBounded (most_events start.config op)
