-- What is known of one task number, and what its next step makes of it.
use Rattle.std.specs.Prelude.{Bool, List, None, Option, Some, [], ℕ, ◌+◌, ◌∷◌, ◌≡◌}
use Rattle.access_model.specs.{Histories.{levels_of, mounts_of, opens_of}, declared.{actions.Action.Action, replies.Next.Next}}
use Rattle.access_model.specs.declared.replies.Next.TheVariants.{Done, Go, Wait}
use Rattle.cpu_words.specs.{Hooks.HookAnswer, Touches.{event_of, found_by}, declared.events.{Event.Event, Touch.{TheVariants.{Add, Sub}, Touch}}}
use Rattle.cpu_words.specs.declared.names.WordName.{TheVariants.MountCount, WordName}
use Rattle.finite_sums.specs.Sums.{update}
use Rattle.gate_world.specs.{Holdings.{Holdings, holdings_of}, Work.{after_of, next_of}, declared.{operations.Op.Op, views.Traced.Traced}}
use Rattle.gate_world.specs.{declared.{views.View.View, work.Phase.Phase}, traces.Snapshots.{completes, last_snapshot}}

-- nothing is held and nothing was done
abbrev pub opening_view : View
opening_view = record { op = None; phase = None; actions = []; events = []; trace = []; before = []; snapshot = None }

-- what it holds: what its actions leave
abbrev pub held_of : View → Holdings
held_of v = holdings_of v.actions

-- the accesses
abbrev pub held_at : View → ℕ → ℕ
held_at v = mounts_of v.actions

-- the same of the levels
abbrev pub holds_level : View → ℕ → Bool
holds_level v = levels_of v.actions

-- and of the open files
abbrev pub has_open : View → ℕ → Bool
has_open v = opens_of v.actions

-- net additions are what was added to a mount's count word less what was taken away: each is a sum over the steps
abbrev pub added_after : WordName → Touch → (ℕ → ℕ → ℕ) → ℕ → ℕ → ℕ
added_after (MountCount m p) (Add n) added = update added m (update (added m) p (added m p + n))
added_after word touch added = added

-- what was taken away after one step more
abbrev pub taken_after : WordName → Touch → (ℕ → ℕ → ℕ) → ℕ → ℕ → ℕ
taken_after (MountCount m p) (Sub n) taken = update taken m (update (taken m) p (taken m p + n))
taken_after word touch taken = taken

-- what these steps added to each count word
abbrev pub added_by : List Event → ℕ → ℕ → ℕ
added_by [] = λ m p. 0
added_by (e ∷ earlier) = added_after e.word e.touch (added_by earlier)

-- what these steps took from each count word
abbrev pub taken_by : List Event → ℕ → ℕ → ℕ
taken_by [] = λ m p. 0
taken_by (e ∷ earlier) = taken_after e.word e.touch (taken_by earlier)

-- where the operation stands after a step
abbrev pub phase_after : Next Phase → Option Phase
phase_after (Go phase) = Some phase
phase_after (Wait phase) = Some phase
phase_after (Done answer) = None

-- an action, if there is one, on top of the earlier ones
abbrev pub actions_after : Option Action → List Action → List Action
actions_after None actions = actions
actions_after (Some a) actions = a ∷ actions

-- a step with the hook's answer that it read
abbrev pub with_hook : Event → HookAnswer → Traced
with_hook e hook = record { event = e; hook = hook }

-- the view after a step of this word and touch, which found this value in the word and after which this comes
abbrev pub view_with : View → WordName × Touch → ℕ → HookAnswer → Next Phase × Option Action → View
view_with v next value hook after = record {
  op = v.op;
  phase = phase_after after.0;
  actions = actions_after after.1 v.actions;
  events = event_of next.0 next.1 value ∷ v.events;
  trace = with_hook (event_of next.0 next.1 value) hook ∷ v.trace;
  before = v.before;
  snapshot = v.snapshot;
}

-- the view after the next step of a phase, on a word that held this value, where each other number of its task has done so many
-- actions: a snapshot that the step completes notes them
abbrev pub view_after_with_others : List (ℕ × ℕ) → View → Phase → ℕ → HookAnswer → View
view_after_with_others others v phase value hook =
    record (view_with v (next_of phase hook) value hook (after_of phase (found_by (next_of phase hook).1 value) hook)) {
      snapshot = last_snapshot (completes phase v.trace (found_by (next_of phase hook).1 value)) v.actions others v.snapshot;
    }

-- the same, where its task has no other number
abbrev pub view_after : View → Phase → ℕ → HookAnswer → View
view_after v phase value hook = view_after_with_others [] v phase value hook

-- it holds what it held when its operation began
abbrev pub HoldsAsBefore : View → Type 0
HoldsAsBefore v = held_of v ≡ holdings_of v.before

-- the view of a task that has begun an operation: it notes what it has done so far
abbrev pub begun_view : View → Op → Phase → View
begun_view v op phase = record v { op = Some op; phase = Some phase; trace = []; before = v.actions }
