-- Calls in the order of time: where the steps of a call stand in a schedule that goes on from all that its task had seen.
use Rattle.std.specs.Prelude.{Err, List, None, Some, [], if◌then◌else◌, ℕ, ◌++◌, ◌<◌, ◌==◌, ◌∷◌, ◌≡◌}
use Rattle.access_model.specs.{Histories.{Done, own_part}, declared.{actions.Action.Action, errors.GateError.GateError}}
use Rattle.access_model.specs.declared.replies.Next.TheVariants.{Done as Ended}
use Rattle.cpu_words.specs.Touches.{event_of}
use Rattle.gate_world.specs.{Configs.IsWithin, Headline.{actions_since, actions_so_far, world_after}, Moments.IsPresentTree}
use Rattle.gate_world.specs.{Views.{phase_after, with_hook}, Work.{after_of, next_of}, Worlds.{World, found_at, task_of}}
use Rattle.gate_world.specs.declared.{config.Config.Config, entries.Entry.{Entry, TheVariants.{Begins, Steps}}, operations.Op.Op, views.Traced.Traced}
use Rattle.gate_world.specs.{declared.work.Phase.Phase, refusals.Causes.{HasCause, since_begun, trail, trail_of}, traces.TraceStates.state_of_trace}
use Rattle.gated_tree.specs.declared.trees.TreeWords.{TreeWords}
use Rattle.gate_steps.specs.{Seating.{DealtNumbers, HasRested, IsPrefix}, call_events.SeatedTasks.own_number, declared.seating.Numbered.Numbered}
use lib.ListN.{get_elem?}
use mathlib.Core.Option.{some}

-- the transitions of this number among these
abbrev pub own_entries : ℕ → List Entry → List Entry
own_entries n [] = []
own_entries n (e ∷ es) = if task_of e == n then e ∷ own_entries n es else own_entries n es

-- the transitions of these steps, the oldest first: a trace has the newest first
abbrev pub steps_of : ℕ → List Traced → List Entry
steps_of n [] = []
steps_of n (e ∷ earlier) = steps_of n earlier ++ Steps n e.hook ∷ []

-- the states of a schedule since this number began an operation, the newest first: after that beginning, and after each transition since
abbrev pub worlds_since : Config → List Entry → ℕ → Op → List Entry → List World
worlds_since c began n op since = trail c [] (world_after c (began ++ Begins n op ∷ [])) since

-- A schedule goes on from all that a task had seen. The task's own number has no transition behind one of these and is idle, and each of its numbers
-- has done just what the task knew.
pub record GoesOnFromSeen (c : Config) (items : DealtNumbers) (seen : List (List Entry)) (began : List Entry) : Type 0 where
  pub saw : (k : ℕ) (earlier : List Entry) → get_elem? seen k ≡ some earlier → IsPrefix earlier began
  pub rested : HasRested (own_number items) seen began
  pub idle : ((world_after c began).views (own_number items)).phase ≡ None
  pub lists : (k : ℕ) (x : Numbered) → get_elem? items k ≡ some x → ((world_after c began).views x.number).actions ≡ x.view.actions

-- A step of a call happens right after this schedule: in its state the operation is under way with just the earlier steps, and the step
-- finds there what it says that it found.
pub record HappensAfter (c : Config) (n : ℕ) (op : Op) (earlier : List Traced) (e : Traced) (entries : List Entry) : Type 0 where
  pub phase : Phase
  pub comes : phase_after (state_of_trace c n op earlier).comes ≡ Some phase
  pub at : ((world_after c entries).views n).phase ≡ Some phase
  pub under_way : ((world_after c entries).views n).op ≡ Some op
  pub events : ((world_after c entries).views n).trace ≡ earlier
  pub finds : e ≡ with_hook (event_of (next_of phase e.hook).0 (next_of phase e.hook).1
      (found_at (world_after c entries).words phase e.hook)) e.hook

-- A step of a call has its moment between call and return. The call began after a schedule that goes on from all that its task had seen. From
-- there to the step the task has no transition but the beginning and the call's earlier steps; the states in between are those since the task
-- began the operation, as the causes of refusals speak of them. And the schedule with which the call returns goes on from the step.
pub record IsEventDuring (c : Config) (items : DealtNumbers) (op : Op) (earlier : List Traced) (e : Traced)
    (seen left : List (List Entry)) : Type 0 where
  pub within : IsWithin c
  pub task : own_number items < c.tasks
  pub began : List Entry
  pub begins : GoesOnFromSeen c items seen began
  pub since : List Entry
  pub own : own_entries (own_number items) since ≡ steps_of (own_number items) earlier
  pub entries : List Entry
  pub is : entries ≡ began ++ Begins (own_number items) op ∷ since
  pub moments : since_begun (own_number items) (trail_of c entries) ≡ worlds_since c began (own_number items) op since
  pub happens : HappensAfter c (own_number items) op earlier e entries
  pub rest : List Entry
  pub leaves : left ≡ (entries ++ Steps (own_number items) e.hook ∷ rest) ∷ []

-- A refusal has its cause between call and return: among the states from the call's beginning to its last step, with which it returns.
pub record IsCausedDuring (c : Config) (items : DealtNumbers) (op : Op) (earlier : List Traced) (last : Traced) (refusal : GateError)
    (seen left : List (List Entry)) : Type 0 where
  pub during : IsEventDuring c items op earlier last seen left
  pub returns : during.rest ≡ []
  pub ends : (after_of during.happens.phase (found_at (world_after c during.entries).words during.happens.phase last.hook) last.hook).0 ≡
      Ended (Err refusal)
  pub cause : HasCause c (own_number items) (worlds_since c during.began (own_number items) op during.since) during.happens.phase refusal

-- the same of an operation's whole trace
abbrev pub HasItsCauseDuring : Config → DealtNumbers → Op → List Traced → GateError → List (List Entry) → List (List Entry) → Type 0
HasItsCauseDuring c items op [] refusal seen left = ⊥
HasItsCauseDuring c items op (last ∷ earlier) refusal seen left = IsCausedDuring c items op earlier last refusal seen left

-- What a call has loaded is the tree of a moment between call and return, at which everything was frozen.
pub record IsTreeDuring (c : Config) (items : DealtNumbers) (op : Op) (seen left : List (List Entry)) (loaded : TreeWords) : Type 0 where
  pub earlier : List Traced
  pub last : Traced
  pub during : IsEventDuring c items op earlier last seen left
  pub tree : IsPresentTree c (world_after c during.entries).words loaded

-- A whole call takes effect between call and return. It began after a schedule that goes on from all that its task had seen, and returns with
-- one that goes on from there, in which its task has no other transition than the beginning and the call's steps, each once and in their order. The
-- actions of the history that it leaves are, the newest first, those that were added since it began, and then all that stood there when it did,
-- among which is all that each of its numbers had done; and its own among those added since are exactly the call's.
pub record TakesEffect (c : Config) (items : DealtNumbers) (op : Op) (trace : List Traced) (seen left : List (List Entry))
    (log : List Done) : Type 0 where
  pub began : List Entry
  pub begins : GoesOnFromSeen c items seen began
  pub since : List Entry
  pub own : own_entries (own_number items) since ≡ Begins (own_number items) op ∷ steps_of (own_number items) trace
  pub leaves : left ≡ (began ++ since) ∷ []
  pub grows : log ≡ actions_since c began since ++ actions_so_far c began
  pub had : (k : ℕ) (x : Numbered) → get_elem? items k ≡ some x → own_part x.number (actions_so_far c began) ≡ x.view.actions
  pub added : own_part (own_number items) (actions_since c began since) ≡ (state_of_trace c (own_number items) op trace).added

-- A history has, the newest first, what was done during a later call, then what was done between the two, then what was done during an earlier
-- one, and then what was done before it. These actions are each number's own in its part.
pub record AreInOrder (one : ℕ) (first : List Action) (two : ℕ) (second : List Action) (log : List Done) : Type 0 where
  pub later : List Done
  pub between : List Done
  pub earlier : List Done
  pub before : List Done
  pub is : log ≡ later ++ (between ++ (earlier ++ before))
  pub of_first : own_part one earlier ≡ first
  pub of_second : own_part two later ≡ second
