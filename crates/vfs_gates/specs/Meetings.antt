-- Tasks that meet, receipts of what was seen, and states before and after a call. A caller finds the words for it here, too.
use Rattle.std.specs.Prelude.{◌≡◌, false, ℕ, ◌<◌, ◌≤◌, ◌⊎◌, List, [], ◌∷◌, ◌++◌}
use mathlib.Core.Option.{some}
use lib.ListN.{get_elem?}
pub use Rattle.atomic_table.specs.Seated.{TableId}
use Rattle.access_model.specs.Histories.{Done, own_part}
use Rattle.access_model.specs.declared.actions.{Action.{Action, TheVariants.{Leave, MountRo, MountRw, SbRo, SbRw}}, Holder.{Holder}}
pub use Rattle.gate_world.specs.declared.{config.Config.{Config}, entries.Entry.{Entry}}
use Rattle.gate_world.specs.{Shown.{shown}, Views.{held_at}, Worlds.{World}, declared.{operations.Op.{Op, TheVariants.{Want, WantWrite}}, views.View.{View}}}
use Rattle.gate_steps.specs.{Meetings.{StandsNow}, Seating.{DealtNumbers, HaveHistory, numbered, times}, call_events.Grown.{StaySeen}}
use Rattle.vfs_gates.specs.{declared.gates.Gates.{Gates}, Held.{own_actions}, TaskStates.{SeatedTask, own_number, own_view}}

-- Two tasks meet: the numbers of both stand in one state, which goes on from all that either had seen. From then on both have seen it. Nothing
-- else of them changes.
pub record Meets (one two one_left two_left : SeatedTask) : Type 0 where
  pub config : two.config ≡ one.config
  pub seen : List (List Entry)
  pub first : one_left ≡ record one { seen = seen }
  pub second : two_left ≡ record two { seen = seen }
  pub stand : StandsNow one.config (one.items ++ two.items) (one.seen ++ two.seen) seen

-- what callers know of a receipt: the table that it is of, and what was seen
pub record SeenState : Type 0 where
  pub table : TableId
  pub seen : List (List Entry)

-- the task holds an access at this mount
abbrev pub HoldsAt : ℕ → SeatedTask → Type 0
HoldsAt m s = 1 ≤ held_at (own_view s.items) m

-- two tasks have all numbers of their gates between them
abbrev pub HaveAll : SeatedTask → SeatedTask → Type 0
HaveAll one two = (n : ℕ) → n < one.config.tasks → 1 ≤ times n (one.items ++ two.items)

-- these numbers have this one, with this list of actions
pub record HasDone (n : ℕ) (list : List Action) (items : DealtNumbers) : Type 0 where
  pub place : ℕ
  pub view : View
  pub there : get_elem? items place ≡ some (numbered n view)
  pub done : view.actions ≡ list

-- Some numbers stand in a state that a task has seen when it calls, and some in one that goes on from what the call leaves.
pub record Encloses (before after : DealtNumbers) (old left : SeatedTask) : Type 0 where
  pub first_seen : List (List Entry)
  pub first : HaveHistory old.config before first_seen
  pub saw : StaySeen first_seen old.seen
  pub last_seen : List (List Entry)
  pub last : HaveHistory old.config after last_seen
  pub sees : StaySeen left.seen last_seen

-- it is of these gates
abbrev pub IsOf : SeenState → Gates → Type 0
IsOf r g = r.table ≡ g.words.table.shared.table_id

-- the action makes a mount read-only
abbrev pub Shuts : ℕ → Action → Type 0
Shuts m a = (a ≡ MountRo m) ⊎ (a ≡ SbRo)

-- or may make it writable
abbrev pub Reopens : ℕ → Action → Type 0
Reopens m a = (a ≡ MountRw m) ⊎ (a ≡ SbRw)

-- the action gives this holder's freeze back
abbrev pub Thaws : Holder → Action → Type 0
Thaws h a = a ≡ Leave h

-- the action makes the superblock read-only
abbrev pub Seals : Action → Type 0
Seals a = a ≡ SbRo

-- none of these actions is such a one
abbrev pub NoneIs : (Action → Type 0) → List Action → Type 0
NoneIs Is [] = Unit {0}
NoneIs Is (a ∷ earlier) = (Is a → ⊥) × NoneIs Is earlier

-- no number has in the second of two states such an action that it has not in the first
abbrev pub NoneSince : (Action → Type 0) → Config → World → World → Type 0
NoneSince Is c first last =
    (t : ℕ) → t < c.tasks → (added : List Action) × ((last.views t).actions ≡ added ++ (first.views t).actions) × NoneIs Is added

-- none of these numbers has done such an action
abbrev pub NoneDone : (Action → Type 0) → DealtNumbers → Type 0
NoneDone Is [] = Unit {0}
NoneDone Is (x ∷ xs) = NoneIs Is x.view.actions × NoneDone Is xs

-- the superblock is writable
abbrev pub IsWritable : Config → World → Type 0
IsWritable c w = (shown c w).sb_ro ≡ false

-- an operation that takes an access at this mount
abbrev pub TakesMount : ℕ → Op → Type 0
TakesMount m (Want k p wait) = k ≡ m
TakesMount m (WantWrite k p) = k ≡ m
TakesMount m op = ⊥

-- A call begins in a state in which its task's numbers stand as they did, and which goes on from all that the task had seen. What the call leaves goes
-- on from that state.
pub record BeginsIn (c : Config) (items : DealtNumbers) (seen left : List (List Entry)) : Type 0 where
  pub began : List Entry
  pub all : HaveHistory c items (began ∷ [])
  pub from : StaySeen seen (began ∷ [])
  pub on : StaySeen (began ∷ []) left

-- In a state that was seen this number had this list.
pub record SawList (c : Config) (n : ℕ) (list : List Action) (seen : List (List Entry)) : Type 0 where
  pub items : DealtNumbers
  pub then : List (List Entry)
  pub history : HaveHistory c items then
  pub there : HasDone n list items
  pub saw : StaySeen then seen

-- In the history that a call leaves, all that this number had done by this list, and what it may have done since, stands before all that was added
-- since the call began; and what the call has added to its task's list is among the latter.
pub record ComesAfterList (n : ℕ) (list : List Action) (old left : SeatedTask) : Type 0 where
  pub all : HaveHistory old.config left.items left.seen
  pub since : List Done
  pub before : List Done
  pub is : all.history.log ≡ since ++ before
  pub more : List Action
  pub behind : own_part n before ≡ more ++ list
  pub adds : own_actions left ≡ own_part (own_number old.items) since ++ own_actions old
