-- What a seat knows: task numbers, each with its view. The first is its own, the others it has still to give.
use Rattle.std.specs.Prelude.{◌≡◌, ℕ, zero, suc, ◌+◌, ◌==◌, ◌<◌, ◌≤◌, cond, Option, Some, None, List, [], ◌∷◌, ◌++◌, length}
use mathlib.Core.Option.{some}
use lib.ListN.{get_elem?}
pub use Rattle.access_model.specs.States.{one_if}
use Rattle.cpu_words.specs.Hooks.{HookAnswer}
use Rattle.gate_world.specs.declared.{config.Config.{Config}, operations.Op.{Op}, work.Phase.{Phase}, views.{View.{View}, Traced.{Traced}}}
use Rattle.gate_world.specs.{Configs.{IsWithin}, Views.{opening_view, begun_view, view_after_with_others}}
use Rattle.gate_world.specs.Beginnings.{first_phase, view_refusal}
use Rattle.gate_world.specs.Worlds.{World, after_begin, found_at, after_step_with_others, phase_action, task_of, with_action}
use Rattle.gate_world.specs.{declared.entries.Entry.{Entry}, Work.{next_of}, traces.TraceStates.{ReadIsValid}, Shown.{shown}}
use Rattle.gate_world.specs.Rules.{IsGood, Moves}
use Rattle.gate_steps.specs.Histories.{HasHistory, IsReached, then_begins, then_steps}
use Rattle.gate_steps.specs.declared.seating.{Numbered.Numbered, Knowledge.Knowledge}

-- the numbers that a seat has
abbrev pub DealtNumbers : Type 0
DealtNumbers = List Numbered

-- a number with its view
abbrev pub numbered : ℕ → View → Numbered
numbered n v = record { number = n; view = v }

-- these numbers, and these schedules seen
abbrev pub knows : DealtNumbers → List (List Entry) → Knowledge
knows items seen = record { items = items; seen = seen }

-- the numbers of what a seat knows
abbrev pub items_of : Knowledge → DealtNumbers
items_of k = k.items

-- none of these transitions is of that number
abbrev pub NoneOf : ℕ → List Entry → Type 0
NoneOf n [] = Unit {0}
NoneOf n (e ∷ es) = (task_of e ≡ n → ⊥) × NoneOf n es

-- an earlier schedule is a prefix of this one
abbrev pub IsPrefix : List Entry → List Entry → Type 0
IsPrefix earlier now = (since : List Entry) × (now ≡ earlier ++ since)

-- since one of those seen no transition is of that number
pub record HasRested (n : ℕ) (seen : List (List Entry)) (now : List Entry) : Type 0 where
  pub place : ℕ
  pub earlier : List Entry
  pub there : get_elem? seen place ≡ some earlier
  pub since : List Entry
  pub is : now ≡ earlier ++ since
  pub none : NoneOf n since

-- how often a number stands among these
abbrev pub times : ℕ → DealtNumbers → ℕ
times n [] = 0
times n (x ∷ xs) = one_if (x.number == n) + times n xs

-- the same among several seats
abbrev pub times_all : ℕ → List DealtNumbers → ℕ
times_all n [] = 0
times_all n (l ∷ ls) = times n l + times_all n ls

-- the numbers of a seat have these views
abbrev pub HaveViews : (ℕ → View) → DealtNumbers → Type 0
HaveViews views items = (k : ℕ) (x : Numbered) → get_elem? items k ≡ some x → views x.number ≡ x.view

-- the schedule goes on from each that the seat has seen, and each number of the seat has rested since one of them
pub record HaveSeen (now : List Entry) (items : DealtNumbers) (seen : List (List Entry)) : Type 0 where
  pub goes_on : (k : ℕ) (earlier : List Entry) → get_elem? seen k ≡ some earlier → IsPrefix earlier now
  pub rested : (n : ℕ) → 1 ≤ times n items → HasRested n seen now

-- some state that the invariant holds of, with one history, in which the numbers of a seat have these views
pub record HaveHistory (c : Config) (items : DealtNumbers) (seen : List (List Entry)) : Type 0 where
  pub within : IsWithin c
  pub world : World
  pub good : IsGood c world
  pub history : HasHistory c world
  pub mine : HaveViews world.views items
  pub last : seen ≡ history.reached.entries ∷ []

-- numbers are dealt: each number of a task stands in just one seat, once, there is no other, and what stands beside it is its view
pub record Dealt (tasks : ℕ) (views : ℕ → View) (seats : List DealtNumbers) : Type 0 where
  pub once : (n : ℕ) → n < tasks → times_all n seats ≡ 1
  pub no_other : (n : ℕ) → tasks ≤ n → times_all n seats ≡ 0
  pub same : (id : ℕ) (items : DealtNumbers) → get_elem? seats id ≡ some items → HaveViews views items

-- a number with this view may do the step of this phase: it is at the phase, or the phase is the first of an operation that it
-- may begin
abbrev pub NumberMayStep : Config → Option Op → Phase → Numbered → Type 0
NumberMayStep c None phase x = x.view.phase ≡ Some phase
NumberMayStep c (Some op) phase x = (view_refusal c x.view op ≡ None) × (phase ≡ first_phase c x.number op)

-- the seat's own number may
abbrev pub OwnNumberMayStep : Config → Option Op → Phase → DealtNumbers → Type 0
OwnNumberMayStep c begins phase [] = ⊥
OwnNumberMayStep c begins phase (x ∷ xs) = NumberMayStep c begins phase x

-- the view with which the step begins
abbrev pub entered : View → Option Op → Phase → View
entered v None phase = v
entered v (Some op) phase = begun_view v op phase

-- and the state
abbrev pub world_entered : Config → World → ℕ → Option Op → World
world_entered c w t None = w
world_entered c w t (Some op) = after_begin c w t op

-- how many actions each of these numbers has done
abbrev pub done_by : DealtNumbers → List (ℕ × ℕ)
done_by [] = []
done_by (x ∷ xs) = (x.number, length x.view.actions) ∷ done_by xs

-- what the seat knows after the step, which found this
abbrev pub items_after : Option Op → Phase → HookAnswer → ℕ → DealtNumbers → DealtNumbers
items_after begins phase hook found [] = []
items_after begins phase hook found (x ∷ xs) =
    numbered x.number (view_after_with_others (done_by xs) (entered x.view begins phase) phase found hook) ∷ xs

-- the state that the step leaves, of a seat that has these other numbers to give
abbrev pub world_left : Config → World → Option Op → Phase → HookAnswer → ℕ → DealtNumbers → World
world_left c w begins phase hook n others = after_step_with_others (done_by others) (world_entered c w n begins) n phase hook

-- The step happened in some state that the invariant holds of, with one history, in which the seat's numbers have their views, and the seat's own
-- number may do it. What it left
-- is such a state too, in which they have the views that the seat knows then. It moves the shown state by its action, and its history is
-- the one before with this action. What it found is what its word may hold. Its schedule is the one before with the beginning, where the
-- operation has just begun, and with this step: between the two it makes the state in which the step happened.
pub record StepWitness (c : Config) (begins : Option Op) (phase : Phase) (hook : HookAnswer) (x : Numbered) (xs : DealtNumbers)
    (n : ℕ) (seen left_seen : List (List Entry)) : Type 0 where
  pub within : IsWithin c
  pub world : World
  pub task : x.number < c.tasks
  pub may : NumberMayStep c begins phase x
  pub before : IsGood c world
  pub mine : HaveViews world.views (x ∷ xs)
  pub found : n ≡ found_at world.words phase hook
  pub holds : ReadIsValid phase (next_of phase hook).0 n
  pub after : IsGood c (world_left c world begins phase hook x.number xs)
  pub moves : Moves c (shown c world) x.number (phase_action world hook (Some phase))
      (shown c (world_left c world begins phase hook x.number xs))
  pub past : HasHistory c world
  pub from : HaveSeen past.reached.entries (x ∷ xs) seen
  pub history : HasHistory c (world_left c world begins phase hook x.number xs)
  pub grows : history.log ≡ with_action x.number (phase_action world hook (Some phase)) past.log
  pub reached : IsReached c past.log (world_entered c world x.number begins)
  pub begun : reached.entries ≡ then_begins x.number begins past.reached.entries
  pub stepped : history.reached.entries ≡ then_steps x.number hook reached.entries
  pub leaves : left_seen ≡ history.reached.entries ∷ []
  pub stands : (world_entered c world x.number begins).views x.number ≡ entered x.view begins phase
  pub left : HaveViews (world_left c world begins phase hook x.number xs).views (items_after begins phase hook n (x ∷ xs))

-- the same of a seat's own number, which is its first
abbrev pub HasWitness : Config → Option Op → Phase → HookAnswer → DealtNumbers → ℕ → List (List Entry) → List (List Entry) → Type 0
HasWitness c begins phase hook [] found seen left = ⊥
HasWitness c begins phase hook (x ∷ xs) found seen left = StepWitness c begins phase hook x xs found seen left

-- what the one play says: the seat's own view is what the step makes of it, nothing else of the seat changed, and it was a step
-- in a state that the invariant holds of
abbrev pub happened : Config → Option Op → Phase → HookAnswer → Knowledge × List (ℕ × Unit {0}) → ℕ → Knowledge × List (ℕ × Unit {0}) → Type 0
happened c begins phase hook me found after = (after.0.items ≡ items_after begins phase hook found me.0.items) × (after.1 ≡ me.1) ×
    HasWitness c begins phase hook me.0.items found me.0.seen after.0.seen

-- these numbers but for one
abbrev pub without : ℕ → DealtNumbers → DealtNumbers
without n [] = []
without n (x ∷ xs) = cond (x.number == n) (without n xs) (x ∷ without n xs)

-- the view of a number among these
abbrev pub view_in : ℕ → DealtNumbers → View
view_in n [] = opening_view
view_in n (x ∷ xs) = cond (x.number == n) x.view (view_in n xs)

-- The trace with which another task takes over: none where no operation is under way. Where one is, what it has noted by its loads is a
-- part of what it does, and stays.
abbrev pub trace_kept : Option Phase → List Traced → List Traced
trace_kept None trace = []
trace_kept (Some phase) trace = trace

-- the view with which another task takes over: no operation of its own yet
abbrev pub renewed : View → View
renewed v = record v { op = None; trace = trace_kept v.phase v.trace; snapshot = None }

-- what a seat keeps that gives a number
abbrev pub kept_of : ℕ → DealtNumbers → DealtNumbers
kept_of n [] = []
kept_of n (x ∷ xs) = x ∷ without n xs

-- and what it gives
abbrev pub given_of : ℕ → DealtNumbers → DealtNumbers
given_of n [] = []
given_of n (x ∷ xs) = numbered n (renewed (view_in n xs)) ∷ []

-- both have seen what the seat has
abbrev pub known_kept : ℕ → Knowledge → Knowledge
known_kept n k = knows (kept_of n k.items) k.seen

abbrev pub known_given : ℕ → Knowledge → Knowledge
known_given n k = knows (given_of n k.items) k.seen

-- a seat that takes back another's numbers has seen what that one has, too
abbrev pub known_both : Knowledge → Knowledge → Knowledge
known_both mine others = knows (mine.items ++ others.items) (mine.seen ++ others.seen)

-- the number is one that the seat has still to give
abbrev pub Spares : ℕ → DealtNumbers → Type 0
Spares n [] = ⊥
Spares n (x ∷ xs) = 1 ≤ times n xs

-- so many numbers from n on, which have done nothing
abbrev pub deal : ℕ → ℕ → DealtNumbers
deal n zero = []
deal n (suc k) = numbered n opening_view ∷ deal (suc n) k
