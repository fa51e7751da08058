-- Histories: lists of actions with their tasks, the newest first.
use Rattle.std.specs.Prelude.{◌≡◌, ℕ, ◌==◌, Bool, false, List, [], ◌∷◌, if◌then◌else◌}
use Rattle.access_model.specs.{declared.actions.Action.{Action}, States.{Limits, State, opening_state}}
use Rattle.access_model.specs.Actions.{IsAllowed, after_action, mounts_after, levels_after, opens_after}

-- an action with the number of its task
abbrev pub Done : Type 0
Done = ℕ × Action

-- the state after all of them
abbrev pub end_of : List Done → State
end_of [] = opening_state
end_of (a ∷ earlier) = after_action (end_of earlier) a.0 a.1

-- each action is allowed in the state that the earlier ones leave
abbrev pub IsLegal : Limits → List Done → Type 0
IsLegal l [] = Unit {0}
IsLegal l (a ∷ earlier) = IsAllowed l (end_of earlier) a.0 a.1 × IsLegal l earlier

-- the actions of one task
abbrev pub own_part : ℕ → List Done → List Action
own_part t [] = []
own_part t (a ∷ earlier) = if a.0 == t then a.1 ∷ own_part t earlier else own_part t earlier

-- a history whose part for each task is that task's own list
abbrev pub IsMerge : (ℕ → List Action) → List Done → Type 0
IsMerge lists history = (t : ℕ) → own_part t history ≡ lists t

-- the accesses that a task's own list leaves
abbrev pub mounts_of : List Action → ℕ → ℕ
mounts_of [] = λ m. 0
mounts_of (a ∷ earlier) = mounts_after a (mounts_of earlier)

-- whether a task's own list leaves it inside a level
abbrev pub levels_of : List Action → ℕ → Bool
levels_of [] = λ i. false
levels_of (a ∷ earlier) = levels_after a (levels_of earlier)

-- whether a task's own list leaves it with a file open
abbrev pub opens_of : List Action → ℕ → Bool
opens_of [] = λ n. false
opens_of (a ∷ earlier) = opens_after a (opens_of earlier)
