-- The fields of a task are what its seat at the table knows.
use Rattle.gate_transitions.specs.{TaskStates.task_holdings, declared.task_states.TaskState.TaskState}
use Rattle.gate_world.specs.{Configs.IsWithin, Fits.Fits, Holdings.Agree, Views.held_of, declared.{config.Config.Config, operations.Op.Op}}
use Rattle.gate_world.specs.declared.{views.View.View, work.Phase.Phase}
use Rattle.std.specs.Prelude.{Bool, List, None, Option, Some, [], false, length, slice_index_or, true, ℕ, ◌<◌, ◌∷◌, ◌≡◌, ◌≤◌}
use Rattle.gate_steps.specs.{Seating.{DealtNumbers, NumberMayStep, times}, call_events.SeatedTasks.Empty, declared.seating.Numbered.Numbered}

-- the view stands where the task does: no operation is under way in either, or the task may do the step of its phase
abbrev pub PhaseOk : Config → Option Op → Option Phase → Numbered → Type 0
PhaseOk c begins None x = (begins ≡ None) × (x.view.phase ≡ None)
PhaseOk c begins (Some phase) x = NumberMayStep c begins phase x

-- a view that is idle and holds nothing
abbrev pub IsStill : Config → View → Type 0
IsStill c v = (v.phase ≡ None) × Empty c v

-- all are
abbrev pub AllRest : Config → DealtNumbers → Type 0
AllRest c [] = Unit {0}
AllRest c (x ∷ xs) = IsStill c x.view × AllRest c xs

-- the flags mark just the numbers that stand here
abbrev pub Marks : List Bool → DealtNumbers → Type 0
Marks flags items = (n : ℕ) → (slice_index_or flags n false ≡ true → 1 ≤ times n items) ×
    (1 ≤ times n items → slice_index_or flags n false ≡ true)

-- what is kept of what the task holds is what the view's actions leave
pub record Keeps (c : Config) (state : TaskState) (v : View) : Type 0 where
  pub long : length state.accesses.mounts ≡ 8
  pub wide : length state.accesses.levels ≡ 4
  pub deep : length state.accesses.files ≡ 64
  pub held : Agree c (task_holdings state) (held_of v)

pub record OwnNumberAgrees (number : ℕ) (c : Config) (begins : Option Op) (state : TaskState) (flags : List Bool) (x : Numbered) (xs : DealtNumbers) : Type 0
  where
    pub within : IsWithin c
    pub same_number : x.number ≡ number
    pub below : number < 64
    pub may : PhaseOk c begins state.phase x
    pub fits : Fits c x.number (held_of x.view) state.phase
    pub keeps : Keeps c state x.view
    pub rest : AllRest c xs
    pub marks : Marks flags xs

-- the fields agree with the numbers of the seat, its own first
abbrev pub GhostAgrees : ℕ → Config → Option Op → TaskState → List Bool → DealtNumbers → Type 0
GhostAgrees number c begins state flags [] = ⊥
GhostAgrees number c begins state flags (x ∷ xs) = OwnNumberAgrees number c begins state flags x xs
