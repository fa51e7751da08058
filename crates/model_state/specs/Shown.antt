-- The model's fields as the limits and the state that they stand for.
use Rattle.std.specs.Prelude.{ℕ, ◌<◌, ◌≤◌, Bool, false, Option, None, List, [], slice_index, slice_index_or, vec_len}
use Rattle.access_model.specs.declared.actions.{Action.{Action}, Gate.{Gate, TheVariants.{Mount, Level}}, NodeInfo.{NodeInfo}}
use Rattle.access_model.specs.{States.{Limits, State, BoundedState, opening_state}, Actions.{after_action}}
use Rattle.model_state.specs.declared.model.{Accesses.{Accesses}, Model.{Model}}

-- no access at any mount or level, and no file open
abbrev pub nothing : Accesses
nothing = record { mounts = []; levels = []; files = [] }

-- one more access fits
abbrev pub HasRoom : Accesses → Gate → Type 0
HasRoom held (Mount m) = (m < 8) × (slice_index held.mounts m < 1024)
HasRoom held (Level i) = i ≤ 3

-- there is an access to give back
abbrev pub HasAccess : Accesses → Gate → Type 0
HasAccess held (Mount m) = (m < 8) × (0 < slice_index held.mounts m)
HasAccess held (Level i) = i ≤ 3

-- how many accesses a task holds at a mount; none where there is no such task
abbrev pub held_of : List Accesses → ℕ → ℕ → ℕ
held_of accesses t = slice_index (slice_index_or accesses t nothing).mounts

-- whether a task is inside a level
abbrev pub inside_of : List Accesses → ℕ → ℕ → Bool
inside_of accesses t i = slice_index_or (slice_index_or accesses t nothing).levels i false

-- whether a task has a file open
abbrev pub opens_of : List Accesses → ℕ → ℕ → Bool
opens_of accesses t n = slice_index_or (slice_index_or accesses t nothing).files n false

-- the mounts' read-only flags, false where there is no such mount
abbrev pub flags_of : List Bool → ℕ → Bool
flags_of flags m = slice_index_or flags m false

-- the nodes, None where a node is free or there is none
abbrev pub tree_of : List (Option NodeInfo) → ℕ → Option NodeInfo
tree_of nodes n = slice_index_or nodes n None

-- a model as its callers see it
unfoldable pub bounded_state_of : Model → BoundedState
bounded_state_of model = record {
  limits = record { tasks = model.tasks; mounts = model.mounts; nodes = vec_len model.nodes; capacity = model.capacity };
  state = record {
    mounts = held_of model.accesses.items;
    levels = inside_of model.accesses.items;
    opens = opens_of model.accesses.items;
    mount_ro = flags_of model.mount_ro;
    sb_ro = model.sb_ro;
    stage = model.stage;
    holders = model.holders;
    passed = model.passed;
    tree = tree_of model.nodes.items;
  };
}

-- the numbers of the model
abbrev pub limits_of : Model → Limits
limits_of model = (bounded_state_of model).limits

-- the state of the model
abbrev pub state_of : Model → State
state_of model = (bounded_state_of model).state

-- the same model after an action
abbrev pub bounded_state_after : BoundedState → ℕ → Action → BoundedState
bounded_state_after bounded task action = record { limits = bounded.limits; state = after_action bounded.state task action }

-- a new model of these limits
abbrev pub opened : ℕ → ℕ → ℕ → ℕ → BoundedState
opened tasks mounts nodes capacity = record {
  limits = record { tasks = tasks; mounts = mounts; nodes = nodes; capacity = capacity };
  state = opening_state;
}
