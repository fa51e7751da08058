-- What a task holds at run time, and what an action leaves of it.
use Rattle.std.specs.Prelude.{◌+◌, ◌-◌, true, false, Option, Some, None, slice_index, slice_index_or, slice_set, replicate}
use Rattle.access_model.specs.declared.actions.{Action.{Action, TheVariants.{Grant, Return, Open, Close}}, Gate.TheVariants.{Mount, Level}}
use Rattle.gate_world.specs.{Holdings.Holdings, declared.accesses.Accesses.Accesses}

-- this, as one value
abbrev pub held_in : Accesses → Holdings
held_in held = record {
  mounts = slice_index held.mounts;
  levels = λ i. slice_index_or held.levels i false;
  files = λ n. slice_index_or held.files n false;
}

-- nothing is held
abbrev pub no_accesses : Accesses
no_accesses = record { mounts = replicate 8 0; levels = replicate 4 false; files = replicate 64 false }

-- what an action, if there is one, leaves: a grant adds an access, a return takes one away, and any other changes nothing
abbrev pub accesses_after : Accesses → Option Action → Accesses
accesses_after held None = held
accesses_after held (Some (Grant (Mount m))) = record held { mounts = slice_set held.mounts m (slice_index held.mounts m + 1) }
accesses_after held (Some (Grant (Level i))) = record held { levels = slice_set held.levels i true }
accesses_after held (Some (Return (Mount m))) = record held { mounts = slice_set held.mounts m (slice_index held.mounts m - 1) }
accesses_after held (Some (Return (Level i))) = record held { levels = slice_set held.levels i false }
accesses_after held (Some (Open n)) = record held { files = slice_set held.files n true }
accesses_after held (Some (Close n)) = record held { files = slice_set held.files n false }
accesses_after held (Some a) = held
