-- What a task holds, of every kind, as one value.
use Rattle.std.specs.Prelude.{Bool, List, None, Option, Some, ℕ, ◌<◌, ◌≡◌, ◌≤◌}
use Rattle.access_model.specs.{Actions.{levels_after, mounts_after, opens_after}, Histories.{levels_of, mounts_of, opens_of}}
use Rattle.access_model.specs.declared.actions.Action.{Action}
use Rattle.gate_world.specs.declared.config.Config.{Config}

-- so many accesses at each mount, whether it is inside each level, and which files it has open
pub record Holdings : Type 0 where
  pub mounts : ℕ → ℕ
  pub levels : ℕ → Bool
  pub files : ℕ → Bool

-- what a task's own list of actions leaves
abbrev pub holdings_of : List Action → Holdings
holdings_of actions = record { mounts = mounts_of actions; levels = levels_of actions; files = opens_of actions }

-- what an action, if there is one, leaves
abbrev pub held_after : Option Action → Holdings → Holdings
held_after None held = held
held_after (Some a) held =
    record { mounts = mounts_after a held.mounts; levels = levels_after a held.levels; files = opens_after a held.files }

-- they agree at each mount that there is, at each level and of each file, so that what may be done with the one may be done with the other
pub record Agree (c : Config) (held seen : Holdings) : Type 0 where
  pub mounts : (m : ℕ) → m < c.mounts → held.mounts m ≡ seen.mounts m
  pub levels : (i : ℕ) → 1 ≤ i → i ≤ 3 → held.levels i ≡ seen.levels i
  pub files : (n : ℕ) → held.files n ≡ seen.files n
