-- Numbers that bound a replay.
use Rattle.std.specs.Prelude.{ℕ, ◌≤◌, Bool, ◌&&◌, nat_le}
use Rattle.gate_world.specs.declared.config.Config.{Config}

-- a line, or the one after the last line that a schedule may have
abbrev pub IsLineNumber : ℕ → Type 0
IsLineNumber line = (1 ≤ line) × (line ≤ 1048577)

-- a number between two others, these among them
abbrev pub is_between : ℕ → ℕ → ℕ → Bool
is_between least number most = nat_le least number && nat_le number most

-- the numbers of a configuration are within the limits
abbrev pub is_config : Config → Bool
is_config c = is_between 1 c.tasks 64 && (is_between 1 c.processors 64 && (is_between 1 c.mounts 8 && is_between 2 c.nodes 64))
